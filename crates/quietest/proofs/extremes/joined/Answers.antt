use mathlib.Core.Path.{◌∙◌}
use borrow.Author.Rules.{rules}
use mir.Syntax.{w32}
use mir.Val.{SFits}
use Rattle.quietest.proofs.Order.{larger-max, smaller-min}
use Rattle.quietest.proofs.Signed.{back, both-back}
use Rattle.quietest.specs.Quietest.{larger, smaller}
use Rattle.quietest.proofs.extremes.joined.Goals as goal

pub returns : goal.returns
returns c =
    let high = c.max in
    let low = c.min in
    let a = c.args.a in
    let b = c.args.b in
    let ah : SFits w32 a.high = search rules in
    let al : SFits w32 a.low = search rules in
    let bh : SFits w32 b.high = search rules in
    let bl : SFits w32 b.low = search rules in
    let highs = back high.result high.type_inv ∙ high.ensures.value ∙ larger-max _ _ ∙ both-back larger a.high b.high ah.sfits bh.sfits in
    let lows = back low.result low.type_inv ∙ low.ensures.value ∙ smaller-min _ _ ∙ both-back smaller a.low b.low al.sfits bl.sfits in
    λ i. record { high = highs i; low = lows i }
