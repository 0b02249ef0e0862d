use mathlib.Core.Path.{sym, ap, ◌∙◌}
use native.Mathlib.Omega.{arith}
use Rattle.unit.proofs.Says.{says}
use Rattle.quietest.specs.declared.search.Found.{Found}
use Rattle.std.specs.Prelude.{Result, Ok, Err}
use Rattle.refusal.specs.declared.Refusal.{Refusal}
use Rattle.refusal.specs.Number.{number, number_told, values_told, value_told}
use Rattle.quietest.proofs.Inside.{refused-zero, refused-long, accepted}
use Rattle.quietest.proofs.quietest_place.Goals as goal

pub returns-then-width-eq0 : goal.returns-then-width-eq0
returns-then-width-eq0 c = says (sym (refused-zero c.args.values.now c.args.width c.if-width-eq0.true))

pub returns-then-values-width : goal.returns-then-values-width
returns-then-values-width c = says (sym (refused-long c.args.values.now c.args.width c.if-values-width.true))

pub returns : goal.returns
returns c =
    let args = c.args in
    says (ap (λ (f : Found). Ok f.start) c.search_all-found.ensures ∙ sym (accepted args.values.now args.width (omega arith) (omega arith)))
