use mir.Syntax.{w64}
use mir.ValLaws.{to_z-of_z}
use Rattle.quietest.proofs.Signed.{tested}
use Rattle.quietest.proofs.search.better.Goals as goal

pub returns-then-spread-best : goal.returns-then-spread-best
returns-then-spread-best c =
    let args = c.args in
    let fits = c.ranges.spread in
    simp (to_z-of_z w64 args.spread fits, tested w64 args.spread args.best.spread fits (record { sfits = c.struct_told-1.given.1.0.1 }) c.if-spread-best.true)

pub returns-else-spread-best : goal.returns-else-spread-best
returns-else-spread-best c =
    let args = c.args in
    let fits = c.ranges.spread in
    simp (tested w64 args.spread args.best.spread fits (record { sfits = c.struct_told-1.given.1.0.1 }) c.if-spread-best.false)
