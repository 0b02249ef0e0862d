use Rattle.std.proofs.Common.{arith, ◌∙◌, ◌/◌}
use mir.Syntax.{w64}
use mir.ValLaws.{to_z-of_z}
use Rattle.quietest.proofs.Join.{one-start, two-groups}
use Rattle.quietest.proofs.search.+search.Goals as goal

pub returns-then-count-eq1 : goal.returns-then-count-eq1
returns-then-count-eq1 t c =
    let args = c.args in
    one-start args.values.now args.width args.from args.count c.if-count-eq1.true
    c.requires.shared_value c.requires.best_value
    (to_z-of_z w64 c.spread_of.result (record { sfits = c.spread_of.type_inv }) ∙ c.spread_of.ensures) c.better.ensures

pub returns : goal.returns
returns t c =
    let args = c.args in
    two-groups args.values.now args.width args.best.start args.from (args.count / 2) args.count (omega arith)
    c.search-next.ensures c.search.ensures
