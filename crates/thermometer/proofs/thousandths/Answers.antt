-- `thermometer::thousandths` meets its contract.
use mathlib.Core.Path.{sym, ◌∙◌}
use native.Mathlib.Omega.{arith}
use Rattle.thermometer.specs.Degrees.{interpolated}
use Rattle.thermometer.proofs.Meaning.{between, last_of}
use Rattle.thermometer.proofs.thousandths.Goals as goal

pub returns-then-table-end : goal.returns-then-table-end
returns-then-table-end c =
    let start = c in
    sym
    (last_of c.args.table.now c.args.r c.requires.0.rises (omega arith) c.if-table-end.true)

pub returns : goal.returns
unfolding interpolated
returns c =
    let found = c.place-i in
    let start = c in
    c.interpolated.ensures ∙
    sym
    (between c.args.table.now c.requires.0.rises found.result c.args.r found.ensures)
