-- `thermometer::degrees_by` meets its contract.
use mathlib.Core.Path.{sym, ◌∙◌}
use Rattle.unit.proofs.Says.{says}
use Rattle.thermometer.specs.Degrees.{degrees_by}
use Rattle.thermometer.proofs.Accepted.{accepted-usable}
use Rattle.thermometer.proofs.degrees_by.Goals as goal

pub degrees_over-requires : goal.degrees_over-requires
degrees_over-requires c =
    accepted-usable c.args.table.now (sym c.is_accepted.ensures ∙ c.if-is_accepted.true)

pub returns-then-is_accepted : goal.returns-then-is_accepted
unfolding degrees_by
returns-then-is_accepted c = says (rw (← c.is_accepted.ensures, c.if-is_accepted.true) c.degrees_over.ensures)

pub returns-else-is_accepted : goal.returns-else-is_accepted
unfolding degrees_by
returns-else-is_accepted c = says (rw (← c.is_accepted.ensures, c.if-is_accepted.false))
