-- `ticking::tick::clock_ticked` meets its contract.
use borrow.Author.Rules.{rules}
use Rattle.unit.proofs.Tests.{tests}
use Rattle.device.specs.Tick.{clock_ticked}
use Rattle.ticking.proofs.tick.clock_ticked.Goals as goal

pub returns-then-clock_stands : goal.returns-then-clock_stands
unfolding clock_ticked
returns-then-clock_stands c = search (rules, tests)

pub returns-else-clock_stands : goal.returns-else-clock_stands
unfolding clock_ticked
returns-else-clock_stands c = search (rules, tests)
