-- `ticking::stretch::quiet_clock` meets its contract.
use borrow.Author.Rules.{rules}
use Rattle.unit.proofs.Tests.{tests}
use Rattle.device.specs.StretchSteps.{quiet_clock}
use Rattle.ticking.proofs.stretch.quiet_clock.Goals as goal

pub returns-then-clock_stands : goal.returns-then-clock_stands
unfolding quiet_clock
returns-then-clock_stands c = search (rules, tests)

pub returns-else-clock_stands : goal.returns-else-clock_stands
unfolding quiet_clock
returns-else-clock_stands c = search (rules, tests)
