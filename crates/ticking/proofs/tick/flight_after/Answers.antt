-- `ticking::tick::flight_after` meets its contract.
use borrow.Author.Rules.{rules}
use Rattle.unit.proofs.Tests.{tests}
use Rattle.device.specs.Tick.{flight_after, flight_ticked}
use Rattle.ticking.proofs.tick.flight_after.Goals as goal

pub returns-then-fails : goal.returns-then-fails
unfolding flight_after flight_ticked
returns-then-fails c = search (rules, tests)

pub returns-else-fails : goal.returns-else-fails
unfolding flight_after flight_ticked
returns-else-fails c = search (rules, tests)
