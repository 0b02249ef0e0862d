-- `ticking::tick::flight_ticked` meets its contract.
use borrow.Author.Rules.{rules}
use Rattle.unit.proofs.Tests.{tests}
use Rattle.device.specs.Tick.{flight_ticked}
use Rattle.ticking.proofs.tick.flight_ticked.Goals as goal

pub returns : goal.returns
unfolding flight_ticked
returns c = search (rules, tests)
