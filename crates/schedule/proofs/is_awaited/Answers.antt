-- `schedule::is_awaited` meets its contract.
use borrow.Author.Rules.{rules}
use Rattle.unit.proofs.Tests.{tests}
use Rattle.device.specs.Event.{is_awaited}
use Rattle.schedule.proofs.is_awaited.Goals as goal

pub returns : goal.returns
unfolding is_awaited
returns c = search (rules, tests)
