-- `schedule::fails` meets its contract.
use borrow.Author.Rules.{rules}
use Rattle.unit.proofs.Tests.{tests}
use Rattle.device.specs.Event.{fails}
use Rattle.schedule.proofs.fails.Goals as goal

pub returns : goal.returns
unfolding fails
returns c = search (rules, tests)
