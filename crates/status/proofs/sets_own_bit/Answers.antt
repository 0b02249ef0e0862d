-- `status::sets_own_bit` meets its contract.
use borrow.Author.Rules.{rules}
use Rattle.unit.proofs.Tests.{tests}
use Rattle.device.specs.Status.{sets_own_bit}
use Rattle.status.proofs.sets_own_bit.Goals as goal

pub returns-then-not-in_event : goal.returns-then-not-in_event
unfolding sets_own_bit
returns-then-not-in_event c = search (rules, tests)

pub returns-else-not-in_event : goal.returns-else-not-in_event
unfolding sets_own_bit
returns-else-not-in_event c = search (rules, tests)
