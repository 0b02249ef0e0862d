-- `schedule::wait_sound` meets its contract.
use borrow.Author.Rules.{rules}
use Rattle.unit.proofs.Tests.{tests}
use Rattle.device.specs.Event.{wait_sound}
use Rattle.schedule.proofs.wait_sound.Goals as goal

pub returns-then-k : goal.returns-then-k
unfolding wait_sound
returns-then-k c = search (rules, tests)

pub returns-then-not-starts_left : goal.returns-then-not-starts_left
unfolding wait_sound
returns-then-not-starts_left c = search (rules, tests)

pub returns-then-k-3 : goal.returns-then-k-3
unfolding wait_sound
returns-then-k-3 c = search (rules, tests)

pub returns-else-k-3 : goal.returns-else-k-3
unfolding wait_sound
returns-else-k-3 c = search (rules, tests)
