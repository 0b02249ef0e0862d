-- `schedule::balance_sound` meets its contract.
use borrow.Author.Rules.{rules}
use Rattle.unit.proofs.Tests.{tests}
use Rattle.device.specs.Event.{balance_sound}
use Rattle.schedule.proofs.balance_sound.Goals as goal

pub returns-then-not-in_event : goal.returns-then-not-in_event
unfolding balance_sound
returns-then-not-in_event c = search (rules, tests)

pub returns-then-k-gt0 : goal.returns-then-k-gt0
unfolding balance_sound
returns-then-k-gt0 c = search (rules, tests)

pub returns-then-k-gt0-2 : goal.returns-then-k-gt0-2
unfolding balance_sound
returns-then-k-gt0-2 c = search (rules, tests)

pub returns-else-k-gt0-2 : goal.returns-else-k-gt0-2
unfolding balance_sound
returns-else-k-gt0-2 c = search (rules, tests)
