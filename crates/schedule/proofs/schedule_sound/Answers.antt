-- `schedule::schedule_sound` meets its contract.
use borrow.Author.Rules.{rules}
use Rattle.unit.proofs.Tests.{tests}
use Rattle.device.specs.Event.{schedule_sound}
use Rattle.schedule.proofs.schedule_sound.Goals as goal

pub returns-then-wait_sound : goal.returns-then-wait_sound
unfolding schedule_sound
returns-then-wait_sound c = search (rules, tests)

pub returns-else-wait_sound : goal.returns-else-wait_sound
unfolding schedule_sound
returns-else-wait_sound c = search (rules, tests)
