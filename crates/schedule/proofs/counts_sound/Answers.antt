-- `schedule::counts_sound` meets its contract.
use borrow.Author.Rules.{rules}
use Rattle.unit.proofs.Tests.{tests}
use Rattle.device.specs.Event.{counts_sound}
use Rattle.schedule.proofs.counts_sound.Goals as goal

pub returns-then-k-2 : goal.returns-then-k-2
unfolding counts_sound
returns-then-k-2 c = search (rules, tests)

pub returns-else-k-2 : goal.returns-else-k-2
unfolding counts_sound
returns-else-k-2 c = search (rules, tests)
