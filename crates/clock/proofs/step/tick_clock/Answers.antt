-- `clock::step::tick_clock` meets its contract.
use borrow.Author.Rules.{rules}
use Rattle.unit.proofs.Tests.{tests}
use Rattle.calendar.specs.Calendar.{tick_clock}
use Rattle.clock.proofs.step.tick_clock.Goals as goal

pub returns-then-c-ge32767 : goal.returns-then-c-ge32767
unfolding tick_clock
returns-then-c-ge32767 c = search (rules, tests)

pub returns-else-c-ge32767 : goal.returns-else-c-ge32767
unfolding tick_clock
returns-else-c-ge32767 c = search (rules, tests)
