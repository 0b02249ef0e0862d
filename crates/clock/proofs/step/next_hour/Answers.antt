-- `clock::step::next_hour` meets its contract.
use borrow.Author.Rules.{rules}
use Rattle.unit.proofs.Tests.{tests}
use Rattle.calendar.specs.Calendar.{next_hour}
use Rattle.clock.proofs.step.next_hour.Goals as goal

pub returns-then-c-ge23 : goal.returns-then-c-ge23
unfolding next_hour
returns-then-c-ge23 c = search (rules, tests)

pub returns-else-c-ge23 : goal.returns-else-c-ge23
unfolding next_hour
returns-else-c-ge23 c = search (rules, tests)
