-- `clock::step::next_year` meets its contract.
use borrow.Author.Rules.{rules}
use Rattle.unit.proofs.Tests.{tests}
use Rattle.calendar.specs.Calendar.{next_year}
use Rattle.clock.proofs.step.next_year.Goals as goal

pub returns-then-c-ge99 : goal.returns-then-c-ge99
unfolding next_year
returns-then-c-ge99 c = search (rules, tests)

pub returns-else-c-ge99 : goal.returns-else-c-ge99
unfolding next_year
returns-else-c-ge99 c = search (rules, tests)
