-- `clock::step::next_month` meets its contract.
use borrow.Author.Rules.{rules}
use Rattle.unit.proofs.Tests.{tests}
use Rattle.calendar.specs.Calendar.{next_month}
use Rattle.clock.proofs.step.next_month.Goals as goal

pub returns-then-c-ge12 : goal.returns-then-c-ge12
unfolding next_month
returns-then-c-ge12 c = search (rules, tests)

pub returns-else-c-ge12 : goal.returns-else-c-ge12
unfolding next_month
returns-else-c-ge12 c = search (rules, tests)
