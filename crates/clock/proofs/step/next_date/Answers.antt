-- `clock::step::next_date` meets its contract.
use borrow.Author.Rules.{rules}
use Rattle.unit.proofs.Tests.{tests}
use Rattle.calendar.specs.Calendar.{next_date}
use Rattle.clock.proofs.step.next_date.Goals as goal

pub returns-then-month_length-c : goal.returns-then-month_length-c
unfolding next_date
returns-then-month_length-c c = search (rules, tests)

pub returns-else-month_length-c : goal.returns-else-month_length-c
unfolding next_date
returns-else-month_length-c c = search (rules, tests)
