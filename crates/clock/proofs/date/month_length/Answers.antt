-- `clock::date::month_length` meets its contract.
use borrow.Author.Rules.{rules}
use Rattle.unit.proofs.Tests.{tests}
use Rattle.calendar.specs.Calendar.{month_length}
use Rattle.clock.proofs.date.month_length.Goals as goal

pub returns-in-2 : goal.returns-in-2
unfolding month_length
returns-in-2 c = search (rules, tests)

pub returns-in-2-2 : goal.returns-in-2-2
unfolding month_length
returns-in-2-2 c = search (rules, tests)

pub returns-in-4 : goal.returns-in-4
unfolding month_length
returns-in-4 c = search (rules, tests)

pub returns-in_default : goal.returns-in_default
unfolding month_length
returns-in_default c = search (rules, tests)
