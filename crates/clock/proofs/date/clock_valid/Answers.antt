-- `clock::date::clock_valid` meets its contract.
use borrow.Author.Rules.{rules}
use Rattle.unit.proofs.Tests.{tests}
use Rattle.calendar.specs.Calendar.{clock_valid}
use Rattle.clock.proofs.date.clock_valid.Goals as goal

pub returns-then-date_fits : goal.returns-then-date_fits
unfolding clock_valid
returns-then-date_fits c = search (rules, tests)

pub returns-else-date_fits : goal.returns-else-date_fits
unfolding clock_valid
returns-else-date_fits c = search (rules, tests)
