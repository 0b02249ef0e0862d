-- `clock::date::date_fits` meets its contract.
use borrow.Author.Rules.{rules}
use Rattle.unit.proofs.Tests.{tests}
use Rattle.calendar.specs.Calendar.{date_fits}
use Rattle.clock.proofs.date.date_fits.Goals as goal

pub returns-then-contains-2 : goal.returns-then-contains-2
unfolding date_fits
returns-then-contains-2 c = search (rules, tests)

pub returns-else-contains-2 : goal.returns-else-contains-2
unfolding date_fits
returns-else-contains-2 c = search (rules, tests)
