-- `clock::date::time_fits` meets its contract.
use borrow.Author.Rules.{rules}
use Rattle.unit.proofs.Tests.{tests}
use Rattle.calendar.specs.Calendar.{time_fits}
use Rattle.clock.proofs.date.time_fits.Goals as goal

pub returns-then-c-le59-2 : goal.returns-then-c-le59-2
unfolding time_fits
returns-then-c-le59-2 c = search (rules, tests)

pub returns-else-c-le59-2 : goal.returns-else-c-le59-2
unfolding time_fits
returns-else-c-le59-2 c = search (rules, tests)
