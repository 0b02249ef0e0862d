-- `clock::words::hour_fits` meets its contract.
use borrow.Author.Rules.{rules}
use Rattle.unit.proofs.Tests.{tests}
use Rattle.calendar.specs.Words.{hour_fits}
use Rattle.clock.proofs.words.hour_fits.Goals as goal

pub returns-then-twelve_in : goal.returns-then-twelve_in
unfolding hour_fits
returns-then-twelve_in c = search (rules, tests)

pub returns-else-twelve_in : goal.returns-else-twelve_in
unfolding hour_fits
returns-else-twelve_in c = search (rules, tests)
