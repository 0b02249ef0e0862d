-- `clock::words::words_valid` meets its contract.
use borrow.Author.Rules.{rules}
use Rattle.unit.proofs.Tests.{tests}
use Rattle.calendar.specs.Words.{words_valid}
use Rattle.clock.proofs.words.words_valid.Goals as goal

pub returns-then-hour_fits : goal.returns-then-hour_fits
unfolding words_valid
returns-then-hour_fits c = search (rules, tests)

pub returns-else-hour_fits : goal.returns-else-hour_fits
unfolding words_valid
returns-else-hour_fits c = search (rules, tests)
