-- `clock::words::twelve_hour` meets its contract.
use borrow.Author.Rules.{rules}
use Rattle.unit.proofs.Tests.{tests}
use Rattle.calendar.specs.Words.{twelve_hour}
use Rattle.clock.proofs.words.twelve_hour.Goals as goal

pub returns-then-hour-eq0 : goal.returns-then-hour-eq0
unfolding twelve_hour
returns-then-hour-eq0 c = search (rules, tests)

pub returns-else-hour-eq0 : goal.returns-else-hour-eq0
unfolding twelve_hour
returns-else-hour-eq0 c = search (rules, tests)
