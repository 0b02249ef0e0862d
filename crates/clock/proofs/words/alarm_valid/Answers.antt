-- `clock::words::alarm_valid` meets its contract.
use borrow.Author.Rules.{rules}
use Rattle.unit.proofs.Tests.{tests}
use Rattle.calendar.specs.Words.{alarm_valid}
use Rattle.clock.proofs.words.alarm_valid.Goals as goal

pub returns-then-minute_in-le59 : goal.returns-then-minute_in-le59
unfolding alarm_valid
returns-then-minute_in-le59 c = search (rules, tests)

pub returns-else-minute_in-le59 : goal.returns-else-minute_in-le59
unfolding alarm_valid
returns-else-minute_in-le59 c = search (rules, tests)
