-- `clock::words::hour_digits` meets its contract.
use borrow.Author.Rules.{rules}
use Rattle.unit.proofs.Tests.{tests}
use Rattle.calendar.specs.Words.{hour_digits}
use Rattle.clock.proofs.words.hour_digits.Goals as goal

pub returns-then-not-twelve : goal.returns-then-not-twelve
unfolding hour_digits
returns-then-not-twelve c = search (rules, tests)

pub returns-then-hour-ge12 : goal.returns-then-hour-ge12
unfolding hour_digits
returns-then-hour-ge12 c = search (rules, tests)

pub returns-else-hour-ge12 : goal.returns-else-hour-ge12
unfolding hour_digits
returns-else-hour-ge12 c = search (rules, tests)
