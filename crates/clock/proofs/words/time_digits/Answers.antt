-- `clock::words::time_digits` meets its contract.
use borrow.Author.Rules.{rules}
use Rattle.unit.proofs.Tests.{tests}
use Rattle.calendar.specs.Words.{time_digits}
use Rattle.clock.proofs.words.time_digits.Goals as goal

pub returns-then-w-le9 : goal.returns-then-w-le9
unfolding time_digits
returns-then-w-le9 c = search (rules, tests)

pub returns-else-w-le9 : goal.returns-else-w-le9
unfolding time_digits
returns-else-w-le9 c = search (rules, tests)
