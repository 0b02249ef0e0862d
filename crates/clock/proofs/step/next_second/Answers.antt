-- `clock::step::next_second` meets its contract.
use borrow.Author.Rules.{rules}
use Rattle.unit.proofs.Tests.{tests}
use Rattle.calendar.specs.Calendar.{next_second}
use Rattle.clock.proofs.step.next_second.Goals as goal

pub returns-then-c-ge59 : goal.returns-then-c-ge59
unfolding next_second
returns-then-c-ge59 c = search (rules, tests)

pub returns-else-c-ge59 : goal.returns-else-c-ge59
unfolding next_second
returns-else-c-ge59 c = search (rules, tests)
