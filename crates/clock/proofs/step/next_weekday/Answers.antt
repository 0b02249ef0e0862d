-- `clock::step::next_weekday` meets its contract.
use borrow.Author.Rules.{rules}
use Rattle.unit.proofs.Tests.{tests}
use Rattle.calendar.specs.Calendar.{next_weekday}
use Rattle.clock.proofs.step.next_weekday.Goals as goal

pub returns-then-weekday-ge7 : goal.returns-then-weekday-ge7
unfolding next_weekday
returns-then-weekday-ge7 c = search (rules, tests)

pub returns-else-weekday-ge7 : goal.returns-else-weekday-ge7
unfolding next_weekday
returns-else-weekday-ge7 c = search (rules, tests)
