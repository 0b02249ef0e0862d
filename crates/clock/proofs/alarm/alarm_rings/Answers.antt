-- `clock::alarm::alarm_rings` meets its contract.
use borrow.Author.Rules.{rules}
use Rattle.unit.proofs.Tests.{tests}
use Rattle.calendar.specs.Alarm.{alarm_rings}
use Rattle.clock.proofs.alarm.alarm_rings.Goals as goal

pub returns-in-1 : goal.returns-in-1
unfolding alarm_rings
returns-in-1 c = search (rules, tests)

pub returns-in-2 : goal.returns-in-2
unfolding alarm_rings
returns-in-2 c = search (rules, tests)

pub returns-then-after-alarm_hour : goal.returns-then-after-alarm_hour
unfolding alarm_rings
returns-then-after-alarm_hour c = search (rules, tests)

pub returns-else-after-alarm_hour : goal.returns-else-after-alarm_hour
unfolding alarm_rings
returns-else-after-alarm_hour c = search (rules, tests)

pub returns-in_default : goal.returns-in_default
unfolding alarm_rings
returns-in_default c = search (rules, tests)
