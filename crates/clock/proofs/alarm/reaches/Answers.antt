-- `clock::alarm::reaches` meets its contract.
use borrow.Author.Rules.{rules}
use Rattle.unit.proofs.Tests.{tests}
use Rattle.calendar.specs.Alarm.{reaches}
use Rattle.clock.proofs.alarm.reaches.Goals as goal

pub returns-then-before-after : goal.returns-then-before-after
unfolding reaches
returns-then-before-after c = search (rules, tests)

pub returns-else-before-after : goal.returns-else-before-after
unfolding reaches
returns-else-before-after c = search (rules, tests)
