-- `registers::read::calendar_word` meets its contract.
use Rattle.unit.proofs.Tests.{tests}
use Rattle.device.specs.Registers.{calendar_word}
use borrow.Author.Rules.{rules}
use Rattle.registers.proofs.read.calendar_word.Goals as goal

pub returns-then-a-eq176 : goal.returns-then-a-eq176
unfolding calendar_word
returns-then-a-eq176 c = search (rules, tests)

pub returns-then-a-eq177 : goal.returns-then-a-eq177
unfolding calendar_word
returns-then-a-eq177 c = search (rules, tests)

pub returns-then-a-eq178 : goal.returns-then-a-eq178
unfolding calendar_word
returns-then-a-eq178 c = search (rules, tests)

pub returns : goal.returns
unfolding calendar_word
returns c = search (rules, tests)
