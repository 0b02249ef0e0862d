-- `question::peek` meets its contract.
use borrow.Author.Rules.{rules}
use Rattle.unit.proofs.Tests.{tests}
use Rattle.unit.proofs.Says.{says}
use Rattle.device.specs.Question.{peek}
use Rattle.question.proofs.peek.Goals as goal

pub returns-then-not-is_sound : goal.returns-then-not-is_sound
unfolding peek
returns-then-not-is_sound c = says (search (rules, tests))

pub returns-then-a-lt176 : goal.returns-then-a-lt176
unfolding peek
returns-then-a-lt176 c = says (search (rules, tests))

pub returns : goal.returns
unfolding peek
returns c = says (search (rules, tests))
