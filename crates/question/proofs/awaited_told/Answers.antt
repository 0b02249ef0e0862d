-- `question::awaited_told` meets its contract.
use borrow.Author.Rules.{rules}
use Rattle.unit.proofs.Tests.{tests}
use Rattle.unit.proofs.Says.{says}
use Rattle.device.specs.Question.{awaited_told}
use Rattle.question.proofs.awaited_told.Goals as goal

pub returns-then-is_sound : goal.returns-then-is_sound
unfolding awaited_told
returns-then-is_sound c = says (search (rules, tests))

pub returns-else-is_sound : goal.returns-else-is_sound
unfolding awaited_told
returns-else-is_sound c = says (search (rules, tests))
