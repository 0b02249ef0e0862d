-- `question::regulator_on` meets its contract.
use borrow.Author.Rules.{rules}
use Rattle.unit.proofs.Tests.{tests}
use Rattle.unit.proofs.Says.{says}
use Rattle.device.specs.Question.{regulator_on}
use Rattle.question.proofs.regulator_on.Goals as goal

pub returns-then-is_sound : goal.returns-then-is_sound
unfolding regulator_on
returns-then-is_sound c = says (search (rules, tests))

pub returns-else-is_sound : goal.returns-else-is_sound
unfolding regulator_on
returns-else-is_sound c = says (search (rules, tests))
