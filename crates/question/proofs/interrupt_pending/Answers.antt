-- `question::interrupt_pending` meets its contract.
use borrow.Author.Rules.{rules}
use Rattle.unit.proofs.Tests.{tests}
use Rattle.unit.proofs.Says.{says}
use Rattle.device.specs.Question.{interrupt_pending}
use Rattle.question.proofs.interrupt_pending.Goals as goal

pub returns-after-interrupt_enabled : goal.returns-after-interrupt_enabled
unfolding interrupt_pending
returns-after-interrupt_enabled c = says (search (rules, tests))

pub returns-else-is_sound : goal.returns-else-is_sound
unfolding interrupt_pending
returns-else-is_sound c = says (search (rules, tests))
