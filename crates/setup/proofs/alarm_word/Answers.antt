-- `setup::alarm_word` meets its contract.
use Rattle.unit.proofs.Tests.{tests}
use Rattle.setup.specs.Setup.{alarm_word}
use borrow.Author.Rules.{rules}
use Rattle.setup.proofs.alarm_word.Goals as goal

pub returns : goal.returns
unfolding alarm_word
returns c = search (rules, tests)
