-- `setup::alarm_mode` meets its contract.
use Rattle.unit.proofs.Tests.{tests}
use Rattle.setup.specs.Setup.{alarm_mode}
use borrow.Author.Rules.{rules}
use Rattle.setup.proofs.alarm_mode.Goals as goal

pub returns : goal.returns
unfolding alarm_mode
returns c = search (rules, tests)
