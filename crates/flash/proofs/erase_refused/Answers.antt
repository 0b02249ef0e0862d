-- `flash::erase_refused` meets its contract.
use borrow.Author.Rules.{rules}
use Rattle.unit.proofs.Tests.{tests}
use Rattle.flash.specs.Flash.{wrong_size, beyond, erase_refused}
use Rattle.flash.proofs.erase_refused.Goals as goal

pub returns-then-size-ne8192 : goal.returns-then-size-ne8192
unfolding wrong_size beyond erase_refused
returns-then-size-ne8192 c = search (rules, tests)

pub returns-else-size-ne8192 : goal.returns-else-size-ne8192
unfolding wrong_size beyond erase_refused
returns-else-size-ne8192 c = search (rules, tests)
