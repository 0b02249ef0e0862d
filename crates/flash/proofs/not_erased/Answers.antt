-- `flash::not_erased` meets its contract.
use borrow.Author.Rules.{rules}
use Rattle.unit.proofs.Tests.{tests}
use Rattle.flash.specs.Flash.{not_erased}
use Rattle.flash.proofs.not_erased.Goals as goal

pub returns : goal.returns
unfolding not_erased
returns c = search (rules, tests)
