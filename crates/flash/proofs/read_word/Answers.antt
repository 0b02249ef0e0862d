-- `flash::read_word` meets its contract.
use borrow.Author.Rules.{rules}
use Rattle.unit.proofs.Tests.{tests}
use Rattle.flash.specs.Flash.{flash_word}
use Rattle.flash.proofs.read_word.Goals as goal

pub returns : goal.returns
unfolding flash_word
returns c = search (rules, tests)
