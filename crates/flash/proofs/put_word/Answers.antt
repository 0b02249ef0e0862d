-- `flash::put_word` meets its contract.
use borrow.Author.Rules.{rules}
use Rattle.unit.proofs.Tests.{tests}
use Rattle.flash.specs.Flash.{first_word}
use Rattle.flash.proofs.put_word.Goals as goal

pub returns : goal.returns
unfolding first_word
returns c = search (rules, tests)
