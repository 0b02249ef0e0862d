-- `outcome::put_ticked` meets its contract.
use Rattle.layout.specs.Code.{words_of}
use borrow.Author.Rules.{rules}
use Rattle.outcome.proofs.put_ticked.Goals as goal

pub returns : goal.returns
unfolding words_of
returns c = c.put_four.ensures
