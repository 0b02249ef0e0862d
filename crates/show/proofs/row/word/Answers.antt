-- `show::row::word` meets its contract.
-- Assumes nothing.
use borrow.Author.Rules.{rules}
use Rattle.item_state.specs.Told.{read_word}
use Rattle.show.proofs.row.word.Goals as goal

pub returns : goal.returns
unfolding read_word
returns c = rw (c.value.ensures, c.peek.ensures.same)
