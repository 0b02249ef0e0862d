-- `item_words_code::expectation::wants_any` meets its contract.
-- Assumes nothing.
use Rattle.numeral.specs.Ascii.{ascii}
use Rattle.item_words_code.proofs.expectation.wants_any.Goals as goal

pub returns : goal.returns
unfolding ascii
returns c = c.same.ensures
