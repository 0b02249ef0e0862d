-- `item_words_code::expectation::digit_backward` meets its contract.
-- Assumes nothing.
use borrow.Author.Tests.{lt-ltb, le-ltb}
use Rattle.item_words_code.specs.OwnTexts.{backward}
use Rattle.item_words_code.proofs.expectation.digit_backward.Goals as goal

pub returns-then-word-k : goal.returns-then-word-k
unfolding backward
returns-then-word-k c = rw (lt-ltb _ _ c.if-word-k.true)

pub returns : goal.returns
unfolding backward
returns c = rw (le-ltb _ _ c.if-word-k.false) c.capital.ensures
