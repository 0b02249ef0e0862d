-- `item_words_code::fault::put_shown` meets its contract.
-- Assumes nothing.
use borrow.Author.Tests.{lt-ltb}
use Rattle.numeral.specs.Ascii.{ascii}
use Rattle.text.specs.Text.{text_where}
use Rattle.text.proofs.Putting.{puts-last}
use Rattle.item_answer.specs.Words.{shown}
use Rattle.item_words_code.proofs.Turns.{shown-short}
use Rattle.item_words_code.proofs.fault.put_shown.Goals as goal

pub returns-then-word-gt32 : goal.returns-then-word-gt32
unfolding ascii shown text_where
returns-then-word-gt32 c = rw (lt-ltb _ _ c.if-word-gt32.true, ← c.first_bytes.ensures) (puts-last c.put_shown_bytes-next.ensures c.put_text.ensures)

pub returns : goal.returns
returns c = rw (← shown-short _ c.if-word-gt32.false, ← c.first_bytes.ensures) c.put_shown_bytes-next.ensures
