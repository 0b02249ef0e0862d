-- `item_words_code::kept::put_frame` meets its contract.
-- Assumes nothing.
use Rattle.numeral.specs.Ascii.{ascii}
use Rattle.text.proofs.Putting.{puts_first}
use Rattle.item_answer.specs.Words.{frame_line}
use Rattle.item_words_code.proofs.kept.put_frame.Goals as goal

pub returns : goal.returns
unfolding ascii frame_line
returns c = puts_first c.put_text-next.ensures c.put_bytes.ensures
