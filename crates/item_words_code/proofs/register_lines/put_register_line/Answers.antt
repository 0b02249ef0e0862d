-- `item_words_code::register_lines::put_register_line` meets its contract.
-- Assumes nothing.
use Rattle.text.proofs.Putting.{puts_first}
use Rattle.item_answer.specs.Words.{register_line}
use Rattle.item_words_code.proofs.register_lines.put_register_line.Goals as goal

pub returns : goal.returns
unfolding register_line
returns c = puts_first c.put_hex-next.ensures c.put_eight.ensures
