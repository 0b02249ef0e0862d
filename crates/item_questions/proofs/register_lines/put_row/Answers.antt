-- `item_questions::register_lines::put_row` meets its contract.
-- Assumes nothing.
use Rattle.item_questions.specs.Answers.{row}
use Rattle.item_questions.proofs.register_lines.put_row.Goals as goal

pub returns : goal.returns
unfolding row
returns c = rw (← c.row_words-words.ensures) c.put_row.ensures
