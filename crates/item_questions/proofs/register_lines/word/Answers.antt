-- `item_questions::register_lines::word` meets its contract.
-- Assumes nothing.
use Rattle.item_state.specs.Told.{read_word}
use Rattle.item_questions.proofs.register_lines.word.Goals as goal

pub returns : goal.returns
unfolding read_word
returns c = rw (c.value.ensures, c.peek.ensures.same)
