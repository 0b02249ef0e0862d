-- `session::lines::answer_on_model` meets its contract.
-- Assumes nothing.
use Rattle.answer_text.specs.Line.{line_left}
use Rattle.session.specs.Line.{line_done}
use Rattle.session.proofs.lines.answer_on_model.Goals as goal

pub returns : goal.returns
unfolding line_done line_left
returns c = rw (← c.answer_call-model.ensures, ← c.answer_question.ensures, ← c.answer_analysis.ensures)
