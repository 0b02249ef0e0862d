-- `session::lines::answer_content` meets its contract.
-- Assumes nothing.
use Rattle.session.specs.Line.{content_answered}
use Rattle.session.proofs.lines.answer_content.Goals as goal

pub answer_on_model-model-requires : goal.answer_on_model-model-requires
answer_on_model-model-requires c = c.begin-left.ensures.0 c.requires

pub shape_of-names : goal.shape_of-names
shape_of-names c = c.begin-left.auto.names

pub returns : goal.returns
unfolding content_answered
returns c = rw (← c.begin-left.ensures.1, ← c.answer_on_model-model.ensures, ← c.end.ensures)
