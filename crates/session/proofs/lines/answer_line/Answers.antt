-- `session::lines::answer_line` meets its contract.
-- Assumes nothing.
use Rattle.session.specs.Line.{line_answered}
use Rattle.item_checks.proofs.Answers.{expected-are}
use Rattle.session.proofs.lines.answer_line.Goals as goal

pub returns : goal.returns
unfolding line_answered
returns c = (rw (← c.read_line-said.ensures.numbers_after), rw (← c.read_line-said.ensures.numbers_after, ← expected-are _ _ c.read_line-said.ensures.expected) c.answer_content.ensures)
