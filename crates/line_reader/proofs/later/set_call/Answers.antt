-- `line_reader::later::set_call` meets its contract.
-- Assumes nothing.
use Rattle.line.specs.Line.{set_reading}
use Rattle.line_reader.proofs.later.set_call.Goals as goal

pub returns-then-end-start : goal.returns-then-end-start
unfolding set_reading
returns-then-end-start c = rw (c.next_word-word.ensures.none c.if-end-start.true)

pub returns : goal.returns
unfolding set_reading
returns c =
    rw (c.next_word-word.ensures.some c.if-end-start.false, ← c.read_hex.ensures) c.set_from.ensures
