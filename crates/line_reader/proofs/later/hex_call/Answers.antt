-- `line_reader::later::hex_call` meets its contract.
-- Assumes nothing.
use Rattle.line.specs.Line.{hex_call, hex_with}
use Rattle.line_reader.proofs.later.hex_call.Goals as goal

pub returns-then-end-start : goal.returns-then-end-start
unfolding hex_call hex_with
returns-then-end-start c = rw (c.next_word-word.ensures.none c.if-end-start.true)

pub returns-in-Some : goal.returns-in-Some
unfolding hex_call hex_with
returns-in-Some c =
    rw (c.next_word-word.ensures.some c.if-end-start.false, ← c.read_hex.ensures, c.in-Some.is) c.alone.ensures

pub returns-in-None : goal.returns-in-None
unfolding hex_call hex_with
returns-in-None c =
    rw (c.next_word-word.ensures.some c.if-end-start.false, ← c.read_hex.ensures, c.in-None.is)
