-- `line_reader::later::decimal_call` meets its contract.
-- Assumes nothing.
use Rattle.line.specs.Line.{decimal_call, decimal_with}
use Rattle.line_reader.proofs.later.decimal_call.Goals as goal

pub returns-then-end-start : goal.returns-then-end-start
unfolding decimal_call decimal_with
returns-then-end-start c = rw (c.next_word-word.ensures.none c.if-end-start.true)

pub returns-in-Some : goal.returns-in-Some
unfolding decimal_call decimal_with
returns-in-Some c =
    rw (c.next_word-word.ensures.some c.if-end-start.false, ← c.read_decimal.ensures, c.in-Some.is, ← c.numbered.ensures) c.alone.ensures

pub returns-in-None : goal.returns-in-None
unfolding decimal_call decimal_with
returns-in-None c =
    rw (c.next_word-word.ensures.some c.if-end-start.false, ← c.read_decimal.ensures, c.in-None.is)
