-- `line_reader::calls::bus_call` meets its contract.
-- Assumes nothing.
use mathlib.Core.Path.{sym, ◌∙◌}
use Rattle.line.specs.Line.{bus_reading}
use Rattle.line_reader.proofs.calls.bus_call.Goals as goal

pub returns-then-end-start : goal.returns-then-end-start
unfolding bus_reading
returns-then-end-start c =
    let none = c.next_word-word.ensures.none c.if-end-start.true in
    rw none (rw none at c.bytes_call.ensures)

pub out_number-requires : goal.out_number-requires
out_number-requires c = sym c.is_out.ensures ∙ c.if-is_out.true

pub returns-then-is_out : goal.returns-then-is_out
unfolding bus_reading
returns-then-is_out c =
    rw (c.next_word-word.ensures.some c.if-end-start.false, ← c.is_out.ensures, c.if-is_out.true, ← c.out_number.ensures) c.out_call.ensures

pub returns-else-is_out : goal.returns-else-is_out
unfolding bus_reading
returns-else-is_out c =
    let word = c.next_word-word.ensures.some c.if-end-start.false in
    rw (word, ← c.is_out.ensures, c.if-is_out.false) (rw word at c.bytes_call-else-is_out.ensures)
