-- `line_reader::calls::temperature_call` meets its contract.
-- Assumes nothing.
use borrow.Author.Tests.{lt-ltb, le-ltb}
use Rattle.line.specs.Line.{temperature_reading, temperature_call}
use Rattle.line.proofs.LineLaws.{read-by}
use Rattle.line_reader.proofs.calls.temperature_call.Goals as goal

pub returns-in-Wrong : goal.returns-in-Wrong
unfolding temperature_reading temperature_call
returns-in-Wrong c =
    read-by temperature_call (rw c.word_form.ensures at c.tally.ensures) (rw c.in-Wrong.is)

pub returns-then-count-gt16 : goal.returns-then-count-gt16
unfolding temperature_reading temperature_call
returns-then-count-gt16 c =
    read-by temperature_call (rw c.word_form.ensures at c.tally.ensures) (rw (c.in-All.is, lt-ltb _ _ c.if-count-gt16.true))

pub returns-else-count-gt16 : goal.returns-else-count-gt16
unfolding temperature_reading temperature_call
returns-else-count-gt16 c =
    read-by temperature_call (rw c.word_form.ensures at c.tally.ensures) (rw (c.in-All.is, le-ltb _ _ c.if-count-gt16.false))
