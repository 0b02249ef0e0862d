-- `line_reader::calls::bytes_call` meets its contract.
-- Assumes nothing.
use borrow.Author.Tests.{lt-ltb, le-ltb}
use Rattle.line.specs.declared.Content.TheVariants.{Bus}
use Rattle.line.specs.Line.{bytes_reading, bytes_call}
use Rattle.line.proofs.LineLaws.{read-by}
use Rattle.line_reader.proofs.calls.bytes_call.Goals as goal

pub returns-in-Wrong : goal.returns-in-Wrong
unfolding bytes_reading bytes_call
returns-in-Wrong c =
    read-by (bytes_call Bus) (rw c.byte_form.ensures at c.tally.ensures) (rw c.in-Wrong.is)

pub returns-then-count-gt200 : goal.returns-then-count-gt200
unfolding bytes_reading bytes_call
returns-then-count-gt200 c =
    read-by (bytes_call Bus) (rw c.byte_form.ensures at c.tally.ensures) (rw (c.in-All.is, lt-ltb _ _ c.if-count-gt200.true))

pub returns-else-count-gt200 : goal.returns-else-count-gt200
unfolding bytes_reading bytes_call
returns-else-count-gt200 c =
    read-by (bytes_call Bus) (rw c.byte_form.ensures at c.tally.ensures) (rw (c.in-All.is, le-ltb _ _ c.if-count-gt200.false))
