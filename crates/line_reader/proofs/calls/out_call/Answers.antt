-- `line_reader::calls::out_call` meets its contract.
-- Assumes nothing.
use borrow.Author.Tests.{lt-ltb, le-ltb}
use Rattle.line.specs.declared.Content.TheVariants.{BusOut}
use Rattle.line.specs.Line.{out_reading, bytes_reading, bytes_call}
use Rattle.line.proofs.LineLaws.{read-by}
use Rattle.line_reader.proofs.calls.out_call.Goals as goal

pub returns-in-None : goal.returns-in-None
unfolding out_reading bytes_reading bytes_call
returns-in-None c = rw c.in-None.is

pub returns-in-Wrong : goal.returns-in-Wrong
unfolding out_reading bytes_reading bytes_call
returns-in-Wrong c =
    rw c.in-Some.is (read-by (bytes_call (BusOut _)) (rw c.byte_form.ensures at c.tally.ensures) (rw c.in-Wrong.is))

pub returns-then-count-gt200 : goal.returns-then-count-gt200
unfolding out_reading bytes_reading bytes_call
returns-then-count-gt200 c =
    rw c.in-Some.is
    (read-by (bytes_call (BusOut _)) (rw c.byte_form.ensures at c.tally.ensures) (rw (c.in-All.is, lt-ltb _ _ c.if-count-gt200.true)))

pub returns-else-count-gt200 : goal.returns-else-count-gt200
unfolding out_reading bytes_reading bytes_call
returns-else-count-gt200 c =
    rw c.in-Some.is
    (read-by (bytes_call (BusOut _)) (rw c.byte_form.ensures at c.tally.ensures) (rw (c.in-All.is, le-ltb _ _ c.if-count-gt200.false)))
