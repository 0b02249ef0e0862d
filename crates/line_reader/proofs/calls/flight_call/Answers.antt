-- `line_reader::calls::flight_call` meets its contract.
-- Assumes nothing.
use Rattle.line.specs.Line.{flight_reading, flight_call}
use Rattle.line.proofs.LineLaws.{read-by}
use Rattle.line_reader.proofs.calls.flight_call.Goals as goal

pub returns-in-Wrong : goal.returns-in-Wrong
unfolding flight_reading flight_call
returns-in-Wrong c =
    read-by flight_call (rw c.word_form.ensures at c.tally.ensures) (rw c.in-Wrong.is)

pub returns-in-All : goal.returns-in-All
unfolding flight_reading
returns-in-All c =
    read-by flight_call (rw c.word_form.ensures at c.tally.ensures) (rw c.in-All.is c.flight_of.ensures)
