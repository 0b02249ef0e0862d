-- `line_reader::later::record_call` meets its contract.
-- Assumes nothing.
use Rattle.line.specs.Line.{record_reading, record_call}
use Rattle.line.proofs.LineLaws.{read-by}
use Rattle.line_reader.proofs.later.record_call.Goals as goal

pub returns-in-Wrong : goal.returns-in-Wrong
unfolding record_reading record_call
returns-in-Wrong c = read-by record_call c.decimals.ensures (rw c.in-Wrong.is)

pub returns-in-All : goal.returns-in-All
unfolding record_reading record_call
returns-in-All c = read-by record_call c.decimals.ensures (rw c.in-All.is)
