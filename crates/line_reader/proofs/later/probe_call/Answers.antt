-- `line_reader::later::probe_call` meets its contract.
-- Assumes nothing.
use borrow.Author.Tests.{lt-ltb, le-ltb}
use Rattle.line.specs.Line.{probe_reading, probe_call}
use Rattle.line.proofs.LineLaws.{read-by}
use Rattle.line_reader.proofs.later.probe_call.Goals as goal

pub returns-in-Wrong : goal.returns-in-Wrong
unfolding probe_reading probe_call
returns-in-Wrong c = read-by probe_call c.decimals.ensures (rw c.in-Wrong.is)

pub returns-then-count-lt1 : goal.returns-then-count-lt1
unfolding probe_reading probe_call
returns-then-count-lt1 c = read-by probe_call c.decimals.ensures (rw (c.in-All.is, lt-ltb _ _ c.if-count-lt1.true))

pub returns-else-count-lt1 : goal.returns-else-count-lt1
unfolding probe_reading probe_call
returns-else-count-lt1 c = read-by probe_call c.decimals.ensures (rw (c.in-All.is, le-ltb _ _ c.if-count-lt1.false))
