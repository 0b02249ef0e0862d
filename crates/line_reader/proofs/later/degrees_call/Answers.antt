-- `line_reader::later::degrees_call` meets its contract.
-- Assumes nothing.
use borrow.Author.Tests.{eq-eqb, ne_eqb}
use Rattle.line.specs.Line.{degrees_reading, degrees_call}
use Rattle.line.proofs.LineLaws.{read-by}
use Rattle.line_reader.proofs.later.degrees_call.Goals as goal

pub returns-in-Wrong : goal.returns-in-Wrong
unfolding degrees_reading degrees_call
returns-in-Wrong c = read-by degrees_call c.tally.ensures (rw c.in-Wrong.is)

pub returns-then-count-eq2 : goal.returns-then-count-eq2
unfolding degrees_reading degrees_call
returns-then-count-eq2 c = read-by degrees_call c.tally.ensures (rw (c.in-All.is, eq-eqb _ _ c.if-count-eq2.true))

pub returns-else-count-eq2 : goal.returns-else-count-eq2
unfolding degrees_reading degrees_call
returns-else-count-eq2 c = read-by degrees_call c.tally.ensures (rw (c.in-All.is, ne_eqb _ _ c.if-count-eq2.false))
