-- `item_keep_code::table::reading` meets its contract.
-- Assumes nothing.
use borrow.Author.Tests.{eq-eqb, ne_eqb}
use Rattle.item_answer.specs.Answer.{degrees_of}
use Rattle.item_keep_code.proofs.table.reading.Goals as goal

pub returns-then-table-eq0 : goal.returns-then-table-eq0
unfolding degrees_of
returns-then-table-eq0 c = rw (eq-eqb _ 0 c.if-table-eq0.true) c.degrees.ensures.same

pub returns-else-table-eq0 : goal.returns-else-table-eq0
unfolding degrees_of
returns-else-table-eq0 c = rw (ne_eqb _ 0 c.if-table-eq0.false) c.degrees_by.ensures.same
