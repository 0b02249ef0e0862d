-- `item_analysis::differences::record` meets its contract.
-- Assumes nothing.
use borrow.Author.Tests.{eq-eqb, ne_eqb}
use Rattle.item_analysis.specs.Lines.{record_words}
use Rattle.item_analysis.proofs.differences.record.Goals as goal

pub returns-then-n-eq0 : goal.returns-then-n-eq0
unfolding record_words
returns-then-n-eq0 c = rw (eq-eqb _ 0 c.if-n-eq0.true, ← c.tof_diff.ensures) c.add_words.ensures

pub returns-else-n-eq0 : goal.returns-else-n-eq0
unfolding record_words
returns-else-n-eq0 c = rw (ne_eqb _ 0 c.if-n-eq0.false, ← c.first_words.ensures) c.add_words-else-n-eq0.ensures
