-- `tally::summary::put_group` meets its contract.
-- Assumes nothing.
use Rattle.numeral.specs.Ascii.{ascii}
use Rattle.tally.proofs.Parts.{group-some, group-none}
use Rattle.tally.proofs.summary.put_group.Goals as goal

pub returns-then-g-eq0 : goal.returns-then-g-eq0
returns-then-g-eq0 c = group-none _ _ _ c.if-g-eq0.true

pub returns : goal.returns
unfolding ascii
returns c = group-some _ _ _ c.if-g-eq0.false c.put_text-a.ensures c.put_text-b.ensures c.put_count-c.ensures c.first_bytes.ensures c.put_text-d.ensures c.put_more.ensures
