-- `tally::summary::put_more` meets its contract.
-- Assumes nothing.
use Rattle.numeral.specs.Ascii.{ascii}
use Rattle.tally.proofs.Parts.{more-some, more-none}
use Rattle.tally.proofs.summary.put_more.Goals as goal

pub returns-then-g : goal.returns-then-g
unfolding ascii
returns-then-g c = more-some _ c.if-g.true c.put_text-a.ensures c.put_count.ensures

pub returns-else-g : goal.returns-else-g
returns-else-g c = more-none _ c.if-g.false
