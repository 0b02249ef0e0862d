-- `tally::summary::put_last_counts` meets its contract.
-- Assumes nothing.
use Rattle.wording.proofs.Each.{put_then}
use Rattle.collection.specs.Summary.{last_counts}
use Rattle.numeral.specs.Ascii.{ascii}
use Rattle.tally.proofs.summary.put_last_counts.Goals as goal

pub returns : goal.returns
unfolding ascii last_counts
returns c = put_then c.put_count-a.ensures (put_then c.put_count-b.ensures c.put_count.ensures)
