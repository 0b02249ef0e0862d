-- `tally::summary::put_first_counts` meets its contract.
-- Assumes nothing.
use Rattle.wording.proofs.Each.{put_first, put_then}
use Rattle.collection.specs.Summary.{first_counts}
use Rattle.numeral.specs.Ascii.{ascii}
use Rattle.tally.proofs.summary.put_first_counts.Goals as goal

pub returns : goal.returns
unfolding ascii first_counts
returns c = put_first c.put_text-a.ensures (put_then c.put_count-b.ensures (put_then c.put_count-c.ensures (put_then c.put_count-d.ensures c.put_count.ensures)))
