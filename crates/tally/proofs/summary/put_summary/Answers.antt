-- `tally::summary::put_summary` meets its contract.
-- Assumes nothing.
use Rattle.wording.proofs.Each.{put_then}
use Rattle.collection.specs.Summary.{summary_texts, first_counts, last_counts}
use Rattle.numeral.specs.Ascii.{ascii}
use Rattle.tally.proofs.summary.put_summary.Goals as goal

pub returns : goal.returns
unfolding ascii summary_texts first_counts last_counts
returns c = put_then c.put_head-a.ensures (put_then c.put_groups-b.ensures (put_then c.put_first_counts-c.ensures c.put_last_counts.ensures))
