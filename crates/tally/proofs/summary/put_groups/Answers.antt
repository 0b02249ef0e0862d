-- `tally::summary::put_groups` meets its contract.
-- Assumes nothing.
use Rattle.wording.proofs.Each.{put_then}
use Rattle.collection.specs.Summary.{groups_texts}
use Rattle.numeral.specs.Ascii.{ascii}
use Rattle.tally.proofs.summary.put_groups.Goals as goal

pub returns : goal.returns
unfolding ascii groups_texts
returns c = put_then c.put_group-a.ensures (put_then c.put_group-b.ensures (put_then c.put_group-c.ensures (put_then c.put_group-d.ensures c.put_group.ensures)))
