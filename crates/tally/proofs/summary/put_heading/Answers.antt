-- `tally::summary::put_heading` meets its contract.
-- Assumes nothing.
use Rattle.wording.proofs.Each.{put_one, put_first}
use Rattle.collection.specs.Summary.{heading_texts}
use Rattle.numeral.specs.Ascii.{ascii}
use Rattle.tally.proofs.summary.put_heading.Goals as goal

pub returns : goal.returns
unfolding ascii heading_texts
returns c = put_first c.put_text-a.ensures (put_first c.put_text-b.ensures (put_one c.put_text.ensures))
