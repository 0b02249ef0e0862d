-- `phrase::ticks::put_ticked` meets its contract.
-- Assumes nothing.
use Rattle.std.proofs.Common.{rules}
use Rattle.numeral.specs.Ascii.{ascii}
use Rattle.wording.specs.Wording.{ticked}
use Rattle.wording.proofs.Each.{put_one, put_first, put_then}
use Rattle.phrase.proofs.ticks.put_ticked.Goals as goal

pub returns : goal.returns
unfolding ascii ticked
returns c = put_first c.put_text-a.ensures (put_then c.put_kind-b.ensures (put_then c.put_kind-c.ensures (put_one c.put_text.ensures)))
