-- `phrase::bus::put_set` meets its contract.
-- Assumes nothing.
use Rattle.std.proofs.Common.{rules}
use Rattle.numeral.specs.Ascii.{ascii}
use Rattle.wording.specs.Wording.{set}
use Rattle.wording.proofs.Each.{put_one, put_first, put_then}
use Rattle.phrase.proofs.bus.put_set.Goals as goal

pub returns : goal.returns
unfolding ascii set
returns c = put_first c.put_text-a.ensures (put_then c.put_answer-b.ensures (put_one c.put_text.ensures))
