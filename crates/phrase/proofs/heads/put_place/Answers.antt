-- `phrase::heads::put_place` meets its contract.
-- Assumes nothing.
use Rattle.std.proofs.Common.{rules}
use Rattle.numeral.specs.Ascii.{ascii}
use Rattle.wording.specs.Wording.{place}
use Rattle.wording.proofs.Each.{put_first}
use Rattle.phrase.proofs.heads.put_place.Goals as goal

pub returns : goal.returns
unfolding ascii place
returns c = put_first c.put_text-a.ensures (put_first c.put_text-b.ensures c.put_count.ensures)
