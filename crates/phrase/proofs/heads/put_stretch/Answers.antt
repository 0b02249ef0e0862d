-- `phrase::heads::put_stretch` meets its contract.
-- Assumes nothing.
use Rattle.std.proofs.Common.{rules}
use Rattle.numeral.specs.Ascii.{ascii}
use Rattle.wording.specs.Wording.{stretch}
use Rattle.wording.proofs.Each.{put_one, put_first, put_then}
use Rattle.phrase.proofs.heads.put_stretch.Goals as goal

pub returns : goal.returns
unfolding ascii stretch
returns c = put_first c.put_text-a.ensures (put_then c.put_stretched-b.ensures (put_one c.put_text.ensures))
