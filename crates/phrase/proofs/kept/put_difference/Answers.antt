-- `phrase::kept::put_difference` meets its contract.
-- Assumes nothing.
use Rattle.std.proofs.Common.{rules}
use Rattle.numeral.specs.Ascii.{ascii}
use Rattle.wording.specs.Wording.{difference}
use Rattle.wording.proofs.Each.{put_one, put_first}
use Rattle.phrase.proofs.kept.put_difference.Goals as goal

pub returns : goal.returns
unfolding ascii difference
returns c = put_first c.put_text-a.ensures (put_one c.put_signed.ensures)
