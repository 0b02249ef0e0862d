-- `phrase::kept::put_degrees` meets its contract.
-- Assumes nothing.
use Rattle.std.proofs.Common.{rules}
use Rattle.numeral.specs.Ascii.{ascii}
use Rattle.wording.specs.Wording.{degrees}
use Rattle.wording.proofs.Each.{put_one, put_first}
use Rattle.phrase.proofs.kept.put_degrees.Goals as goal

pub returns : goal.returns
unfolding ascii degrees
returns c = put_first c.put_text-a.ensures (put_first c.put_thousandths-b.ensures (put_one c.put_text.ensures))
