-- `phrase::heads::put_expected` meets its contract.
-- Assumes nothing.
use Rattle.std.proofs.Common.{rules}
use Rattle.numeral.specs.Ascii.{ascii}
use Rattle.wording.specs.Wording.{expected}
use Rattle.wording.proofs.Each.{put_one, put_first}
use Rattle.phrase.proofs.heads.put_expected.Goals as goal

pub returns : goal.returns
unfolding ascii expected
returns c = put_first c.put_text-a.ensures (put_one c.put_text.ensures)
