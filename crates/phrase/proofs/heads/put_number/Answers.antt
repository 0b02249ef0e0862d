-- `phrase::heads::put_number` meets its contract.
-- Assumes nothing.
use Rattle.std.proofs.Common.{rules}
use Rattle.wording.specs.Wording.{numbered}
use Rattle.wording.proofs.Each.{put_one, put_first}
use Rattle.phrase.proofs.heads.put_number.Goals as goal

pub returns : goal.returns
unfolding numbered
returns c = put_first c.put_text-a.ensures (put_one c.put_decimal.ensures)
