-- `phrase::end::put_count` meets its contract.
-- Assumes nothing.
use Rattle.std.proofs.Common.{rules}
use Rattle.wording.specs.Wording.{counted}
use Rattle.wording.proofs.Each.{put_one, put_first}
use Rattle.phrase.proofs.end.put_count.Goals as goal

pub returns : goal.returns
unfolding counted
returns c = put_first c.put_decimal-a.ensures (put_one c.put_text.ensures)
