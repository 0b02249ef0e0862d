-- `phrase::delivery::put_delivery` meets its contract.
-- Assumes nothing.
use Rattle.std.proofs.Common.{rules}
use Rattle.wording.specs.Wording.{delivery}
use Rattle.wording.proofs.Each.{put_one, put_first, put_then}
use Rattle.phrase.proofs.delivery.put_delivery.Goals as goal

pub returns : goal.returns
unfolding delivery
returns c = put_first c.put_text-a.ensures (put_then c.put_answer-b.ensures (put_one c.put_text.ensures))
