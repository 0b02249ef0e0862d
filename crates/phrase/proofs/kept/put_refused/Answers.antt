-- `phrase::kept::put_refused` meets its contract.
-- Assumes nothing.
use Rattle.std.proofs.Common.{rules}
use Rattle.wording.specs.Wording.{refused}
use Rattle.wording.proofs.Each.{put_one, put_first, put_then}
use Rattle.phrase.proofs.kept.put_refused.Goals as goal

pub returns : goal.returns
unfolding refused
returns c = put_first c.put_text-a.ensures (put_then c.put_refusal-b.ensures (put_one c.put_text.ensures))
