-- `phrase::heads::put_end` meets its contract.
-- Assumes nothing.
use Rattle.std.proofs.Common.{rules}
use Rattle.wording.proofs.Each.{put_one}
use Rattle.phrase.proofs.heads.put_end.Goals as goal

pub returns : goal.returns
returns c = put_one c.put_text.ensures
