-- `phrase::frames::put_frames` meets its contract.
-- Assumes nothing.
use Rattle.std.proofs.Common.{rules}
use Rattle.numeral.specs.Ascii.{ascii}
use Rattle.wording.proofs.Each.{put_first}
use Rattle.phrase.proofs.frames.put_frames.Goals as goal

pub returns : goal.returns
unfolding ascii
returns c = put_first c.put_text-a.ensures c.put_count.ensures
