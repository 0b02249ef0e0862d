-- `phrase::frames::put_frame` meets its contract.
-- Assumes nothing.
use Rattle.std.proofs.Common.{rules}
use Rattle.numeral.specs.Ascii.{ascii}
use Rattle.wording.specs.Wording.{frame_texts}
use Rattle.wording.proofs.Each.{put_one, put_first, put_then}
use Rattle.phrase.proofs.frames.put_frame.Goals as goal

pub returns : goal.returns
unfolding ascii frame_texts
returns c = put_first c.put_text-a.ensures (put_then c.put_bytes-b.ensures (put_one c.put_text.ensures))
