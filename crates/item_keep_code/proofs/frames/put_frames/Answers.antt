-- `item_keep_code::frames::put_frames` meets its contract.
-- Assumes nothing.
use mathlib.Core.Path.{refl}
use Rattle.numeral.specs.Ascii.{ascii}
use Rattle.text.proofs.Putting.{puts, puts_first}
use Rattle.item_answer.specs.Answer.{frames_told}
use Rattle.item_keep_code.proofs.frames.put_frames.Goals as goal

pub returns : goal.returns
unfolding frames_told ascii
returns c = λ i e. rw e (record { line = rw (← c.frames_of-all.ensures.counted) (puts_first c.put_text-a.ensures (puts c.put_decimal-end.ensures)); refused = refl; item = refl })
