-- `phrase::refusals::put_refusal` meets its contract.
-- Assumes nothing.
use Rattle.numeral.specs.Ascii.{ascii}
use Rattle.wording.specs.Wording.{refusal}
use Rattle.wording.proofs.Each.{put_one, put_first}
use Rattle.phrase.proofs.refusals.put_refusal.Goals as goal

pub returns : goal.returns
unfolding ascii refusal
returns c = put_first c.put_text-a.ensures (put_first (rw (c.from.ensures, c.number.ensures.0) at c.put_decimal-b.ensures) (put_first c.put_text-c.ensures (put_one (rw c.word.ensures at c.put_text.ensures))))
