-- `item_chip_code::replies::tell` meets its contract. Assumes nothing.
use mathlib.Core.Path.{refl}
use Rattle.text.proofs.Putting.{puts_first}
use Rattle.item_chip_code.proofs.replies.tell.Goals as goal

pub returns : goal.returns
returns c = record { line = puts_first c.put_text-a.ensures c.put_answer-end.ensures; carried = refl; refused = c.is_refusal-refused.ensures }
