-- `item_keep_code::refused::put_refused` meets its contract.
-- Assumes nothing.
use mathlib.Core.Path.{refl}
use Rattle.text.proofs.Putting.{puts_first}
use Rattle.item_keep_code.proofs.refused.put_refused.Goals as goal

pub returns : goal.returns
returns c = (puts_first c.put_text-a.ensures c.put_refusal-end.ensures, refl)
