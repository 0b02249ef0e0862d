-- `item_answer_code::close::close` meets its contract. Assumes nothing.
use mathlib.Core.Path.{refl}
use Rattle.item_answer_code.proofs.close.close.Goals as goal

pub returns : goal.returns
returns c = record { judged = c.put_judged-judged.result; is = c.put_judged-judged.ensures; end = refl; adds = c.told_counts-adds.ensures; carried = refl }
