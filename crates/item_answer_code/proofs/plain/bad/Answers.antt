-- `item_answer_code::plain::bad` meets its contract. Assumes nothing.
use mathlib.Core.Path.{refl}
use Rattle.item_answer.specs.Step.{bad_step}
use Rattle.item_answer_code.proofs.plain.bad.Goals as goal

pub returns : goal.returns
unfolding bad_step
returns c = λ fs ds es. record { text = c.put_bad-end.ensures; item = refl; adds = λ h. c.bad_counts.ensures; few = c.requires }
