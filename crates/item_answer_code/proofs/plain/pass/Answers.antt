-- `item_answer_code::plain::pass` meets its contract. Assumes nothing.
use mathlib.Core.Path.{refl}
use Rattle.text.proofs.Putting.{puts_none}
use Rattle.item_answer_code.proofs.plain.pass.Goals as goal

pub returns : goal.returns
returns c = λ l fs ds es. record { text = puts_none l _; item = refl; adds = λ h. c.no_counts.ensures; few = c.requires }
