-- `item_answer_code::calls::quietest` meets its contract. Assumes nothing.
use mathlib.Core.Path.{refl, sym}
use Rattle.item_answer.specs.OwnView.{item_of}
use Rattle.item_answer_code.proofs.Firsts.{keep-first}
use Rattle.item_answer_code.proofs.calls.quietest.Goals as goal

pub returns : goal.returns
unfolding item_of
returns c = λ es fs. keep-first c.requires c.put_quietest-first.ensures (sym c.first_items-kept.ensures) refl
