-- `item_answer_code::calls::degrees` meets its contract. Assumes nothing.
use mathlib.Core.Path.{refl, sym}
use Rattle.item_answer.specs.OwnView.{item_of}
use Rattle.item_answer_code.proofs.Firsts.{keep-first}
use Rattle.item_answer_code.proofs.calls.degrees.Goals as goal

pub returns : goal.returns
unfolding item_of
returns c = rw (← c.number_at.ensures, ← c.number_at-2.ensures) (λ ds fs. keep-first c.requires c.put_degrees-first.ensures (sym c.first_items-table.ensures) refl)
