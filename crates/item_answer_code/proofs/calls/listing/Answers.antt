-- `item_answer_code::calls::listing` meets its contract. Assumes nothing.
use mathlib.Core.Path.{refl, sym}
use Rattle.item_answer.specs.OwnView.{item_of}
use Rattle.item_answer_code.proofs.Firsts.{keep-first}
use Rattle.item_answer_code.proofs.calls.listing.Goals as goal

pub returns : goal.returns
unfolding item_of
returns c = λ es fs. keep-first c.requires c.put_listing-first.ensures (sym c.first_items-kept.ensures) refl
