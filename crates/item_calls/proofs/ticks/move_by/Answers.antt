-- `item_calls::ticks::move_by` meets its contract.
-- Assumes nothing.
use types.Run.{OneOf, miss}
use denote.Enum.Declared.{tag_of}
use Rattle.device.specs.contracts.Answer.{the_type}
use mathlib.Core.Path.{◌≡◌}
use Prim.Native.Nat.{ℕ}
use mathlib.Core.List.{List, [], ◌∷◌}
use Rattle.device.specs.declared.Answer.{Answer}
use Rattle.device.specs.declared.Answer.TheVariants.{Refused, Accepted, Ticked, Stretched, Good, Failed}
use Rattle.item_calls.specs.Lines.{moved, moved_by}
use Rattle.device.specs.Reply.{number_in}
use Rattle.item_state.specs.Log.{added, refusals}
use borrow.Enum.Refused.{opened}
use Rattle.item_calls.proofs.ticks.move_by.Goals as goal

others : (a : Answer) (n : ℕ) (l : List ℕ) {l' : List ℕ} → OneOf (1 ∷ 2 ∷ 3 ∷ 4 ∷ 5 ∷ []) (tag_of the_type a) → l' ≡ moved n l → l' ≡ moved_by a n l
unfolding moved_by refusals number_in
others (Refused r) n l h e = absurd (miss (1 ∷ 2 ∷ 3 ∷ 4 ∷ 5 ∷ []) 0 tt h)
others (Accepted f t) n l h e = e
others (Ticked f t) n l h e = e
others (Stretched f t) n l h e = e
others Good n l h e = e
others Failed n l h e = e

pub returns-in-Refused : goal.returns-in-Refused
unfolding moved_by refusals number_in
returns-in-Refused c = rw c.in-Refused.is

pub returns-in_default : goal.returns-in_default
unfolding moved added
returns-in_default c = others _ _ _ (opened c.in_default.in_default-own.keys2) (rw c.more.ensures)
