-- `numeral::print::put_text` meets its contract.
-- Assumes nothing.
use Prim.Native.Nat.{ℕ, ◌+◌, ◌-◌}
use mathlib.Core.Path.{◌≡◌, refl, sym, ◌∙◌}
use native.Mathlib.Omega.{arith}
use lib.ListN.{length}
use Rattle.std.proofs.Common.{drop-drop, append_assoc}
use mathlib.Core.List.{List}
use borrow.Rule.Slice.PartMut.{put_mid}
use Rattle.numeral.specs.Place.{overwrite}
use Rattle.numeral.proofs.PlaceLaws.{put-done, put_refused}
use Rattle.numeral.proofs.print.put_text.Goals as goal

-- what the copy leaves in the buffer
copied : (l : List ℕ) (at n : ℕ) (text new : List ℕ) → n ≡ length text → new ≡ text → put_mid at (at + n - at) l new ≡ overwrite l at text
unfolding overwrite
copied l at n text new long e =
    let some : at + n - at ≡ length text = omega arith in
    rw (some, e, drop-drop, append_assoc)

pub returns-then-has_room : goal.returns-then-has_room
returns-then-has_room c = put-done _ _ _ _ refl (sym c.has_room.ensures ∙ c.if-has_room.true) (copied _ _ _ _ _ refl c.copy_from_slice.ensures.after)

pub returns-else-has_room : goal.returns-else-has_room
returns-else-has_room c = put_refused _ _ _ _ refl (sym c.has_room.ensures ∙ c.if-has_room.false)
