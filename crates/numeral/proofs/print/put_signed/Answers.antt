-- `numeral::print::put_signed` meets its contract. The minus is stored last, before what was put behind it.
-- Assumes nothing.
use Prim.Native.Nat.{ℕ, suc, ◌+◌, ◌≤◌, ◌<◌}
use mathlib.Core.Path.{refl}
use native.Mathlib.Omega.{arith}
use borrow.Author.Tests.{lt-ltb, le-ltb, lt-leb}
use Rattle.numeral.specs.Print.{signed_decimal}
use Rattle.numeral.proofs.PlaceLaws.{put_refused, put-before, put-before-refused}
use Rattle.numeral.proofs.print.put_signed.Goals as goal

past : (at n m : ℕ) → m ≤ at → m < at + suc n
past at n m h = omega arith

pub returns-then-word-lt2147483648 : goal.returns-then-word-lt2147483648
unfolding signed_decimal
returns-then-word-lt2147483648 c = rw (lt-ltb _ _ c.if-word-lt2147483648.true) (rw c.from.ensures at c.put_decimal.ensures)

pub returns-then-buf-at : goal.returns-then-buf-at
unfolding signed_decimal
returns-then-buf-at c =
    rw (le-ltb _ _ c.if-word-lt2147483648.false) (put_refused _ _ _ _ refl (lt-leb _ _ (past _ _ _ c.if-buf-at.true)))

pub returns-then-next : goal.returns-then-next
unfolding signed_decimal
returns-then-next c =
    rw (le-ltb _ _ c.if-word-lt2147483648.false) (put-before _ _ _ _ _ _ (rw c.from-2.ensures at c.put_decimal-next.ensures) c.if-next.true)

pub returns-else-next : goal.returns-else-next
unfolding signed_decimal
returns-else-next c =
    rw (le-ltb _ _ c.if-word-lt2147483648.false)
    (put-before-refused _ _ _ _ _ _ (rw c.from-2.ensures at c.put_decimal-next.ensures) c.if-next.false (omega arith))
