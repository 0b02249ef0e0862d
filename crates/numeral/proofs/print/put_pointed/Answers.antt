-- `numeral::print::put_pointed` meets its contract. The two numbers and the point between them are one text.
-- Assumes nothing.
use Prim.Native.Nat.{ℕ, ◌+◌, ◌≤◌}
use mathlib.Core.Path.{◌≡◌, sym, ◌∙◌}
use mathlib.Core.List.{List}
use native.Mathlib.Omega.{arith}
use lib.ListN.{length, set, length-set, length-append}
use borrow.Author.Tests.{leb-true}
use Rattle.numeral.specs.Digit.{digits}
use Rattle.numeral.specs.Place.{overwrite}
use Rattle.numeral.specs.Print.{decimal_width, decimal, pointed}
use Rattle.numeral.proofs.DigitLaws.{length_digits}
use Rattle.numeral.proofs.PlaceLaws.{overwrite-around, put-done, put_refused}
use Rattle.numeral.proofs.PrintLaws.{length-decimal}
use Rattle.numeral.proofs.print.put_pointed.Goals as goal

long : (n k r w : ℕ) → w ≡ decimal_width n → length (pointed n k r) ≡ w + 1 + k
long n k r w e = rw (length-append, length-decimal, ← e) (omega (arith, length_digits 10 k r))

-- the three parts are one text
whole : (l : List ℕ) (at n k r w : ℕ) {l' l'' : List ℕ} → w ≡ decimal_width n → at + (w + 1 + k) ≤ length l → l' ≡ overwrite l at (digits 10 w n)
    → l'' ≡ overwrite (set l' (at + w) 46) (at + w + 1) (digits 10 k r) → l'' ≡ overwrite l at (pointed n k r)
unfolding decimal
whole l at n k r w e room first last =
    let a = length_digits 10 w n in
    let b = length_digits 10 k r in
    last ∙ rw (first, ← e) (rw a at (overwrite-around l at (digits 10 w n) 46 (digits 10 k r) (omega (arith, a, b))))

pub overflow_add-point : goal.overflow_add-point
overflow_add-point c = omega (arith, leb-true (c.args.at + (c.decimal_width-width.result + 1 + c.args.places)) (length c.args.buf.now) (sym c.has_room.ensures ∙ c.if-has_room.true))

pub fill_digits-requires : goal.fill_digits-requires
fill_digits-requires c = omega (arith, leb-true (c.args.at + (c.decimal_width-width.result + 1 + c.args.places)) (length c.args.buf.now) (sym c.has_room.ensures ∙ c.if-has_room.true))

pub bounds-buf-point : goal.bounds-buf-point
bounds-buf-point c = omega (arith, c.fill_digits.auto.buf, leb-true (c.args.at + (c.decimal_width-width.result + 1 + c.args.places)) (length c.args.buf.now) (sym c.has_room.ensures ∙ c.if-has_room.true))

pub overflow_add-point-then-has_room : goal.overflow_add-point-then-has_room
overflow_add-point-then-has_room c = omega (arith, leb-true (c.args.at + (c.decimal_width-width.result + 1 + c.args.places)) (length c.args.buf.now) (sym c.has_room.ensures ∙ c.if-has_room.true))

pub fill_digits-requires-then-has_room : goal.fill_digits-requires-then-has_room
fill_digits-requires-then-has_room c = simp length-set (omega (arith, c.fill_digits.auto.buf, leb-true (c.args.at + (c.decimal_width-width.result + 1 + c.args.places)) (length c.args.buf.now) (sym c.has_room.ensures ∙ c.if-has_room.true)))

pub overflow_add-result : goal.overflow_add-result
overflow_add-result c = omega (arith, leb-true (c.args.at + (c.decimal_width-width.result + 1 + c.args.places)) (length c.args.buf.now) (sym c.has_room.ensures ∙ c.if-has_room.true))

pub shape_of-buf : goal.shape_of-buf
shape_of-buf c =
    c.fill_digits-then-has_room.auto.buf ∙ simp length-set c.fill_digits.auto.buf

pub returns-then-has_room : goal.returns-then-has_room
returns-then-has_room c =
    let e = c.decimal_width-width.ensures.0 in
    put-done _ _ _ _ (long _ _ _ _ e) (sym c.has_room.ensures ∙ c.if-has_room.true)
    (whole _ _ _ _ _ _ e (leb-true _ _ (sym c.has_room.ensures ∙ c.if-has_room.true)) c.fill_digits.ensures c.fill_digits-then-has_room.ensures)

pub returns-else-has_room : goal.returns-else-has_room
returns-else-has_room c =
    put_refused _ _ _ _ (long _ _ _ _ c.decimal_width-width.ensures.0) (sym c.has_room.ensures ∙ c.if-has_room.false)
