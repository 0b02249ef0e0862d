-- `numeral::read::value_in` meets its contract.
-- Assumes nothing.
use Prim.Native.Nat.{ℕ, ◌+◌, ◌*◌, ◌^◌, ◌≤◌, ◌<◌}
use mathlib.Core.Path.{◌≡◌, refl, sym, ◌∙◌}
use mathlib.Core.List.{List, []}
use mathlib.Core.Bool.{true, false}
use native.Mathlib.Nat.{pow-suc, pow-le-pow_right, mul-le-mul_left}
use native.Mathlib.Numerals.{add-one}
use native.Mathlib.Omega.{arith}
use lib.Dec.{lit<}
use lib.ListN.{length, drop, get_or, drop_of_length-le}
use lib.Seq.{drop-cons}
use borrow.Author.Tests.{lt-ltb, le-ltb, le-leb, lt-leb}
use Rattle.numeral.specs.Digit.{digit_of, are_digits, value_of}
use Rattle.numeral.specs.Read.{value_in}
use Rattle.numeral.proofs.read.value_in.Goals as goal

-- the value of one digit more
grow : (n base d i : ℕ) → n < 16 ^ i → base ≤ 16 → d < base → n * base + d < 16 ^ (i + 1)
grow n base d i less most h = rw (add-one, pow-suc) (omega (arith, mul-le-mul_left n most))

-- ten digits at most
small : (i : ℕ) → i < 10 → 16 ^ (i + 1) ≤ 16 ^ 10
small i h = let most : i + 1 ≤ 10 = omega arith in pow-le-pow_right (lit< tt) most

module _ (base : ℕ) (s : List ℕ) (i : ℕ) (more : i < length s) where
  digit-stops : base ≤ digit_of (get_or s i 0) → are_digits base (drop i s) ≡ false
  unfolding are_digits
  digit-stops h = rw (drop-cons s i 0 more, le-ltb (digit_of (get_or s i 0)) base h)

  digit-counts : digit_of (get_or s i 0) < base → are_digits base (drop (i + 1) s) ≡ are_digits base (drop i s)
  unfolding are_digits
  digit-counts h = rw (add-one, drop-cons s i 0 more, lt-ltb (digit_of (get_or s i 0)) base h)

  value_grows : (n : ℕ) → value_of base (n * base + digit_of (get_or s i 0)) (drop (i + 1) s) ≡ value_of base n (drop i s)
  unfolding value_of
  value_grows n = rw (add-one, drop-cons s i 0 more)

-- all digits are read
finished : (base : ℕ) (s : List ℕ) (n i : ℕ) → (n < 16 ^ i) × (are_digits base (drop i s) ≡ are_digits base s) × (value_of base n (drop i s) ≡ value_of base 0 s) → length s ≤ i → (are_digits base s ≡ true) × (value_of base 0 s ≡ n)
unfolding are_digits value_of
finished base s n i inv h =
    let none : drop i s ≡ [] = drop_of_length-le s h in
    (sym inv.1 ∙ rw none, sym inv.2 ∙ rw none)

pub loop-c-init : goal.loop-c-init
loop-c-init c = (omega arith, refl, refl)

pub returns-in_err-hex_digit : goal.returns-in_err-hex_digit
unfolding value_in
returns-in_err-hex_digit c =
    let stops : c.args.base ≤ digit_of (get_or c.args.s.now c.loop-c.c-index 0) = omega (arith, c.requires.1, c.in_err-hex_digit.ensures) in
    rw (c.from_residual.ensures, ← c.loop-c.invariant.1, digit-stops _ _ _ c.loop-c-test.true stops)

pub returns-then-base-d : goal.returns-then-base-d
unfolding value_in
returns-then-base-d c =
    let k = c.loop-c in
    rw (← k.invariant.1, digit-stops _ _ _ c.loop-c-test.true (rw (c.from-d.ensures, c.in_ok-hex_digit.ensures.1) at c.if-base-d.true))

pub overflow_mul-n : goal.overflow_mul-n
overflow_mul-n c =
    let k = c.loop-c in
    let g = grow k.n _ 0 k.c-index k.invariant.0 c.requires.1 (omega arith) in
    omega (arith, g, small k.c-index (omega arith))

pub overflow_add-n : goal.overflow_add-n
overflow_add-n c =
    let k = c.loop-c in
    let g = grow k.n _ _ k.c-index k.invariant.0 c.requires.1 c.if-base-d.false in
    omega (arith, g, small k.c-index (omega arith))

pub loop-c-preserved : goal.loop-c-preserved
loop-c-preserved c =
    let k = c.loop-c in
    let more = c.loop-c-test.true in
    let d = c.from-d.ensures ∙ c.in_ok-hex_digit.ensures.1 in (
      grow k.n _ _ k.c-index k.invariant.0 c.requires.1 c.if-base-d.false,
      digit-counts _ _ _ more (rw d at c.if-base-d.false) ∙ k.invariant.1,
      rw d (value_grows _ _ _ more k.n) ∙ k.invariant.2,
    )

pub returns-then-n-limit : goal.returns-then-n-limit
unfolding value_in
returns-then-n-limit c =
    let e = finished _ _ _ _ c.loop-c.invariant c.loop-c-test.false in
    rw (e.0, e.1, le-leb _ _ c.if-n-limit.true)

pub returns-else-n-limit : goal.returns-else-n-limit
unfolding value_in
returns-else-n-limit c =
    let e = finished _ _ _ _ c.loop-c.invariant c.loop-c-test.false in
    rw (e.0, e.1, lt-leb _ _ c.if-n-limit.false)
