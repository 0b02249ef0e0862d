-- What is printed reads back. Assumes nothing.
use Prim.Native.Nat.{ℕ, ◌+◌, ◌/◌, ◌%◌, ◌^◌, ◌≤◌, ◌<◌}
use native.Mathlib.Omega.{arith}
use mathlib.Core.Bool.{Bool, true, false}
use mathlib.Core.Path.{◌≡◌, refl, ap}
use lib.Dec.{ltb, eqb}
use borrow.Author.Tests.{lt-ltb, ne_eqb}
use Rattle.unit.specs.Choice.{both}
use Rattle.unit.proofs.Cases.{by-test}
use Rattle.numeral.specs.Ascii.{ascii}
use Rattle.numeral.specs.Digit.{digits, glyph}
use Rattle.numeral.specs.Print.{decimal as printed}
use Rattle.numeral.proofs.DigitLaws.{digit_glyph, hex-reads-back}
use Rattle.numeral.proofs.PrintLaws.{decimal-reads-back}
use Rattle.text.specs.Text.{same}
use Rattle.item_line.specs.Reading.{got, number_of, hex, decimal, count, is_digit, are_digits, capital, four_digits, is_wanted, wanted}

-- A number in k hexadecimal digits, where so many may stand, is that number: a byte, a register's word or a hit word.
pub hex-back :
    (least most k n : ℕ) → 0 < k → least ≤ k → k ≤ most → k ≤ 8 → n < 16 ^ k → hex least most (digits 16 k n) ≡ got n
unfolding hex
hex-back least most k n some low high eight small =
    ap (number_of (digits 16 k n)) (hex-reads-back least most k n some low high eight small)

-- A decimal of at most 4,294,967,295, as ticks, milliohms and widths are, is that number.
pub count-back : (n : ℕ) → n ≤ 4294967295 → count (printed n) ≡ got n
unfolding decimal
count-back n small = ap (number_of (printed n)) (decimal-reads-back 4294967295 n small (omega arith))

-- a printed digit is no x, is a digit, and a capital
module _ (d : ℕ) (small : d < 16) where
  no-x : eqb (glyph d) 0x78 ≡ false
  unfolding glyph
  no-x =
      by-test (ltb d 10) (λ e. rw e (ne_eqb (48 + d) 0x78 (λ x. omega (arith, x))))
      (λ e. rw e (ne_eqb (55 + d) 0x78 (λ x. omega (arith, x))))

  is_digit_lem : is_digit (glyph d) ≡ true
  unfolding is_digit
  is_digit_lem = rw (no-x, digit_glyph d small, lt-ltb d 16 small)

  is-capital : capital (glyph d) ≡ glyph d
  unfolding capital
  is-capital = rw (no-x, digit_glyph d small)

never : (b : Bool) → both b false ≡ false
never true = refl
never false = refl

-- A register's word in four digits is wanted as it is printed: none of its digits may be any.
pub wanted-back : (w : ℕ) → wanted (digits 16 4 w) ≡ got (digits 16 4 w)
unfolding wanted is_wanted are_digits four_digits digits same ascii
wanted-back w =
    let a : w / 16 / 16 / 16 % 16 < 16 = omega arith in
    let b : w / 16 / 16 % 16 < 16 = omega arith in
    let c : w / 16 % 16 < 16 = omega arith in
    let d : w % 16 < 16 = omega arith in
    rw (
      is_digit_lem (w / 16 / 16 / 16 % 16) a,
      is_digit_lem (w / 16 / 16 % 16) b,
      is_digit_lem (w / 16 % 16) c,
      is_digit_lem (w % 16) d,
      is-capital (w / 16 / 16 / 16 % 16) a,
      is-capital (w / 16 / 16 % 16) b,
      is-capital (w / 16 % 16) c,
      is-capital (w % 16) d,
      no-x (w / 16 / 16 % 16) b,
      never (eqb (glyph (w / 16 / 16 / 16 % 16)) 0x30),
    )
