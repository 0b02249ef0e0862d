-- `numeral::print::fill_digits` meets its contract.
-- Assumes nothing.
use Prim.Native.Nat.{ℕ, zero, suc, ◌+◌, ◌-◌, ◌/◌, ◌%◌, ◌≤◌, ◌<◌}
use mathlib.Core.Path.{◌≡◌, refl, sym, ◌∙◌}
use mathlib.Core.List.{List}
use native.Mathlib.Nat.{mod-lt}
use native.Mathlib.Omega.{arith}
use lib.ListN.{length, set, length-set}
use Rattle.numeral.specs.Digit.{glyph, digits}
use Rattle.numeral.specs.Place.{overwrite}
use Rattle.numeral.proofs.DigitLaws.{length_digits}
use Rattle.numeral.proofs.PlaceLaws.{overwrite-nil, overwrite-last}
use Rattle.numeral.proofs.print.fill_digits.Goals as goal

turn : (l : List ℕ) (at base i rest : ℕ) → 0 < i → at + i ≤ length l
    → overwrite (set l (at + (i - 1)) (glyph (rest % base))) at (digits base (i - 1) (rest / base)) ≡ overwrite l at (digits base i rest)
unfolding digits
turn l at base zero rest some room = absurd (omega arith)
turn l at base (suc j) rest some room =
    let n = length_digits base j (rest / base) in
    let one : suc j - 1 ≡ j = omega arith in
    rw (one, ← overwrite-last l at (digits base j (rest / base)) (glyph (rest % base)) (omega (arith, n)), n)

pub loop-i-init : goal.loop-i-init
loop-i-init c = (refl, refl)

pub glyph-requires : goal.glyph-requires
glyph-requires c = omega (arith, mod-lt c.loop-i.rest c.requires.0)

pub loop-i-preserved : goal.loop-i-preserved
loop-i-preserved c =
    let k = c.loop-i in
    let a = c.args in (
      simp length-set (omega arith),
      rw c.glyph.ensures (turn k.buf a.at a.base k.i k.rest c.loop-i-test.true (omega arith) ∙ k.invariant.1),
    )

pub returns : goal.returns
unfolding digits
returns c =
    let k = c.loop-i in
    let none : k.i ≡ 0 = omega arith in
    sym (overwrite-nil _ _) ∙ (rw none at k.invariant.1)
