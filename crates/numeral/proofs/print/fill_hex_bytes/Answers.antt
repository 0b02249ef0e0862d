-- `numeral::print::fill_hex_bytes` meets its contract.
-- Assumes nothing.
use Prim.Native.Nat.{ℕ, ◌+◌, ◌*◌, ◌/◌, ◌%◌, ◌≤◌, ◌<◌}
use mathlib.Core.Path.{◌≡◌, refl, sym, ap, ◌∙◌}
use mathlib.Core.List.{List}
use native.Mathlib.Omega.{arith}
use lib.ListN.{length, get_or, take, set, length-set}
use lib.Seq.{take_all}
use Rattle.numeral.specs.Digit.{glyph}
use Rattle.numeral.specs.Place.{overwrite}
use Rattle.numeral.specs.Print.{hex_bytes}
use Rattle.numeral.proofs.PlaceLaws.{overwrite-nil, overwrite-take}
use Rattle.numeral.proofs.PrintLaws.{length-hex-bytes, hex-high, hex-low}
use Rattle.numeral.proofs.print.fill_hex_bytes.Goals as goal

-- one byte more
turn : (l : List ℕ) (at : ℕ) (bs : List ℕ) (i : ℕ) → i < length bs → at + 2 * length bs ≤ length l
    → set (set (overwrite l at (take (2 * i) (hex_bytes bs))) (at + 2 * i) (glyph (get_or bs i 0 / 16 % 16))) (at + 2 * i + 1) (glyph (get_or bs i 0 % 16))
    ≡ overwrite l at (take (2 * (i + 1)) (hex_bytes bs))
turn l at bs i h room =
    let n = length-hex-bytes bs in
    let there : at + 2 * i + 1 ≡ at + (2 * i + 1) = omega arith in
    let more : 2 * (i + 1) ≡ 2 * i + 1 + 1 = omega arith in
    rw (← hex-high bs i h, ← hex-low bs i h, overwrite-take l at (hex_bytes bs) (2 * i) (omega (arith, n)) (omega (arith, n)), there, more)
    (overwrite-take l at (hex_bytes bs) (2 * i + 1) (omega (arith, n)) (omega (arith, n)))

done : (bs : List ℕ) (i : ℕ) → length bs ≤ i → take (2 * i) (hex_bytes bs) ≡ hex_bytes bs
done bs i h = take_all (2 * i) (hex_bytes bs) (omega (arith, length-hex-bytes bs))

-- the high digit of a byte
high : (b : ℕ) → b < 256 → b / 16 ≡ b / 16 % 16
high b h = omega arith

pub loop-i-init : goal.loop-i-init
loop-i-init c = (refl, sym (overwrite-nil _ _))

pub loop-i-preserved : goal.loop-i-preserved
loop-i-preserved c =
    let k = c.loop-i in
    let byte = high (get_or c.args.bytes.now k.i 0) (omega (arith, c.type_inv.bytes k.i)) in (
      simp length-set (omega arith),
      rw (c.glyph.ensures, c.glyph-in-loop-i.ensures, c.from.ensures, c.from-in-loop-i.ensures, byte, k.invariant.1) (turn _ _ _ _ c.loop-i-test.true c.requires),
    )

pub returns : goal.returns
returns c = c.loop-i.invariant.1 ∙ ap (overwrite _ _) (done _ _ c.loop-i-test.false)
