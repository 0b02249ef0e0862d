-- `numeral::print::fill_low_bytes` meets its contract.
-- Assumes nothing.
use Rattle.std.proofs.Common.{◌≡◌, ℕ, ◌+◌, ◌%◌, ◌≤◌, ◌<◌, List, length, get_or, take, set, refl, sym, ap, ◌∙◌, arith}
use lib.ListN.{length-set}
use lib.Seq.{take_all}
use Rattle.numeral.specs.Place.{overwrite}
use Rattle.numeral.specs.Print.{low_bytes}
use Rattle.numeral.proofs.PlaceLaws.{overwrite-nil, overwrite-take}
use Rattle.numeral.proofs.PrintLaws.{length-low-bytes, low_byte}
use Rattle.numeral.proofs.print.fill_low_bytes.Goals as goal

-- one byte more
turn : (l : List ℕ) (at : ℕ) (ws : List ℕ) (i : ℕ) → i < length ws → at + length ws ≤ length l
    → set (overwrite l at (take i (low_bytes ws))) (at + i) (get_or ws i 0 % 256) ≡ overwrite l at (take (i + 1) (low_bytes ws))
turn l at ws i h room =
    rw (← low_byte ws i) (overwrite-take l at (low_bytes ws) i (rw (length-low-bytes ws) h) (rw (length-low-bytes ws) room))

done : (ws : List ℕ) (i : ℕ) → length ws ≤ i → take i (low_bytes ws) ≡ low_bytes ws
done ws i h = take_all i (low_bytes ws) (rw (length-low-bytes ws) h)

pub loop-i-init : goal.loop-i-init
loop-i-init c = (refl, sym (overwrite-nil _ _))

pub loop-i-preserved : goal.loop-i-preserved
loop-i-preserved c =
    let k = c.loop-i in
    (simp length-set (omega arith), rw k.invariant.1 (turn _ _ _ _ c.loop-i-test.true c.requires))

pub returns : goal.returns
returns c = c.loop-i.invariant.1 ∙ ap (overwrite _ _) (done _ _ c.loop-i-test.false)
