-- `difference::signed` meets its contract.
-- Assumes nothing.
use Rattle.std.proofs.Common.{◌≡◌, ℕ, suc, ◌-◌, ◌<◌, ap, ◌∙◌, arith, to_z, w32}
use native.Mathlib.Decide.{dec_lt}
use borrow.Author.Tests.{lt-ltb, le-ltb}
use lib.IntN.{negsuc}
use mir.ValLaws.{of_z-to_z}
use Rattle.difference.specs.Difference.{signed_of}
use Rattle.difference.proofs.signed.Goals as goal

same : (w : ℕ) → to_z w32 w ≡ signed_of w
unfolding signed_of
same w = go (dec_lt w 2147483648)
  where
    go : Dec (w < 2147483648) → to_z w32 w ≡ signed_of w
    go (yes p) = rw (lt-ltb w 2147483648 p)
    go (no p) = let less : 4294967296 - suc w ≡ 4294967295 - w = omega arith in rw (le-ltb w 2147483648 (omega arith)) (ap negsuc less)

pub returns : goal.returns
returns c = rw c.cast_signed.ensures (ap (to_z w32) (of_z-to_z w32 c.args.word c.ranges.word) ∙ same c.args.word)
