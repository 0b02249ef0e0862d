-- `listing::lines::numbers_of` meets its contract.
-- Assumes nothing.
use Prim.Native.Nat.{◌^◌}
use mathlib.Core.Path.{refl}
use native.Mathlib.Nat.{one-mul, mod-eq_of_lt}
use native.Mathlib.Omega.{arith}
use Rattle.listing.proofs.Capture.{sixteens, at-most-word}
use Rattle.listing.proofs.lines.numbers_of.Goals as goal

pub returns : goal.returns
returns c = let most = at-most-word c.args.digits c.requires in
    rw (one-mul, sixteens, mod-eq_of_lt {n = 16 ^ c.args.digits} {m = 18446744073709551616} (omega arith)) (refl, most)
