-- `listing::lines::put_lines` meets its contract. The invariant: the lines of the first i differences are put.
use Prim.Native.Nat.{◌*◌}
use mathlib.Core.Path.{◌≡◌}
use lib.ListN.{length, take}
use Rattle.numeral.specs.Place.{overwrite}
use Rattle.listing.specs.Listing.{line_length, lines}
use Rattle.listing.proofs.lines.put_lines.Given as goal

abbrev pub invariant-loop-i : goal.invariant-loop-i
invariant-loop-i l =
    (length l.out ≡ length l.initial.out) × (l.at ≡ l.i * line_length l.digits)
    × (length (lines l.digits l.first (take l.i l.differences)) ≡ l.i * line_length l.digits)
    × (l.out ≡ overwrite l.initial.out 0 (lines l.digits l.first (take l.i l.differences)))
