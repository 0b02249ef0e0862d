-- `line_reader::text::put_blanked` meets its contract. The invariant: to go on from i gives what is to be written; the measure is what is left of the bytes.
use Prim.Native.Nat.{◌-◌, ◌≤◌}
use mathlib.Core.Path.{◌≡◌}
use lib.ListN.{length, drop}
use Rattle.numeral.specs.Place.{put_each}
use Rattle.line.specs.Words.{words}
use Rattle.line.specs.Spaced.{blanked}
use Rattle.line_reader.proofs.text.put_blanked.Given as goal

abbrev pub invariant-loop-i : goal.invariant-loop-i
invariant-loop-i l =
    (l.i ≤ length l.s) × (length l.buf ≡ length l.initial.buf)
    × (put_each l.buf l.place (blanked (words (drop l.i l.s))) ≡ put_each l.initial.buf l.at (blanked (words (drop l.from l.s))))

abbrev pub decreases-loop-i : goal.decreases-loop-i
decreases-loop-i l = length l.s - l.i
