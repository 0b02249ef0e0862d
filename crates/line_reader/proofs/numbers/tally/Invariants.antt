-- `line_reader::numbers::tally` meets its contract. The invariant: to go on from i with what is counted and stored gives what all words come to; the measure is what is left of the bytes.
use Prim.Native.Nat.{◌+◌, ◌-◌, ◌≤◌}
use mathlib.Core.Path.{◌≡◌}
use lib.ListN.{length, drop}
use Rattle.line.specs.Words.{words}
use Rattle.line.specs.Numbers.{tallied}
use Rattle.line_reader.proofs.numbers.tally.Given as goal

abbrev pub invariant-loop-i : goal.invariant-loop-i
invariant-loop-i l =
    (l.i ≤ length l.s) × (length l.numbers ≡ length l.initial.numbers) × (l.count + l.slashes ≤ l.i)
    × (tallied l.form l.count l.slashes l.up l.numbers (words (drop l.i l.s)) ≡ tallied l.form 0 0 0 l.initial.numbers (words (drop l.at l.s)))

abbrev pub decreases-loop-i : goal.decreases-loop-i
decreases-loop-i l = length l.s - l.i
