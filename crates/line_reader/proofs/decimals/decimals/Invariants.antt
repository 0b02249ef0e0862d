-- `line_reader::decimals::decimals` meets its contract. The invariant: to go on from i comes to the same; the measure is what is left of the bytes.
use Prim.Native.Nat.{◌-◌, ◌≤◌}
use mathlib.Core.Path.{◌≡◌}
use lib.ListN.{length, drop}
use Rattle.line.specs.Words.{words}
use Rattle.line.specs.Decimals.{listed}
use Rattle.line_reader.proofs.decimals.decimals.Given as goal

abbrev pub invariant-loop-i : goal.invariant-loop-i
invariant-loop-i l =
    (l.i ≤ length l.s) × (l.count ≤ l.i) × (length l.numbers ≡ length l.initial.numbers) × (listed l.signed l.count l.numbers (words (drop l.i l.s)) ≡ listed l.signed 0 l.initial.numbers (words (drop l.at l.s)))

abbrev pub decreases-loop-i : goal.decreases-loop-i
decreases-loop-i l = length l.s - l.i
