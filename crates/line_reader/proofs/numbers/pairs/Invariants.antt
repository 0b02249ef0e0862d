-- `line_reader::numbers::pairs` meets its contract. The invariant: the numbers up to i are stored; the measure is what is left of the bytes.
use Prim.Native.Nat.{◌-◌, ◌≤◌}
use mathlib.Core.Path.{◌≡◌}
use lib.ListN.{length}
use Rattle.line.specs.declared.Form.{Form}
use Rattle.line.specs.Clean.{Passed}
use Rattle.line_reader.proofs.numbers.pairs.Given as goal

abbrev pub invariant-loop-i : goal.invariant-loop-i
invariant-loop-i l =
    (l.i ≤ length l.s) × (length l.numbers ≡ length l.initial.numbers)
    × ((f : Form) → f.most ≡ 2 → f.least ≡ 2 → l.room ≤ f.looked → Passed f l.s l.at l.n l.initial.numbers l.i l.count l.numbers)

abbrev pub decreases-loop-i : goal.decreases-loop-i
decreases-loop-i l = length l.s - l.i
