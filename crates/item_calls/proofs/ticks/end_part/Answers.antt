-- `item_calls::ticks::end_part` meets its contract.
-- Assumes nothing.
use borrow.Author.Tests.{eq-eqb, ne_eqb}
use Prim.Native.Nat.{ℕ, ◌≤◌, ◌<◌}
use mathlib.Core.Bool.{true, false}
use mathlib.Core.Path.{◌≡◌}
use lib.Dec.{eqb}
use native.Mathlib.Omega.{arith}
use Rattle.item_calls.specs.Lines.{part_ended}
use Rattle.item_state.specs.Log.{said}
use Rattle.item_calls.proofs.ticks.end_part.Goals as goal

some_left : (n : ℕ) → 0 < n → eqb n 0 ≡ false
some_left n h = ne_eqb n 0 (λ none. omega arith)

none_left : (n : ℕ) → n ≤ 0 → eqb n 0 ≡ true
none_left n h = eq-eqb n 0 (omega arith)

pub returns-then-left-gt0 : goal.returns-then-left-gt0
unfolding part_ended
returns-then-left-gt0 c = rw (some_left _ c.if-left-gt0.true)

pub returns : goal.returns
unfolding part_ended said
returns c = rw (none_left _ c.if-left-gt0.false, ← c.put_end.ensures.next, ← c.put_end.ensures.bytes)
