-- `numeral::print::has_room` meets its contract.
-- Assumes nothing.
use Prim.Native.Nat.{ℕ, ◌+◌, ◌-◌, ◌≤◌}
use mathlib.Core.Path.{◌≡◌}
use native.Mathlib.Decide.{dec_le}
use native.Mathlib.Omega.{arith}
use lib.Dec.{leb}
use borrow.Author.Tests.{lt-leb, le-leb}
use Rattle.numeral.proofs.print.has_room.Goals as goal

same_test : (len at count : ℕ) → at ≤ len → leb count (len - at) ≡ leb (at + count) len
same_test len at count h = go (dec_le count (len - at))
  where
    go : Dec (count ≤ len - at) → leb count (len - at) ≡ leb (at + count) len
    go (yes p) = rw (le-leb count (len - at) p, le-leb (at + count) len (omega arith))
    go (no p) = rw (lt-leb count (len - at) (omega arith), lt-leb (at + count) len (omega arith))

pub returns-then-at-len : goal.returns-then-at-len
returns-then-at-len c = same_test c.args.len c.args.at c.args.count c.if-at-len.true

pub returns-else-at-len : goal.returns-else-at-len
returns-else-at-len c =
    rw (lt-leb c.args.at c.args.len c.if-at-len.false, lt-leb (c.args.at + c.args.count) c.args.len (omega arith))
