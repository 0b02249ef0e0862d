-- `item_replay_code::lines::mark` meets its contract.
-- Assumes nothing.
use native.Mathlib.Nat.{add-zero}
use Rattle.item_replay_code.proofs.lines.mark.Goals as goal

pub returns-then-done : goal.returns-then-done
returns-then-done c = record { next = rw c.if-done.true; marks = rw (c.if-done.true, c.bits.ensures.0) }

pub returns : goal.returns
returns c = record { next = rw (c.if-done.false, add-zero); marks = rw c.if-done.false }
