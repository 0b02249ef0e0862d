-- `item_ticks_code::running::run_ticks` meets its contract.
use mathlib.Core.Path.{◌≡◌}
use lib.ListN.{length}
use Rattle.item_ticks_code.specs.OwnRan.{Going}
use Rattle.item_ticks_code.proofs.running.run_ticks.Given as goal

abbrev pub invariant-loop-buf : goal.invariant-loop-buf
invariant-loop-buf l = (length l.buf ≡ length l.initial.buf) × Going l.initial.r.model l.initial.r.left.0 l.initial.r.next l.initial.buf l.initial.r.end l.stop l.r l.buf

abbrev pub decreases-loop-buf : goal.decreases-loop-buf
decreases-loop-buf l = l.r.left.0
