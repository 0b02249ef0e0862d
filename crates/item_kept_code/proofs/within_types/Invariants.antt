-- `item_kept_code::within_types` meets its contract. The invariant: the differences before the index have 32 bits.
use Rattle.item_kept_code.proofs.Fits.{Small}
use Rattle.item_kept_code.proofs.within_types.Given as goal

abbrev pub invariant-loop-difference : goal.invariant-loop-difference
invariant-loop-difference l = Small l.recorded l.difference-index
