-- `item_kept_code::within_types` meets its contract.
-- Assumes nothing.
use native.Mathlib.Omega.{arith}
use lib.IntN.{pos}
use lib.ListN.{get_or}
use borrow.Author.Rules.{rules}
use Rattle.listing.proofs.Signed.{magnitude-most}
use Rattle.item_kept_code.proofs.Fits.{next_small, quanta}
use Rattle.item_kept_code.proofs.within_types.Goals as goal

pub loop-difference-preserved : goal.loop-difference-preserved
loop-difference-preserved c =
    let ds = c.args.recorded.now in
    let i = c.loop-difference.difference-index in
    next_small ds i c.loop-difference.invariant (magnitude-most (get_or ds i (pos 0)) (record { sfits = search rules }))

pub returns : goal.returns
returns c = quanta c.args.recorded.now (λ k h. c.loop-difference.invariant k (omega arith))
