-- `listing::line::put_sign` meets its contract.
-- Assumes nothing.
use Rattle.listing.specs.Listing.{sign}
use Rattle.listing.proofs.Signed.{tested}
use Rattle.listing.proofs.line.put_sign.Goals as goal

pub returns-then-difference-lt0 : goal.returns-then-difference-lt0
unfolding sign
returns-then-difference-lt0 c = rw (tested _ c.ranges.difference c.if-difference-lt0.true) c.put_text.ensures

pub returns-else-difference-lt0 : goal.returns-else-difference-lt0
unfolding sign
returns-else-difference-lt0 c = rw (tested _ c.ranges.difference c.if-difference-lt0.false) c.put_text-else-difference-lt0.ensures
