-- `item_line_code::hex::pair_at` meets its contract. Assumes nothing.
use native.Mathlib.Omega.{arith}
use Rattle.item_line_code.proofs.DigitLaws.{pair-digits}
use Rattle.item_line_code.proofs.hex.pair_at.Goals as goal

pub returns-then-stops_at : goal.returns-then-stops_at
returns-then-stops_at c =
    let high = c.in_ok-high.ensures in
    let low = c.in_ok-low.ensures in
    rw (high.1, low.1) (pair-digits _ _ (omega arith) c.if-s-i-eq32.true high.0 low.0 (c.stops_at.ensures c.if-stops_at.true))
