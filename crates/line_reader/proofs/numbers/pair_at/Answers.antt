-- `line_reader::numbers::pair_at` meets its contract.
-- Assumes nothing.
use Rattle.line.proofs.CleanLaws.{pair-digits}
use Rattle.line_reader.proofs.numbers.pair_at.Goals as goal

pub returns-then-stops_at : goal.returns-then-stops_at
returns-then-stops_at c =
    let high = c.in_ok-high.ensures in
    let low = c.in_ok-low.ensures in
    rw (high.1, low.1) (pair-digits _ _ c.requires c.if-s-i-eq32.true high.0 low.0 (c.stops_at.ensures c.if-stops_at.true))
