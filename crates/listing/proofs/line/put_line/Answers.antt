-- `listing::line::put_line` meets its contract: four parts put one after the other are the line.
-- Assumes nothing.
use Rattle.listing.proofs.Signed.{magnitude-most, same}
use Rattle.listing.proofs.Sequence.{put-line}
use Rattle.listing.proofs.line.put_line.Goals as goal

pub returns : goal.returns
returns c =
    let x = c.args.difference in
    put-line _ _ _ _ x (magnitude-most x c.ranges.difference) c.requires (same x c.ranges.difference) c.unsigned_abs.ensures.value c.put_hex-number.ensures c.put_sign-signed.ensures c.put_time-time.ensures c.put_text.ensures
