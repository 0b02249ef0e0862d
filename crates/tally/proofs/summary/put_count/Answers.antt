-- `tally::summary::put_count` meets its contract. Assumes nothing.
use Rattle.numeral.specs.Place.{put_each}
use Rattle.tally.proofs.summary.put_count.Goals as goal

pub returns : goal.returns
unfolding put_each
returns c = record { next = cc; bytes = cc }
