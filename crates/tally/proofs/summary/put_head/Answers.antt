-- `tally::summary::put_head` meets its contract. Assumes nothing.
use Rattle.numeral.specs.Place.{put_each}
use Rattle.collection.specs.Summary.{head_texts}
use Rattle.numeral.specs.Ascii.{ascii}
use Rattle.tally.proofs.summary.put_head.Goals as goal

pub returns : goal.returns
unfolding ascii head_texts put_each
returns c = record { next = cc; bytes = cc }
