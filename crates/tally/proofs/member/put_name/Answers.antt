-- `tally::member::put_name` meets its contract. Assumes nothing.
use Rattle.numeral.specs.Place.{put_each}
use Rattle.collection.specs.Group.{name_texts}
use Rattle.numeral.specs.Ascii.{ascii}
use Rattle.tally.proofs.member.put_name.Goals as goal

pub returns : goal.returns
unfolding ascii name_texts put_each
returns c = cc
