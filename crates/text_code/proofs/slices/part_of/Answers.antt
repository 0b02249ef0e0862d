-- `text_code::slices::part_of` meets its contract. Assumes nothing.
use borrow.Author.Rules.{rules}
use Rattle.text.specs.OwnPart.{part}
use Rattle.text_code.proofs.slices.part_of.Goals as goal

pub returns : goal.returns
unfolding part
returns c = search rules
