-- `item_chip_code::frames::size_of` meets its contract. Assumes nothing.
use Rattle.item_line.specs.OwnRead.{as_output}
use Rattle.item_answer.specs.Answer.{size_of}
use Rattle.item_chip_code.proofs.frames.size_of.Goals as goal

pub returns-in-None : goal.returns-in-None
unfolding as_output size_of
returns-in-None c = rw c.in-None.is c.frame_size.ensures

pub returns-in-Some : goal.returns-in-Some
unfolding as_output size_of
returns-in-Some c = rw c.in-Some.is
