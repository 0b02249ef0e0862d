-- `item_chip_code::frames::put_words` meets its contract. Assumes nothing.
use lib.ListN.{drop}
use Rattle.item_chip_code.proofs.FrameSteps.{Left}
use Rattle.item_chip_code.proofs.frames.put_words.Given as goal

abbrev pub invariant-loop-word : goal.invariant-loop-word
invariant-loop-word l = Left l.initial.buf l.at l.words l.buf l.place (drop l.word-index l.words)
