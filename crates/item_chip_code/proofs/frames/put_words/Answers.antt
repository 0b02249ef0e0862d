-- `item_chip_code::frames::put_words` meets its contract. Assumes nothing.
use Rattle.item_chip_code.proofs.FrameSteps.{words-on, words-end}
use Rattle.item_chip_code.proofs.frames.put_words.Goals as goal

pub loop-word-init : goal.loop-word-init
loop-word-init c = λ l' r p. p

pub loop-word-preserved : goal.loop-word-preserved
loop-word-preserved c = words-on c.args.words.now c.args.words.now c.loop-word.word-index c.loop-word-test.true c.put_low_bytes-place.ensures c.loop-word.invariant

pub returns : goal.returns
returns c = words-end c.args.words.now c.args.words.now c.loop-word.word-index c.loop-word-test.false c.loop-word.invariant
