-- `item_questions::expectation::put_differing` meets its contract: a word more in each turn.
-- Assumes nothing.
use Rattle.std.proofs.Common.{refl}
use Rattle.item_questions.proofs.Steps.{pairs-on, pairs_end}
use Rattle.item_questions.proofs.expectation.put_differing.Goals as goal

pub loop-wanted-preserved : goal.loop-wanted-preserved
loop-wanted-preserved c = pairs-on c.args.m c.loop-wanted.address c.args.words.now c.loop-wanted.wanted-index c.loop-wanted-test.true c.word.ensures refl c.put_pair-place.ensures c.loop-wanted.invariant

pub returns : goal.returns
returns c = pairs_end c.args.m c.loop-wanted.address c.args.words.now c.loop-wanted.wanted-index c.loop-wanted-test.false c.loop-wanted.invariant
