-- `phrase::kept::put_differences` meets its contract: a difference more in each turn.
-- Assumes nothing.
use Rattle.std.proofs.Common.{refl, rules}
use Rattle.numeral.specs.Ascii.{ascii}
use Rattle.phrase.proofs.Loops.{differences-on, differences-end}
use Rattle.phrase.proofs.kept.put_differences.Goals as goal

pub loop-word-init : goal.loop-word-init
loop-word-init c = (refl, refl)

pub loop-word-preserved : goal.loop-word-preserved
loop-word-preserved c =
    (search rules, differences-on c.args.words.now c.loop-word.word-index c.loop-word-test.true c.put_difference-place.ensures c.loop-word.invariant.1)

pub returns : goal.returns
returns c = differences-end c.args.words.now c.loop-word.word-index c.loop-word-test.false c.loop-word.invariant.1
