-- `phrase::question::put_words` meets its contract: a word more in each turn.
-- Assumes nothing.
use Rattle.std.proofs.Common.{refl, rules}
use Rattle.numeral.specs.Ascii.{ascii}
use Rattle.phrase.proofs.Loops.{words-on, words-end}
use Rattle.phrase.proofs.question.put_words.Goals as goal

pub loop-word-init : goal.loop-word-init
loop-word-init c = (refl, refl)

pub loop-word-preserved : goal.loop-word-preserved
loop-word-preserved c =
    (search rules, words-on c.args.words.now c.loop-word.word-index c.loop-word-test.true c.put_word-place.ensures c.loop-word.invariant.1)

pub returns : goal.returns
returns c = words-end c.args.words.now c.loop-word.word-index c.loop-word-test.false c.loop-word.invariant.1
