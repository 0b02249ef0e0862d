-- `item_keep_code::differences::put_each` meets its contract: a difference more in each turn.
-- Assumes nothing.
use mathlib.Core.List.{map}
use mathlib.Core.Path.{refl}
use Rattle.numeral.specs.Ascii.{ascii}
use Rattle.difference.specs.Difference.{signed_of}
use Rattle.item_answer.specs.Words.{quanta}
use Rattle.item_keep_code.proofs.Printing.{spaced-on, spaced-end}
use Rattle.item_keep_code.proofs.differences.put_each.Goals as goal

pub loop-word-init : goal.loop-word-init
loop-word-init c = λ r l' p. p

pub loop-word-preserved : goal.loop-word-preserved
unfolding ascii
loop-word-preserved c = spaced-on (λ ws. map quanta (map signed_of ws)) (λ w. quanta (signed_of w)) c.args.words.now c.loop-word.word-index (λ v vs. refl) c.loop-word-test.true c.put_difference-place.ensures c.loop-word.invariant

pub returns : goal.returns
returns c = spaced-end (λ ws. map quanta (map signed_of ws)) (λ w. quanta (signed_of w)) c.args.words.now c.loop-word.word-index refl c.loop-word-test.false c.loop-word.invariant
