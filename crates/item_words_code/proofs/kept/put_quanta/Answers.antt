-- `item_words_code::kept::put_quanta` meets its contract.
-- Assumes nothing.
use mathlib.Core.Path.{ap, ◌∙◌}
use lib.IntN.{nat_abs}
use Rattle.numeral.specs.Ascii.{ascii}
use Rattle.listing.proofs.Signed.{same, tested}
use Rattle.item_words_code.proofs.Digits.{put-negative, put-positive}
use Rattle.item_words_code.proofs.kept.put_quanta.Goals as goal

pub returns-then-difference-lt0 : goal.returns-then-difference-lt0
unfolding ascii
returns-then-difference-lt0 c = put-negative _ _ (c.from-n.ensures ∙ (c.unsigned_abs.ensures.value ∙ ap nat_abs (same _ c.ranges.difference))) (tested _ c.ranges.difference c.if-difference-lt0.true) c.put_text-a.ensures c.put_decimal.ensures

pub returns : goal.returns
returns c = put-positive _ _ (c.from-n.ensures ∙ (c.unsigned_abs.ensures.value ∙ ap nat_abs (same _ c.ranges.difference))) (tested _ c.ranges.difference c.if-difference-lt0.false) c.put_decimal-2.ensures
