-- `item_words_code::expectation::four_digits` meets its contract.
-- Assumes nothing.
use Rattle.item_words_code.proofs.Digits.{four}
use Rattle.item_words_code.proofs.expectation.four_digits.Goals as goal

pub returns : goal.returns
returns c = rw (c.digit_backward-a.ensures, c.digit_backward-b.ensures, c.digit_backward-c.ensures, c.digit_backward-d.ensures) (four _ c.requires)
