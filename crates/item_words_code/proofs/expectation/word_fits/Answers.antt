-- `item_words_code::expectation::word_fits` meets its contract.
-- Assumes nothing.
use Rattle.numeral.proofs.DigitLaws.{length_digits}
use Rattle.item_words_code.proofs.Digits.{filled}
use Rattle.item_words_code.proofs.expectation.word_fits.Goals as goal

pub returns : goal.returns
returns c = rw (← filled _ _ (rw length_digits) c.put_hex.ensures) c.fits.ensures
