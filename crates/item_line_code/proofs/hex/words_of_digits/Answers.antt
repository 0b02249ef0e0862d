-- `item_line_code::hex::words_of_digits` meets its contract. Assumes nothing.
use native.Mathlib.Omega.{arith}
use Rattle.item_line_code.proofs.DigitLaws.{passed-more}
use Rattle.item_line_code.proofs.hex.words_of_digits.Goals as goal

pub loop-i-smaller : goal.loop-i-smaller
loop-i-smaller c = omega (arith, c.skip_blanks-start.ensures.low, (c.is_whole.ensures c.if-not-is_whole.false).some, c.digits_at-digits.ensures.high)

pub loop-i-preserved : goal.loop-i-preserved
loop-i-preserved c =
    let b = c.skip_blanks-start.ensures in
    passed-more c.loop-i.invariant c.requires.1 c.digits_at-digits.ensures (c.is_whole.ensures c.if-not-is_whole.false) b.alike b.low
