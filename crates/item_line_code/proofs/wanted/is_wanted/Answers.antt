-- `item_line_code::wanted::is_wanted` meets its contract. Assumes nothing.
use borrow.Author.Tests.{le-leb, lt-leb}
use Rattle.numeral.specs.Ascii.{ascii}
use Rattle.item_line.specs.Reading.{is_wanted}
use Rattle.item_line_code.proofs.WantedLaws.{not_negate}
use Rattle.item_line_code.proofs.wanted.is_wanted.Goals as goal

pub returns-then-word-lt1 : goal.returns-then-word-lt1
unfolding is_wanted ascii
returns-then-word-lt1 c = rw (lt-leb _ _ c.if-word-lt1.true)

pub returns-then-word-gt4 : goal.returns-then-word-gt4
unfolding is_wanted ascii
returns-then-word-gt4 c = rw (le-leb _ _ c.if-word-lt1.false, lt-leb _ _ c.if-word-gt4.true)

pub returns-then-are_digits : goal.returns-then-are_digits
unfolding is_wanted ascii
returns-then-are_digits c = rw (le-leb _ _ c.if-word-lt1.false, le-leb _ _ c.if-word-gt4.false, ← c.are_digits.ensures, c.if-are_digits.true, ← c.first_bytes.ensures, ← c.same.ensures) (not_negate c.same.result)

pub returns-else-are_digits : goal.returns-else-are_digits
unfolding is_wanted ascii
returns-else-are_digits c = rw (le-leb _ _ c.if-word-lt1.false, le-leb _ _ c.if-word-gt4.false, ← c.are_digits.ensures, c.if-are_digits.false)
