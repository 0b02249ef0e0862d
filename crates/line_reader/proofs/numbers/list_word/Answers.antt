-- `line_reader::numbers::list_word` meets its contract.
-- Assumes nothing.
use borrow.Author.Tests.{le-leb, lt-leb}
use Rattle.line.specs.Numbers.{list_word}
use Rattle.line_reader.proofs.numbers.list_word.Goals as goal

pub returns-then-is_slash : goal.returns-then-is_slash
unfolding list_word
returns-then-is_slash c = rw (← c.is_slash.ensures, c.if-is_slash.true)

pub returns-then-form-n : goal.returns-then-form-n
unfolding list_word
returns-then-form-n c = rw (← c.is_slash.ensures, c.if-is_slash.false, le-leb _ _ c.if-form-n.true)

pub returns-in-Some : goal.returns-in-Some
unfolding list_word
returns-in-Some c =
    rw (← c.is_slash.ensures, c.if-is_slash.false, lt-leb _ _ c.if-form-n.false, ← c.read_hex.ensures, c.in-Some.is)

pub returns-in-None : goal.returns-in-None
unfolding list_word
returns-in-None c =
    rw (← c.is_slash.ensures, c.if-is_slash.false, lt-leb _ _ c.if-form-n.false, ← c.read_hex.ensures, c.in-None.is)
