-- `item_line_code::numbers::list_word` meets its contract. Assumes nothing.
use Rattle.item_line_code.specs.OwnNumbers.{list_word}
use Rattle.item_line_code.proofs.numbers.list_word.Goals as goal

pub returns-then-is_slash : goal.returns-then-is_slash
unfolding list_word
returns-then-is_slash c = rw (← c.is_slash.ensures, c.if-is_slash.true)

pub returns-in-Some : goal.returns-in-Some
unfolding list_word
returns-in-Some c = rw (← c.is_slash.ensures, c.if-is_slash.false, ← c.number_in.ensures, c.in-Some.is)

pub returns-in-None : goal.returns-in-None
unfolding list_word
returns-in-None c = rw (← c.is_slash.ensures, c.if-is_slash.false, ← c.number_in.ensures, c.in-None.is)
