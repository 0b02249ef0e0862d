-- `item_words_code::fault::shown_byte` meets its contract.
-- Assumes nothing.
use borrow.Author.Rules.{rules}
use borrow.Author.Tests.{le-leb, lt-leb}
use Rattle.item_answer.specs.Words.{shown_byte}
use Rattle.item_words_code.proofs.fault.shown_byte.Goals as goal

pub returns-then-c-lt33 : goal.returns-then-c-lt33
unfolding shown_byte
returns-then-c-lt33 c = search (rules, lt-leb)

pub returns-then-c-le126 : goal.returns-then-c-le126
unfolding shown_byte
returns-then-c-le126 c = search (rules, le-leb, lt-leb)

pub returns-else-c-le126 : goal.returns-else-c-le126
unfolding shown_byte
returns-else-c-le126 c = search (rules, le-leb, lt-leb)
