-- `item_analysis::table::degrees` meets its contract.
-- Assumes nothing.
use borrow.Author.Tests.{lt-ltb, le-ltb}
use Rattle.item_analysis.specs.Lines.{degrees_line}
use Rattle.item_analysis.proofs.table.degrees.Goals as goal

pub returns-then-words-lt2 : goal.returns-then-words-lt2
unfolding degrees_line
returns-then-words-lt2 c = rw (lt-ltb _ 2 c.if-words-lt2.true)

pub returns : goal.returns
unfolding degrees_line
returns c = rw (le-ltb _ 2 c.if-words-lt2.false, ← c.first_words.ensures, ← c.reading-reading.ensures) c.put_reading.ensures
