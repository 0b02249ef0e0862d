-- `item_line_code::line::worded` meets its contract. Assumes nothing.
use Rattle.item_line_code.specs.OwnReads.{as_read}
use Rattle.numeral.specs.Ascii.{ascii}
use Rattle.item_line.specs.Reading.{worded}
use Rattle.item_line.specs.OwnRead.{as_line}
use Rattle.item_line_code.specs.OwnReads.{wanted_of}
use Rattle.item_line_code.proofs.line.worded.Goals as goal

pub returns-then-same : goal.returns-then-same
unfolding worded ascii as_read as_line
returns-then-same c = rw (← c.part_of-w.ensures, ← c.same.ensures, c.if-same.true, ← c.uncommented.ensures.words) (c.alone.ensures _)

pub returns-then-same-2 : goal.returns-then-same-2
unfolding worded ascii wanted_of
returns-then-same-2 c = rw (← c.part_of-w.ensures, ← c.same.ensures, c.if-same.false, ← c.same-2.ensures, c.if-same-2.true, ← c.uncommented-then-same-2.ensures.words) (c.wanted_line.ensures _)

pub returns-then-same-3 : goal.returns-then-same-3
unfolding worded ascii wanted_of
returns-then-same-3 c = rw (← c.part_of-w.ensures, ← c.same.ensures, c.if-same.false, ← c.same-2.ensures, c.if-same-2.false, ← c.same-3.ensures, c.if-same-3.true, ← c.uncommented-then-same-3.ensures.words) (c.wanted_line-then-same-3.ensures _)

pub returns : goal.returns
unfolding worded ascii
returns c = rw (← c.part_of-w.ensures, ← c.same.ensures, c.if-same.false, ← c.same-2.ensures, c.if-same-2.false, ← c.same-3.ensures, c.if-same-3.false, c.part_of-w.ensures, ← c.split-parts.ensures.before, ← c.split-parts.ensures.expected) c.marked_line.ensures
