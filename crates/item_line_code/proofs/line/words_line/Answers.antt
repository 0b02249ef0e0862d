-- `item_line_code::line::words_line` meets its contract. Assumes nothing.
use Rattle.item_line_code.specs.OwnReads.{as_read}
use Rattle.numeral.specs.Ascii.{ascii}
use Rattle.item_line.specs.Reading.{words_line}
use Rattle.item_line.specs.OwnRead.{as_line}
use Rattle.item_line_code.proofs.line.words_line.Goals as goal

pub returns-then-end-word : goal.returns-then-end-word
unfolding words_line as_read as_line
returns-then-end-word c = rw (c.next_in-word.ensures.none c.if-end-word.true)

pub returns-then-same : goal.returns-then-same
unfolding words_line ascii as_read as_line
returns-then-same c = rw (c.next_in-word.ensures.some c.if-end-word.false, ← c.part_of-w.ensures, ← c.first_bytes.ensures, ← c.same.ensures, c.if-same.true)

pub returns-then-same-2 : goal.returns-then-same-2
unfolding words_line ascii as_read as_line
returns-then-same-2 c = rw (c.next_in-word.ensures.some c.if-end-word.false, ← c.part_of-w.ensures, ← c.first_bytes.ensures, ← c.same.ensures, c.if-same.false, ← c.same-2.ensures, c.if-same-2.true) (c.item_line.ensures _)

pub worded-requires : goal.worded-requires
worded-requires c = (
  record { ordered = c.next_in-word.ensures.high; high = c.requires.0.high; short = c.requires.0.short },
  c.next_in-word.ensures.stops c.if-end-word.false,
  c.requires.1,
)

pub returns : goal.returns
unfolding words_line ascii as_read as_line
returns c = rw (c.next_in-word.ensures.some c.if-end-word.false, ← c.part_of-w.ensures, ← c.first_bytes.ensures, ← c.same.ensures, c.if-same.false, ← c.same-2.ensures, c.if-same-2.false, c.part_of-w.ensures) c.worded.ensures
