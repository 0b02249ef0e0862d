-- `line_reader::later::listing_call` meets its contract.
-- Assumes nothing.
use Rattle.numeral.specs.Ascii.{ascii}
use Rattle.line.specs.Line.{listing_call}
use Rattle.line_reader.proofs.later.listing_call.Goals as goal

pub returns-then-end-start : goal.returns-then-end-start
unfolding listing_call ascii
returns-then-end-start c = rw (c.next_word-word.ensures.none c.if-end-start.true)

pub returns-then-same : goal.returns-then-same
unfolding listing_call ascii
returns-then-same c =
    rw (c.next_word-word.ensures.some c.if-end-start.false, ← c.same.ensures, c.if-same.true) c.hex_call.ensures

pub returns-else-same : goal.returns-else-same
unfolding listing_call ascii
returns-else-same c =
    let word = c.next_word-word.ensures.some c.if-end-start.false in
    rw (word, ← c.same.ensures, c.if-same.false) (rw word at c.hex_call-else-same.ensures)
