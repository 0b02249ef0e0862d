-- `item_line_code::calls::listing_line` meets its contract. Assumes nothing.
use Rattle.item_line_code.specs.OwnReads.{as_read}
use mathlib.Core.Path.{sym, ◌∙◌}
use Rattle.numeral.specs.Ascii.{ascii}
use Rattle.text.specs.OwnPart.{part}
use Rattle.item_line.specs.OwnRead.{as_fault, as_line}
use Rattle.item_line_code.proofs.CallLaws.{listing_none, listing-old, listing-new}
use Rattle.item_line_code.proofs.calls.listing_line.Goals as goal

pub returns-then-end-start : goal.returns-then-end-start
unfolding as_read as_line as_fault part ascii
returns-then-end-start c = λ l. listing_none _ (c.next_in-word.ensures.none c.if-end-start.true)

pub returns-then-same : goal.returns-then-same
unfolding as_read as_line as_fault part ascii
returns-then-same c = λ l. c.listing_of.ensures l ∙ listing-old _ (c.next_in-word.ensures.some c.if-end-start.false) (sym c.same.ensures ∙ c.if-same.true)

pub returns-else-same : goal.returns-else-same
unfolding as_read as_line as_fault part ascii
returns-else-same c = λ l. c.listing_of-else-same.ensures l ∙ listing-new _ (c.next_in-word.ensures.some c.if-end-start.false) (sym c.same.ensures ∙ c.if-same.false)
