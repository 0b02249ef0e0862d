-- `item_analysis::questions::listing` meets its contract.
-- Assumes nothing.
use Rattle.item_analysis.specs.Lines.{listing_line}
use Rattle.item_analysis.proofs.questions.listing.Goals as goal

pub returns : goal.returns
unfolding listing_line
returns c = rw (← c.first_of.ensures, ← c.put_listing-at.ensures.next, ← c.put_listing-at.ensures.bytes, ← c.lines-listed.ensures) c.tell_listed.ensures
