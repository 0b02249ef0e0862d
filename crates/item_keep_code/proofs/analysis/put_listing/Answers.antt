-- `item_keep_code::analysis::put_listing` meets its contract.
-- Assumes nothing.
use mathlib.Core.Path.{refl}
use Rattle.numeral.specs.Ascii.{ascii}
use Rattle.text.proofs.Putting.{puts, puts_first}
use Rattle.item_answer.specs.Answer.{listing_told}
use Rattle.item_keep_code.proofs.analysis.put_listing.Goals as goal

pub returns-then-last_above : goal.returns-then-last_above
unfolding listing_told ascii
returns-then-last_above c = λ i e. rw (e, ← c.last_above.ensures, c.if-last_above.true) (record { line = c.put_refused.ensures.0; refused = c.put_refused.ensures.1; item = refl })

pub returns : goal.returns
unfolding listing_told ascii
returns c = λ i e. rw (e, ← c.last_above.ensures, c.if-last_above.false) (record { line = puts_first c.put_text-a.ensures (puts c.put_decimal-end.ensures); refused = refl; item = refl })
