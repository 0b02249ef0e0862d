-- `item_page_code::times::put_difference` meets its contract. Assumes nothing.
use Rattle.numeral.specs.Ascii.{ascii}
use Rattle.text.proofs.Putting.{puts}
use Rattle.item_page.specs.Registers.{difference_text}
use borrow.Author.Rules.{rules}
use Rattle.item_page_code.proofs.times.put_difference.Goals as goal

pub returns-then-failed : goal.returns-then-failed
unfolding ascii difference_text
returns-then-failed c = rw (← c.failed.ensures, c.if-failed.true) (puts c.put_text.ensures)

pub returns : goal.returns
unfolding difference_text
returns c = rw (← c.failed.ensures, c.if-failed.false) c.put_signed_time.ensures
