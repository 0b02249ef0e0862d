-- `item_chip_code::stretches::put_stretched` meets its contract. Assumes nothing.
use Rattle.text.proofs.Putting.{puts, puts-last, puts_then}
use Rattle.numeral.specs.Ascii.{ascii}
use Rattle.item_chip_code.proofs.stretches.put_stretched.Goals as goal

pub returns : goal.returns
unfolding ascii
returns c = puts_then (puts-last (puts c.put_text-a.ensures) (rw c.wide.ensures.0 at c.put_decimal-b.ensures)) c.put_reports_to.ensures
