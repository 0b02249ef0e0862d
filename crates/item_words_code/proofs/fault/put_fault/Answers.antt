-- `item_words_code::fault::put_fault` meets its contract.
-- Assumes nothing.
use Rattle.numeral.specs.Ascii.{ascii}
use Rattle.text.proofs.Putting.{puts, puts-last, puts_then}
use Rattle.item_answer.specs.Words.{fault_line}
use Rattle.item_words_code.proofs.fault.put_fault.Goals as goal

pub returns : goal.returns
unfolding ascii fault_line
returns c = puts_then (puts-last (puts-last (puts c.put_text-a.ensures) c.put_decimal-b.ensures) c.put_text-c.ensures) c.put_why.ensures
