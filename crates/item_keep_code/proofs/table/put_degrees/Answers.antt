-- `item_keep_code::table::put_degrees` meets its contract.
-- Assumes nothing.
use mathlib.Core.Path.{refl}
use Rattle.numeral.specs.Ascii.{ascii}
use Rattle.text.proofs.Putting.{puts, puts_first}
use Rattle.item_answer.specs.Answer.{degrees_told}
use Rattle.item_keep_code.proofs.table.put_degrees.Goals as goal

pub returns-in-Ok : goal.returns-in-Ok
unfolding degrees_told ascii
returns-in-Ok c = λ i e. rw (e, ← c.reading.ensures, c.in-Ok.is) (record { line = puts_first c.put_text-p.ensures (puts c.put_thousandths-end.ensures); refused = refl; item = refl })

pub returns-in-Err : goal.returns-in-Err
unfolding degrees_told ascii
returns-in-Err c = λ i e. rw (e, ← c.reading.ensures, c.in-Err.is) (record { line = c.put_refused.ensures.0; refused = c.put_refused.ensures.1; item = refl })
