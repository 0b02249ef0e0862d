-- `item_chip_code::asking::put_interrupt` meets its contract. Assumes nothing.
use borrow.Author.Tests.{eq-eqb, ne_eqb}
use Rattle.numeral.specs.Ascii.{ascii}
use Rattle.text.proofs.Putting.{puts}
use Rattle.item_answer.specs.Answer.{int_text}
use Rattle.item_chip_code.proofs.asking.put_interrupt.Goals as goal

pub returns-then-value-eq1 : goal.returns-then-value-eq1
unfolding int_text ascii
returns-then-value-eq1 c = rw (← c.interrupt_pending.ensures.same, ← c.value.ensures, eq-eqb _ 1 c.if-value-eq1.true) (puts c.put_text.ensures)

pub returns : goal.returns
unfolding int_text ascii
returns c = rw (← c.interrupt_pending.ensures.same, ← c.value.ensures, ne_eqb _ 1 c.if-value-eq1.false) (puts c.put_text-2.ensures)
