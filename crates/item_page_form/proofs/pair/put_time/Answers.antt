-- `item_page_form::pair::put_time` meets its contract. Assumes nothing.
use native.Mathlib.Omega.{arith}
use Rattle.numeral.specs.Ascii.{ascii}
use Rattle.text.proofs.Putting.{puts, puts_first}
use Rattle.item_page.specs.Registers.{time}
use Rattle.item_page_form.proofs.Justified.{unsigned-end, unsigned-part}
use Rattle.item_page_form.proofs.pair.put_time.Goals as goal

pub overflow_sub-start : goal.overflow_sub-start
overflow_sub-start c = omega (arith, unsigned-end c.put_nanoseconds-end.ensures (omega arith))

pub slice_bounds-put_text-end : goal.slice_bounds-put_text-end
slice_bounds-put_text-end c = omega (arith, c.put_nanoseconds-end.auto.buf, unsigned-end c.put_nanoseconds-end.ensures (omega arith))

pub returns : goal.returns
unfolding ascii time
returns c = rw (← unsigned-part c.put_nanoseconds-end.ensures (omega arith)) (puts_first c.put_text-a.ensures (puts c.put_text.ensures))
