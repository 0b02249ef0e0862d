-- `form::pair::put_time` meets its contract.
-- Assumes nothing.
use Rattle.form.proofs.Justified.{unsigned-end, unsigned-part}
use Rattle.form.specs.Form.{time_texts}
use Rattle.numeral.specs.Ascii.{ascii}
use Rattle.wording.proofs.Each.{put_one, put_first}
use native.Mathlib.Omega.{arith}
use Rattle.form.proofs.pair.put_time.Goals as goal

pub overflow_sub-start : goal.overflow_sub-start
overflow_sub-start c = omega (arith, unsigned-end c.put_nanoseconds-end.ensures (omega arith))

pub slice_bounds-put_text-end : goal.slice_bounds-put_text-end
slice_bounds-put_text-end c = omega (arith, c.put_nanoseconds-end.auto.buf, unsigned-end c.put_nanoseconds-end.ensures (omega arith))

pub returns : goal.returns
unfolding ascii time_texts
returns c = rw (← unsigned-part c.put_nanoseconds-end.ensures (omega arith)) (put_first c.put_text-a.ensures (put_one c.put_text.ensures))
