-- `show::times::put_signed_time` meets its contract.
-- Assumes nothing.
use borrow.Author.Rules.{rules}
use native.Mathlib.Omega.{arith}
use Rattle.wording.proofs.Each.{put_one, put_first}
use Rattle.numeral.specs.Ascii.{ascii}
use Rattle.page.specs.Results.{signed_time}
use Rattle.form.proofs.Justified.{signed-end, signed_part}
use Rattle.show.proofs.times.put_signed_time.Goals as goal

pub overflow_sub-start : goal.overflow_sub-start
overflow_sub-start c = omega (arith, signed-end c.put_signed_nanoseconds-end.ensures (omega arith))

pub slice_bounds-put_text-end : goal.slice_bounds-put_text-end
slice_bounds-put_text-end c = omega (arith, c.put_signed_nanoseconds-end.auto.buf, signed-end c.put_signed_nanoseconds-end.ensures (omega arith))

pub returns : goal.returns
unfolding ascii signed_time
returns c = rw (← signed_part c.put_signed_nanoseconds-end.ensures (omega arith)) (put_first c.put_text-a.ensures (put_one c.put_text.ensures))
