-- `listing::line::put_time` meets its contract: the 12 places before the time's end in a field of blanks.
-- Assumes nothing.
use native.Mathlib.Omega.{arith}
use Rattle.listing.proofs.Time.{time-fits, time-end, time-part}
use Rattle.listing.proofs.line.put_time.Goals as goal

pub overflow_sub-start : goal.overflow_sub-start
overflow_sub-start c = omega (arith, time-end _ c.requires _ _ c.put_nanoseconds-end.ensures)

pub slice_bounds-put_text-end : goal.slice_bounds-put_text-end
slice_bounds-put_text-end c = omega (arith, c.put_nanoseconds-end.auto.buf, time-fits _ c.requires, time-end _ c.requires _ _ c.put_nanoseconds-end.ensures)

pub returns : goal.returns
returns c = rw (← time-part _ c.requires _ _ c.put_nanoseconds-end.ensures) c.put_text.ensures
