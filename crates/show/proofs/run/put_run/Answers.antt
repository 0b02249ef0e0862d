-- `show::run::put_run` meets its contract.
-- Assumes nothing.
use borrow.Author.Rules.{rules}
use mathlib.Core.Path.{◌∙◌}
use Rattle.wording.proofs.Each.{put-none, put_then}
use Rattle.numeral.specs.Ascii.{ascii}
use Rattle.page.specs.Row.{lines}
use Rattle.page.specs.Run.{run_rows}
use Rattle.show.proofs.run.put_run.Goals as goal

pub shape_of-buf : goal.shape_of-buf
shape_of-buf c = c.put_next.auto.buf ∙ c.put_event-g.auto.buf ∙ c.put_next-f.auto.buf ∙ c.put_event-e.auto.buf ∙ c.put_awaited-d.auto.buf ∙ c.put_awaited-c.auto.buf ∙ c.put_initialised-b.auto.buf ∙ c.put_line-a.auto.buf

pub returns : goal.returns
unfolding ascii lines run_rows
returns c = rw (← c.flight_place-p.ensures.same, ← c.temperature_place-q.ensures.same, ← c.initialised.ensures.same, ← c.value.ensures, ← c.flight_left.ensures.same, ← c.ticks_left.ensures, ← c.temperature_left.ensures.same, ← c.ticks_left-2.ensures) (put_then c.put_line-a.ensures (put_then c.put_initialised-b.ensures (put_then c.put_awaited-c.ensures (put_then c.put_awaited-d.ensures (put_then c.put_event-e.ensures (put_then c.put_next-f.ensures (put_then c.put_event-g.ensures (put_then c.put_next.ensures (put-none _ _)))))))))
