-- `show::put_registers` meets its contract.
-- Assumes nothing.
use Rattle.show.proofs.Rows.{register-rows}
use Rattle.wording.proofs.Each.{put_then}
use mathlib.Core.Path.{◌∙◌}
use borrow.Author.Rules.{rules}
use Rattle.show.proofs.put_registers.Goals as goal

pub shape_of-buf : goal.shape_of-buf
shape_of-buf c = c.put_last.auto.buf ∙ c.put_ports-g.auto.buf ∙ c.put_differences-f.auto.buf ∙ c.put_downs-e.auto.buf ∙ c.put_ups-d.auto.buf ∙ c.put_more_setup-c.auto.buf ∙ c.put_setup-b.auto.buf ∙ c.put_clock-a.auto.buf

pub returns : goal.returns
returns c = λ m e on. register-rows m (put_then (c.put_clock-a.ensures m e) (put_then (c.put_setup-b.ensures m e) (put_then (c.put_more_setup-c.ensures m e) (put_then (c.put_ups-d.ensures m e) (put_then (c.put_downs-e.ensures m e) (put_then (c.put_differences-f.ensures m e) (put_then (c.put_ports-g.ensures m e) (c.put_last.ensures m e on))))))))
