-- `item_page_code::run::put_run` meets its contract. Assumes nothing.
use mathlib.Core.Path.{◌∙◌}
use Rattle.unit.specs.Choice.{pick}
use Rattle.numeral.specs.Ascii.{ascii}
use Rattle.text.proofs.Putting.{puts, puts_then, puts_first}
use Rattle.item_page.specs.Page.{awaited_text, event_text, next_text, run_rows}
use Rattle.item_page_code.proofs.Rows.{part, ◌and◌, no_rows, row, put-rows}
use borrow.Author.Rules.{rules}
use Rattle.item_page_code.proofs.run.put_run.Goals as goal

pub shape_of-buf : goal.shape_of-buf
shape_of-buf c = c.put_text.auto.buf ∙ c.put_next-s.auto.buf ∙ c.put_text-o.auto.buf ∙ c.put_event-n.auto.buf ∙ c.put_text-l.auto.buf ∙ c.put_next-k.auto.buf ∙ c.put_text-j.auto.buf ∙ c.put_event-i.auto.buf ∙ c.put_text-h.auto.buf ∙ c.put_awaited-g.auto.buf ∙ c.put_text-e.auto.buf ∙ c.put_awaited-d.auto.buf ∙ c.put_text-c.auto.buf ∙ c.put_either-b.auto.buf ∙ c.put_text-a.auto.buf

pub returns : goal.returns
unfolding ascii run_rows
returns c = let m = c.args.m in let p = m.flight.schedule in let q = m.temperature.schedule in put-rows (run_rows m) (puts_first c.put_text-a.ensures (puts_then c.put_either-b.ensures (puts_first c.put_text-c.ensures (puts_then c.put_awaited-d.ensures (puts_first c.put_text-e.ensures (puts_then c.put_awaited-g.ensures (puts_first c.put_text-h.ensures (puts_then c.put_event-i.ensures (puts_first c.put_text-j.ensures (puts_then c.put_next-k.ensures (puts_first c.put_text-l.ensures (puts_then c.put_event-n.ensures (puts_first c.put_text-o.ensures (puts_then c.put_next-s.ensures (puts c.put_text.ensures))))))))))))))) (row (part (ascii "STATE OF THE RUN")) (row (part (ascii "       Initialised                         ") and part (pick m.initialised (ascii "yes") (ascii "no"))) (row (part (ascii "       Flight measurement                  ") and part (awaited_text p)) (row (part (ascii "       Temperature measurement             ") and part (awaited_text q)) (row (part (ascii "       Event of differences                ") and part (event_text p)) (row (part (ascii "       Next difference                     ") and part (next_text p)) (row (part (ascii "       Event of temperatures               ") and part (event_text q)) (row (part (ascii "       Next temperature                    ") and part (next_text q)) no_rows))))))))
