-- `form::pair::put_port` meets its contract.
-- Assumes nothing.
use Rattle.form.specs.Form.{port_texts}
use Rattle.numeral.specs.Ascii.{ascii}
use Rattle.wording.proofs.Each.{put_one, put_then}
use borrow.Author.Tests.{eq-eqb, ne_eqb}
use Rattle.form.proofs.pair.put_port.Goals as goal

pub returns-then-q-eq0 : goal.returns-then-q-eq0
unfolding ascii port_texts
returns-then-q-eq0 c = rw (eq-eqb _ _ c.if-q-eq0.true) (put_then c.put_pair-a.ensures (put_one c.put_text.ensures))

pub returns : goal.returns
unfolding port_texts
returns c = rw (ne_eqb _ _ c.if-q-eq0.false) (put_then c.put_pair-a.ensures c.put_result_time.ensures)
