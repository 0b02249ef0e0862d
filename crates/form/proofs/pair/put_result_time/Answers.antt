-- `form::pair::put_result_time` meets its contract.
-- Assumes nothing.
use Rattle.form.specs.Form.{result_texts}
use Rattle.numeral.specs.Ascii.{ascii}
use Rattle.wording.proofs.Each.{put_one}
use borrow.Author.Tests.{eq-eqb, ne_eqb}
use Rattle.form.proofs.pair.put_result_time.Goals as goal

pub returns-then-q-eq4294967295 : goal.returns-then-q-eq4294967295
unfolding ascii result_texts
returns-then-q-eq4294967295 c = rw (eq-eqb _ _ c.if-q-eq4294967295.true) (put_one c.put_text.ensures)

pub returns : goal.returns
unfolding result_texts
returns c = rw (ne_eqb _ _ c.if-q-eq4294967295.false) c.put_time.ensures
