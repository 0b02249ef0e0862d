-- `show::run::put_wait` meets its contract.
-- Assumes nothing.
use borrow.Author.Rules.{rules}
use borrow.Author.Tests.{eq-eqb, ne_eqb}
use Rattle.wording.proofs.Each.{put_one, put_first}
use Rattle.numeral.specs.Ascii.{ascii}
use Rattle.page.specs.Run.{wait_texts}
use Rattle.show.proofs.run.put_wait.Goals as goal

pub returns-then-n-eq0 : goal.returns-then-n-eq0
unfolding ascii wait_texts
returns-then-n-eq0 c = rw (eq-eqb _ _ c.if-n-eq0.true) (put_one c.put_text.ensures)

pub returns : goal.returns
unfolding ascii wait_texts
returns c = rw (ne_eqb _ _ c.if-n-eq0.false) (put_first c.put_text-a.ensures c.put_plural.ensures)
