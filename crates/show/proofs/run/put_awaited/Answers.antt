-- `show::run::put_awaited` meets its contract.
-- Assumes nothing.
use borrow.Author.Rules.{rules}
use borrow.Author.Tests.{eq-eqb, ne_eqb}
use Rattle.wording.proofs.Each.{put_one, put_first, put_then}
use Rattle.numeral.specs.Ascii.{ascii}
use Rattle.page.specs.Run.{awaited_row}
use Rattle.show.proofs.run.put_awaited.Goals as goal

pub returns-then-left-eq0 : goal.returns-then-left-eq0
unfolding ascii awaited_row
returns-then-left-eq0 c = rw (eq-eqb _ _ c.if-left-eq0.true) (put_first c.put_text-a.ensures c.put_line.ensures)

pub returns : goal.returns
unfolding ascii awaited_row
returns c = rw (ne_eqb _ _ c.if-left-eq0.false) (put_first c.put_text-a.ensures (put_first c.put_text-b.ensures (put_then c.put_plural-c.ensures (put_one c.put_text.ensures))))
