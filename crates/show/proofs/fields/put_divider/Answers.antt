-- `show::fields::put_divider` meets its contract.
-- Assumes nothing.
use borrow.Author.Rules.{rules}
use borrow.Author.Tests.{eq-eqb, ne_eqb}
use Rattle.wording.proofs.Each.{put_one, put_first}
use Rattle.numeral.specs.Ascii.{ascii}
use Rattle.page.specs.Setup.{divider}
use Rattle.show.proofs.fields.put_divider.Goals as goal

pub returns-then-dpl-eq0 : goal.returns-then-dpl-eq0
unfolding ascii divider
returns-then-dpl-eq0 c = rw (eq-eqb _ _ c.if-dpl-eq0.true) (put_one c.put_text.ensures)

pub returns : goal.returns
unfolding ascii divider
returns c = rw (ne_eqb _ _ c.if-dpl-eq0.false) (put_first c.put_text-a.ensures (put_one c.put_decimal.ensures))
