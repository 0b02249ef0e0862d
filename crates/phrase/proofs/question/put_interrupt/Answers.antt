-- `phrase::question::put_interrupt` meets its contract.
-- Assumes nothing.
use Rattle.std.proofs.Common.{rules, eq-eqb, ne_eqb}
use Rattle.numeral.specs.Ascii.{ascii}
use Rattle.wording.proofs.Each.{put_one}
use Rattle.phrase.proofs.question.put_interrupt.Goals as goal

pub returns-then-told-eq0 : goal.returns-then-told-eq0
unfolding ascii
returns-then-told-eq0 c = rw (eq-eqb _ _ c.if-told-eq0.true) (put_one c.put_text.ensures)

pub returns-else-told-eq0 : goal.returns-else-told-eq0
unfolding ascii
returns-else-told-eq0 c = rw (ne_eqb _ _ c.if-told-eq0.false) (put_one c.put_text-else-told-eq0.ensures)
