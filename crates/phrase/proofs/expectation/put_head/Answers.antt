-- `phrase::expectation::put_head` meets its contract.
-- Assumes nothing.
use Rattle.std.proofs.Common.{rules, eq-eqb, ne_eqb}
use Rattle.numeral.specs.Ascii.{ascii}
use Rattle.wording.specs.Wording.{head}
use Rattle.wording.proofs.Each.{put_one, put_first}
use Rattle.phrase.proofs.expectation.put_head.Goals as goal

pub returns-then-n-eq0 : goal.returns-then-n-eq0
unfolding ascii head
returns-then-n-eq0 c = rw (eq-eqb _ _ c.if-n-eq0.true) (put_first c.put_text-x.ensures (put_first c.put_hex-y.ensures (put_one c.put_text.ensures)))

pub returns-else-n-eq0 : goal.returns-else-n-eq0
unfolding ascii head
returns-else-n-eq0 c = rw (ne_eqb _ _ c.if-n-eq0.false) (put_first c.put_text-x.ensures (put_first c.put_hex-y.ensures (put_one c.put_text-else-n-eq0.ensures)))
