-- `phrase::expectation::put_pair` meets its contract.
-- Assumes nothing.
use Rattle.std.proofs.Common.{rules, eq-eqb, ne_eqb}
use Rattle.numeral.specs.Ascii.{ascii}
use Rattle.wording.specs.Wording.{pair}
use Rattle.wording.proofs.Each.{put-none, put_one, put_first}
use Rattle.phrase.proofs.expectation.put_pair.Goals as goal

pub returns-then-has-wanted : goal.returns-then-has-wanted
unfolding ascii pair
returns-then-has-wanted c = rw (eq-eqb _ _ c.if-has-wanted.true) (put-none _ _)

pub returns : goal.returns
unfolding ascii pair
returns c = rw (ne_eqb _ _ c.if-has-wanted.false) (put_first c.put_text-a.ensures (put_first c.put_hex-b.ensures (put_first c.put_text-c.ensures (put_first c.put_hex-d.ensures (put_first c.put_text-e.ensures (put_one c.put_hex.ensures))))))
