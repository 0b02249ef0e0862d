-- `item_questions::expectation::differing` meets its contract: what was counted, and what is still to count, are all that differ.
-- Assumes nothing.
use Rattle.std.proofs.Common.{◌≡◌, Bool, true, false, cond, not, refl, ◌∙◌, arith}
use Rattle.std.specs.Int.{from_bool}
use Rattle.item_questions.proofs.Steps.{count-on, count-end}
use Rattle.item_questions.proofs.expectation.differing.Goals as goal

one_where_not : (t : Bool) → from_bool (not t) ≡ cond t 0 1
one_where_not true = refl
one_where_not false = refl

pub loop-wanted-preserved : goal.loop-wanted-preserved
loop-wanted-preserved c = count-on c.args.m c.loop-wanted.address c.args.words.now c.loop-wanted.wanted-index c.loop-wanted-test.true c.loop-wanted.n _ c.loop-wanted.invariant.0 (omega arith) c.word.ensures (c.from.ensures ∙ one_where_not _) c.more-n.ensures refl c.loop-wanted.invariant.1

pub returns : goal.returns
returns c = count-end c.args.m c.loop-wanted.address c.args.words.now c.loop-wanted.wanted-index c.loop-wanted-test.false c.loop-wanted.invariant.1
