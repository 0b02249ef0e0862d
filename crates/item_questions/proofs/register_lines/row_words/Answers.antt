-- `item_questions::register_lines::row_words` meets its contract: a word more in each turn.
-- Assumes nothing.
use Rattle.std.proofs.Common.{length-set, refl}
use Rattle.item_questions.proofs.Steps.{row_on, row-end}
use Rattle.item_questions.proofs.register_lines.row_words.Goals as goal

pub loop-i-preserved : goal.loop-i-preserved
loop-i-preserved c = (simp length-set c.loop-i.invariant.0, row_on c.args.m c.loop-i.address c.loop-i.i c.loop-i.words c.loop-i.invariant.0 c.loop-i-test.true c.word.ensures refl c.loop-i.invariant.1)

pub returns : goal.returns
returns c = row-end c.args.m c.loop-i.address c.loop-i.i c.loop-i.words c.loop-i.invariant.0 c.loop-i-test.false c.loop-i.invariant.1
