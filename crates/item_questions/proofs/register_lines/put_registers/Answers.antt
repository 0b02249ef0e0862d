-- `item_questions::register_lines::put_registers` meets its contract: a line more in each turn.
-- Assumes nothing.
use Rattle.std.proofs.Common.{refl}
use Rattle.item_questions.specs.Answers.{registers}
use Rattle.item_questions.proofs.Steps.{rows_on, rows_end}
use Rattle.item_questions.proofs.register_lines.put_registers.Goals as goal

pub loop-i-init : goal.loop-i-init
unfolding registers
loop-i-init c = refl

pub loop-i-preserved : goal.loop-i-preserved
loop-i-preserved c = rows_on c.args.m c.loop-i.i c.loop-i-test.true c.put_row-place.ensures c.loop-i.invariant

pub returns : goal.returns
returns c = rows_end c.args.m c.loop-i.i c.loop-i-test.false c.loop-i.invariant
