-- `item_words_code::register_lines::put_further_lines` meets its contract: a line more in each turn.
-- Assumes nothing.
use Rattle.text.proofs.Putting.{puts-last}
use Rattle.item_words_code.proofs.Turns.{leads-on, leads-end, lines-on, lines_end}
use Rattle.item_words_code.proofs.register_lines.put_further_lines.Goals as goal

pub loop-i-init : goal.loop-i-init
loop-i-init c = λ r l' p. p

pub loop-i-preserved : goal.loop-i-preserved
loop-i-preserved c = leads-on (lines-on c.args.m 184 9 c.loop-i.i c.loop-i-test.true) (puts-last c.put_register_line-end.ensures c.put_text-place.ensures) c.loop-i.invariant

pub returns : goal.returns
returns c = leads-end (lines_end c.args.m 184 9 c.loop-i.i c.loop-i-test.false) c.loop-i.invariant
