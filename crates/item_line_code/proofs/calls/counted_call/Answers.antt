-- `item_line_code::calls::counted_call` meets its contract. Assumes nothing.
use Rattle.item_line.specs.OwnRead.{as_call}
use Rattle.item_line_code.specs.OwnReads.{counted_call}
use Rattle.item_line_code.proofs.calls.counted_call.Goals as goal

pub returns-in-Tick : goal.returns-in-Tick
unfolding as_call counted_call
returns-in-Tick c = λ l. rw c.in-Tick.is

pub returns-in-At : goal.returns-in-At
unfolding as_call counted_call
returns-in-At c = λ l. rw c.in-At.is

pub returns-in-Stretch : goal.returns-in-Stretch
unfolding as_call counted_call
returns-in-Stretch c = λ l. rw c.in-Stretch.is

pub returns-in-Quietest : goal.returns-in-Quietest
unfolding as_call counted_call
returns-in-Quietest c = λ l. rw c.in-Quietest.is
