-- `item_replay_code::rest::put_ending` meets its contract.
-- Assumes nothing.
use borrow.Author.Tests.{eq-eqb, ne_eqb}
use Rattle.text.proofs.Putting.{puts_none}
use Rattle.item_replay_code.specs.OwnRest.{ending_of}
use Rattle.item_replay_code.proofs.rest.put_ending.Goals as goal

pub returns-then-left-eq0 : goal.returns-then-left-eq0
unfolding ending_of
returns-then-left-eq0 c = rw (eq-eqb _ _ c.if-left-eq0.true) c.put_line_ending.ensures

pub returns : goal.returns
unfolding ending_of
returns c = rw (ne_eqb _ _ c.if-left-eq0.false) (puts_none _ _)
