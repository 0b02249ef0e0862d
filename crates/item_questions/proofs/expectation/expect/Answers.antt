-- `item_questions::expectation::expect` meets its contract.
-- Assumes nothing.
use Rattle.item_state.specs.Log.{added}
use Rattle.item_questions.proofs.expectation.expect.Goals as goal

pub put_expectation-used-requires : goal.put_expectation-used-requires
put_expectation-used-requires c = c.differing-n.ensures

pub returns : goal.returns
unfolding added
returns c = record { counted = rw (← c.put_expectation-used.ensures.next, ← c.differing-n.ensures, c.more-2.ensures, c.more.ensures); said = c.put_expectation-used.ensures.bytes }
