-- `item_questions::expectation::put_expectation` meets its contract.
-- Assumes nothing.
use Rattle.item_questions.specs.Answers.{expectation}
use Rattle.wording.proofs.Each.{put_then}
use Rattle.item_questions.proofs.expectation.put_expectation.Goals as goal

pub returns : goal.returns
unfolding expectation
returns c = rw (← c.requires) (put_then c.put_head-start.ensures (put_then c.put_differing-end.ensures c.put_end.ensures))
