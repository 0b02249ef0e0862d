-- `item_analysis::questions::quietest` meets its contract.
-- Assumes nothing.
use Rattle.item_analysis.specs.Lines.{quietest_line}
use Rattle.item_analysis.proofs.questions.quietest.Goals as goal

pub returns : goal.returns
unfolding quietest_line
returns c = rw (← c.first_of-values.ensures, ← c.quietest_place-place.ensures.same) c.tell_quietest.ensures
