-- `max35101_analysis::max35101_quietest_place` meets its contract.
use borrow.Author.Rules.{rules}
use Rattle.max35101_analysis.proofs.max35101_quietest_place.Goals as goal

pub returns : goal.returns
returns c = rw (← c.quietest_place.ensures.same) c.told.ensures
