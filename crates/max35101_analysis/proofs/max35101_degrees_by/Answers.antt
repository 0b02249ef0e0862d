-- `max35101_analysis::max35101_degrees_by` meets its contract.
use borrow.Author.Rules.{rules}
use Rattle.max35101_analysis.proofs.max35101_degrees_by.Goals as goal

pub returns : goal.returns
returns c = rw (← c.degrees_by.ensures.same) c.told.ensures
