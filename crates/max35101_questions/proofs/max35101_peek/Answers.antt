-- `max35101_questions::max35101_peek` meets its contract.
use borrow.Author.Rules.{rules}
use Rattle.max35101_questions.proofs.Handed.{gives-by}
use Rattle.max35101_questions.proofs.max35101_peek.Goals as goal

pub returns : goal.returns
returns c =
    gives-by (rw c.load.ensures at c.peek.ensures.same) c.told.ensures
