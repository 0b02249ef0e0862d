-- `max35101_questions::max35101_temperature_place` meets its contract.
use borrow.Author.Rules.{rules}
use Rattle.max35101_questions.proofs.Handed.{gives-by}
use Rattle.max35101_questions.proofs.max35101_temperature_place.Goals as goal

pub returns : goal.returns
returns c =
    gives-by (rw c.load.ensures at c.temperature_place.ensures.same) c.placed.ensures
