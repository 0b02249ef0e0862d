-- `session::ends::outcome_of` meets its contract.
-- Assumes nothing.
use Rattle.session.specs.Ends.{outcome_of}
use borrow.Author.Rules.{rules}
use Rattle.session.proofs.ends.outcome_of.Goals as goal

pub returns : goal.returns
unfolding outcome_of
returns c = search rules
