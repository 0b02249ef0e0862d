-- `run_state::place_of` meets its contract.
use borrow.Author.Rules.{rules}
use Rattle.unit.proofs.Tests.{tests}
use Rattle.run_state.specs.Event.{place_of}
use Rattle.run_state.proofs.place_of.Goals as goal

pub returns : goal.returns
unfolding place_of
returns c = search (rules, tests)
