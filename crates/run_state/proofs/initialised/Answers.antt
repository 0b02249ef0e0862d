-- `run_state::initialised` meets its contract.
use borrow.Author.Rules.{rules}
use Rattle.unit.proofs.Tests.{tests}
use Rattle.unit.proofs.Says.{says}
use Rattle.run_state.specs.State.{initialised_told}
use Rattle.run_state.proofs.initialised.Goals as goal

pub returns-then-is_sound : goal.returns-then-is_sound
unfolding initialised_told
returns-then-is_sound c = says (search (rules, tests))

pub returns-else-is_sound : goal.returns-else-is_sound
unfolding initialised_told
returns-else-is_sound c = says (search (rules, tests))
