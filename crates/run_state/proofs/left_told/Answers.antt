-- `run_state::left_told` meets its contract.
use borrow.Author.Rules.{rules}
use Rattle.unit.proofs.Tests.{tests}
use Rattle.unit.proofs.Says.{says}
use Rattle.run_state.specs.State.{left_told}
use Rattle.run_state.proofs.left_told.Goals as goal

pub returns-then-is_sound : goal.returns-then-is_sound
unfolding left_told
returns-then-is_sound c = says (search (rules, tests))

pub returns-else-is_sound : goal.returns-else-is_sound
unfolding left_told
returns-else-is_sound c = says (search (rules, tests))
