-- `run_state::place_told` meets its contract.
use borrow.Author.Rules.{rules}
use Rattle.unit.proofs.Tests.{tests}
use Rattle.unit.proofs.Says.{says}
use Rattle.run_state.specs.Event.{place_told}
use Rattle.run_state.proofs.place_told.Goals as goal

pub returns-then-not-is_sound : goal.returns-then-not-is_sound
unfolding place_told
returns-then-not-is_sound c = says (search (rules, tests))

pub returns-then-in_event : goal.returns-then-in_event
unfolding place_told
returns-then-in_event c = says (search (rules, tests))

pub returns-else-in_event : goal.returns-else-in_event
unfolding place_told
returns-else-in_event c = says (search (rules, tests))
