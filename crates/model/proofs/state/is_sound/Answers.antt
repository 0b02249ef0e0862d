-- `model::state::is_sound` meets its contract.
use borrow.Author.Rules.{rules}
use Rattle.unit.proofs.Tests.{tests}
use Rattle.device.specs.Model.{is_sound}
use Rattle.model.proofs.state.is_sound.Goals as goal

pub returns-then-flight_sound : goal.returns-then-flight_sound
unfolding is_sound
returns-then-flight_sound c = search (rules, tests)

pub returns-else-flight_sound : goal.returns-else-flight_sound
unfolding is_sound
returns-else-flight_sound c = search (rules, tests)
