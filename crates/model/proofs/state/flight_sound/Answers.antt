-- `model::state::flight_sound` meets its contract.
use borrow.Author.Rules.{rules}
use Rattle.unit.proofs.Tests.{tests}
use Rattle.device.specs.Model.{flight_sound}
use Rattle.model.proofs.state.flight_sound.Goals as goal

pub returns-then-schedule_sound : goal.returns-then-schedule_sound
unfolding flight_sound
returns-then-schedule_sound c = search (rules, tests)

pub returns-else-schedule_sound : goal.returns-else-schedule_sound
unfolding flight_sound
returns-else-schedule_sound c = search (rules, tests)
