-- `max35101_questions::put_event` meets its contract.
use Rattle.run_state.specs.Event.{event_values}
use Rattle.max35101_questions.proofs.put_event.Goals as goal

pub returns-in-Some : goal.returns-in-Some
returns-in-Some c = rw c.in-Some.is c.put_place.ensures

pub returns-in-None : goal.returns-in-None
unfolding event_values
returns-in-None c = rw c.in-None.is c.put.ensures
