-- `command::started_event` meets its contract.
use Rattle.device.specs.Bus.{started_event}
use borrow.Author.Rules.{rules}
use Rattle.command.proofs.started_event.Goals as goal

pub returns : goal.returns
unfolding started_event
returns c = simp (← c.event_temperature-temperature.ensures, ← c.event_flight-flight.ensures)
