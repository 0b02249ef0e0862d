-- `snapshot::fields::model_of` meets its contract.
use Rattle.layout.specs.Layout.{model_of}
use Rattle.snapshot.proofs.fields.model_of.Goals as goal

pub returns : goal.returns
unfolding model_of
returns c =
    rw (c.temperature_of-temperature.ensures, c.flight_of-flight.ensures, c.status_of-status.ensures, c.clock_of-clock.ensures)
