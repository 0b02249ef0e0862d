-- `results::failed_flight` meets its contract.
use Rattle.device.specs.Results.{failed_flight}
use Rattle.results.proofs.failed_flight.Goals as goal

pub returns : goal.returns
unfolding failed_flight
returns c = cc
