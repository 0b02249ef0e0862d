-- `status::joined` meets its contract.
use Rattle.device.specs.Status.{joined}
use Rattle.status.proofs.joined.Goals as goal

pub returns : goal.returns
unfolding joined
returns c = cc
