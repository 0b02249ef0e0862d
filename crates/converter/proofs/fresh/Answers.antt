-- `converter::fresh` meets its contract.
use Rattle.device.specs.Model.{fresh_model}
use Rattle.converter.proofs.fresh.Goals as goal

pub returns : goal.returns
unfolding fresh_model
returns c = simp (← c.fresh_with.ensures, ← c.por_bit.ensures)
