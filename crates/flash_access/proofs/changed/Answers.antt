-- `flash_access::changed` meets its contract.
use Rattle.device.specs.FlashFrame.{flash_model}
use Rattle.flash_access.proofs.changed.Goals as goal

pub returns : goal.returns
unfolding flash_model
returns c = (simp (← c.joined.ensures, ← c.flash_bit.ensures), simp (← c.joined.ensures, ← c.flash_bit.ensures))
