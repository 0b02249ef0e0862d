-- `checker::close::first_end` meets its contract.
-- Assumes nothing.
use Rattle.item_checks.specs.Close.{first_end}
use Rattle.checker.proofs.close.first_end.Goals as goal

pub returns : goal.returns
unfolding first_end
returns c = rw (← c.first_bytes.ensures, ← c.bytes_from.ensures, ← c.place_of-place.ensures, ← c.no_later.ensures)
