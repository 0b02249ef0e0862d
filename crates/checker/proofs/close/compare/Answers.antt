-- `checker::close::compare` meets its contract.
-- Assumes nothing.
use mathlib.Core.Path.{refl}
use Rattle.item_state.specs.Log.{added}
use Rattle.item_checks.specs.Close.{compared}
use Rattle.checker.proofs.close.compare.Goals as goal

pub returns-then-agrees : goal.returns-then-agrees
unfolding compared added
returns-then-agrees c = rw (← c.first_bytes.ensures, ← c.bytes_from.ensures, ← c.begins-agrees.ensures, c.if-agrees.true, ← c.more.ensures) (refl, refl)

pub returns : goal.returns
unfolding compared added
returns c = rw (← c.first_bytes.ensures, ← c.bytes_from.ensures, ← c.begins-agrees.ensures, c.if-agrees.false, ← c.more.ensures, ← c.more-2.ensures) (refl, c.insert.ensures)
