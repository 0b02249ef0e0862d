-- `form::pair::pair_of` meets its contract.
-- Assumes nothing.
use mathlib.Core.Path.{refl}
use Rattle.form.specs.Form.{pair_of}
use Rattle.form.proofs.pair.pair_of.Goals as goal

pub returns : goal.returns
unfolding pair_of
returns c = refl
