-- `item_page_form::pair::pair_of` meets its contract.
-- Assumes nothing.
use mathlib.Core.Path.{refl}
use Rattle.item_page_form.specs.OwnForm.{pair_of}
use Rattle.item_page_form.proofs.pair.pair_of.Goals as goal

pub returns : goal.returns
unfolding pair_of
returns c = refl
