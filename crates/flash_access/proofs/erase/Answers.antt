-- `flash_access::erase` meets its contract.
use Rattle.device.specs.Parts.{erase_left}
use Rattle.device.specs.FlashFrame.{flash_address}
use Rattle.flash.proofs.Refusal.{erase-accepted}
use Rattle.flash_access.specs.Work.{erase_done}
use mathlib.Core.Path.{refl, sym, ◌∙◌}
use native.Mathlib.Omega.{arith}
use Rattle.flash_access.proofs.erase.Goals as goal

pub returns-then-erase_refused : goal.returns-then-erase_refused
unfolding erase_done erase_left flash_address
returns-then-erase_refused c = simp (← c.word_at-a.ensures.0, ← c.erase_refused.ensures, c.if-erase_refused.true) (refl, refl)

pub erase_block-requires : goal.erase_block-requires
erase_block-requires c =
    let ok = (erase-accepted _ _).0 (sym c.erase_refused.ensures ∙ c.if-erase_refused.false) in omega arith

pub returns : goal.returns
unfolding erase_done erase_left flash_address
returns c =
    simp (← c.word_at-a.ensures.0, ← c.erase_refused.ensures, c.if-erase_refused.false) (refl, c.erase_block.ensures)
