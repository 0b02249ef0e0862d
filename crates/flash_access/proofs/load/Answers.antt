-- `flash_access::load` meets its contract.
use Rattle.device.specs.Parts.{load_out}
use Rattle.device.specs.FlashFrame.{flash_address}
use Rattle.flash.proofs.Refusal.{address-accepted}
use Rattle.flash_access.specs.Work.{load_done}
use mathlib.Core.Path.{refl, sym, ◌∙◌}
use native.Mathlib.Omega.{arith}
use Rattle.flash_access.proofs.load.Goals as goal

pub returns-then-address_refused : goal.returns-then-address_refused
unfolding load_done load_out flash_address
returns-then-address_refused c = simp (← c.word_at-a.ensures.0, ← c.address_refused.ensures, c.if-address_refused.true) (refl, refl)

pub read_word-w-requires : goal.read_word-w-requires
read_word-w-requires c =
    let ok = (address-accepted _ _).0 (sym c.address_refused.ensures ∙ c.if-address_refused.false) in omega arith

pub returns : goal.returns
unfolding load_done load_out flash_address
returns c =
    simp (
      ← c.word_at-a.ensures.0,
      ← c.address_refused.ensures,
      c.if-address_refused.false,
      ← c.read_word-w.ensures.0,
    )
    (refl, c.put_word.ensures)
