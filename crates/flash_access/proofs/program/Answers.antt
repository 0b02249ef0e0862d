-- `flash_access::program` meets its contract.
use Rattle.device.specs.Parts.{program_left}
use Rattle.device.specs.FlashFrame.{flash_address, flash_data}
use Rattle.flash.proofs.Refusal.{address-accepted}
use Rattle.flash_access.specs.Work.{program_done}
use mathlib.Core.Path.{refl, sym, ◌∙◌}
use native.Mathlib.Omega.{arith}
use Rattle.flash_access.proofs.program.Goals as goal

pub returns-then-address_refused : goal.returns-then-address_refused
unfolding program_done program_left flash_address flash_data
returns-then-address_refused c = simp (← c.word_at-a.ensures.0, ← c.address_refused.ensures, c.if-address_refused.true) (refl, refl)

pub not_erased-requires : goal.not_erased-requires
not_erased-requires c =
    let ok = (address-accepted _ _).0 (sym c.address_refused.ensures ∙ c.if-address_refused.false) in omega arith

pub returns-then-not_erased : goal.returns-then-not_erased
unfolding program_done program_left flash_address flash_data
returns-then-not_erased c =
    simp (
      ← c.word_at-a.ensures.0,
      ← c.address_refused.ensures,
      c.if-address_refused.false,
      ← c.not_erased.ensures,
      c.if-not_erased.true,
    )
    (refl, refl)

pub write_word-requires : goal.write_word-requires
write_word-requires c =
    let ok = (address-accepted _ _).0 (sym c.address_refused.ensures ∙ c.if-address_refused.false) in
    let w = c.word_at-w.ensures.1 in
    omega arith

pub returns : goal.returns
unfolding program_done program_left flash_address flash_data
returns c =
    simp (
      ← c.word_at-a.ensures.0,
      ← c.address_refused.ensures,
      c.if-address_refused.false,
      ← c.not_erased.ensures,
      c.if-not_erased.false,
      ← c.word_at-w.ensures.0,
    )
    (refl, c.write_word.ensures)
