-- The code's own: whether a frame of the user flash is done, and what it leaves, without the model. Nothing here is to be believed: the
-- contract of `flash_reply` has the definitions of `device`.
use Rattle.std.specs.Prelude.{ℕ, List, eqb, length, Result, Ok, Err}
use Rattle.refusal.specs.declared.Refusal.{Refusal}
use Rattle.unit.specs.Choice.{pick}
use Rattle.device.specs.declared.Model.{Model}
use Rattle.flash.specs.Flash.{address_refused, erase_refused, not_erased}
use Rattle.device.specs.FlashFrame.{flash_address, flash_model}
use Rattle.device.specs.Parts.{erase_left, program_left, load_out}

abbrev pub Done : Type 0
Done = Result (Unit {0}) Refusal

-- that a frame is done, or what refuses it
unfoldable pub erase_done : List ℕ → List ℕ → Done
erase_done b x = pick (erase_refused (length x) (flash_address b)) (Err Refusal.FlashAddress) (Ok tt)

unfoldable pub program_done : List ℕ → List ℕ → Done
program_done b x =
    pick (address_refused (length x) (flash_address b)) (Err Refusal.FlashAddress) (pick (not_erased x (flash_address b)) (Err Refusal.NotErased) (Ok tt))

unfoldable pub load_done : List ℕ → List ℕ → Done
load_done b x = pick (address_refused (length x) (flash_address b)) (Err Refusal.FlashAddress) (Ok tt)

unfoldable pub flash_done : ℕ → List ℕ → List ℕ → Done
flash_done op b x = pick (eqb op 0x13) (erase_done b x) (pick (eqb op 0x10) (program_done b x) (load_done b x))

-- what it leaves of the model, in the output and in the memory
unfoldable pub work_model : Model → ℕ → Model
work_model m op = pick (eqb op 0x13) (flash_model m 0x13) (pick (eqb op 0x10) (flash_model m 0x10) m)

unfoldable pub work_out : ℕ → List ℕ → List ℕ → List ℕ → List ℕ
work_out op b o x = pick (eqb op 0x13) o (pick (eqb op 0x10) o (load_out b o x))

unfoldable pub work_left : ℕ → List ℕ → List ℕ → List ℕ
work_left op b x = pick (eqb op 0x13) (erase_left b x) (pick (eqb op 0x10) (program_left b x) x)
