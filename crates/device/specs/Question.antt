-- The answers of questions, which change nothing.
use Rattle.std.specs.Prelude.{ℕ, ltb, eqb, Result, Ok, Err}
use Rattle.device.specs.Base.{pick, interrupt_enabled, Schedule, Model}
use Rattle.device.specs.Event.{is_awaited}
use Rattle.device.specs.Status.{status_word}
use Rattle.device.specs.Model.{is_sound}
use Rattle.device.specs.Registers.{register_word}
use Rattle.refusal.specs.declared.Refusal.{Refusal}

-- "The INT answer is yes exactly when INT_EN .. is 1 and the status is not 0": 1 for yes, 0 for no.
unfoldable pub interrupt_pending : Model → Result ℕ Refusal
interrupt_pending m =
    pick (is_sound m)
    (pick (interrupt_enabled m.setup) (pick (eqb (status_word m.status) 0) (Ok 0) (Ok 1)) (Ok 0))
    (Err Refusal.NotSound)

-- "Awaited is then 1, exactly when number 10 would not be given for it, else 0."
unfoldable pub awaited_told : Model → Schedule → Result ℕ Refusal
awaited_told m k = pick (is_sound m) (pick (is_awaited k) (Ok 1) (Ok 0)) (Err Refusal.NotSound)

-- Whether the regulator of the user flash is on: 1, else 0. A question of ours; no register tells it once the status is read.
unfoldable pub regulator_on : Model → Result ℕ Refusal
regulator_on m = pick (is_sound m) (pick m.regulator (Ok 1) (Ok 0)) (Err Refusal.NotSound)

-- The word that a read of one register would give: a call of ours, which clears nothing. An address that no read has is
-- number 4.
unfoldable pub peek : Model → ℕ → Result ℕ Refusal
peek m a =
    pick (is_sound m) (pick (ltb a 0xB0) (Err Refusal.Address) (pick (ltb 0xFF a) (Err Refusal.Address) (Ok (register_word m a)))) (Err Refusal.NotSound)
