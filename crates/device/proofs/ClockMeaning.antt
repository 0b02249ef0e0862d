-- The clock and AF over ticks, in register words: EOSC.
use Prim.Native.Nat.{ℕ, zero, suc, ◌+◌, ◌*◌, ◌%◌}
use native.Mathlib.Omega.{arith}
use mathlib.Core.Bool.{true}
use mathlib.Core.List.{[], ◌∷◌, map}
use mathlib.Core.Path.{◌≡◌, refl, ◌∙◌}
use borrow.Author.Tests.{ne_eqb}
use Rattle.calendar.specs.Calendar.{clock_valid}
use Rattle.calendar.specs.Moment.{moment}
use Rattle.calendar.proofs.Laws.{after-moment}
use Rattle.calendar.proofs.AlarmModes.{same-time}
use Rattle.setup.specs.Setup.{clock_stands}
use Rattle.device.specs.declared.Model.{Model}
use Rattle.device.specs.Registers.{calendar_word, register_word}
use Rattle.device.specs.Tick.{clock_ticked, tick_rings, tick_model}
use Rattle.device.specs.Stretch.{model_ticked}
use Rattle.device.specs.Plain.{eosc_of}
use Rattle.device.proofs.StatusMeaning.{kept, alarm-set}
use Rattle.device.proofs.Stretch.{setup-ticked, clock-ticked}

-- AF stays set until the status is read.
pub alarm-stays : (m : Model) → m.status.alarm ≡ true → (tick_model m).status.alarm ≡ true
alarm-stays m e = alarm-set m ∙ rw e

-- "The clock stands while EOSC (bit 4 of 43h) is 1": over any number of ticks the clock stays, AF too, and B0h to B3h read the same
module _ (m : Model) (e : eosc_of m ≡ 1) where
  pub clock-stands : (n : ℕ) → (model_ticked n m).clock ≡ m.clock
  unfolding model_ticked tick_model clock_ticked clock_stands
  clock-stands zero = refl
  clock-stands (suc n) = rw (setup-ticked n m, e) (clock-stands n)

  pub reads-stand :
      (n : ℕ) →
      map (register_word (model_ticked n m)) (0xB0 ∷ 0xB1 ∷ 0xB2 ∷ 0xB3 ∷ [])
      ≡ map (register_word m) (0xB0 ∷ 0xB1 ∷ 0xB2 ∷ 0xB3 ∷ [])
  unfolding register_word calendar_word
  reads-stand n = rw (clock-stands n)

  tick-stands : (n : ℕ) → (tick_model (model_ticked n m)).clock ≡ (model_ticked n m).clock
  unfolding tick_model clock_ticked clock_stands
  tick-stands n = rw (setup-ticked n m, e)

  pub alarm-stands : (n : ℕ) → (model_ticked n m).status.alarm ≡ m.status.alarm
  unfolding model_ticked tick_rings
  alarm-stands zero = refl
  alarm-stands (suc n) =
      alarm-set (model_ticked n m)
      ∙ rw (tick-stands n, same-time (model_ticked n m).clock (model_ticked n m).clock _ _ refl refl)
      (kept (model_ticked n m).status.alarm ∙ alarm-stands n)

-- and while it is 0 each tick moves the moment by one, "compared modulo 36,525 days"
pub clock-moves :
    (m : Model) →
    clock_valid m.clock ≡ true →
    eosc_of m ≡ 0 →
    (n : ℕ) →
    moment (model_ticked n m).clock ≡ (moment m.clock + n) % (36525 * 86400 * 32768)
unfolding clock_stands
clock-moves m v e n =
    rw (clock-ticked n m (rw (ne_eqb (eosc_of m) 1 (omega arith)))) (after-moment n m.clock v)
