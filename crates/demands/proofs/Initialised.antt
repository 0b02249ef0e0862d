-- A model is initialised from Initialize until Reset.
use Prim.Native.Nat.{ℕ, zero, suc, ◌+◌}
use native.Mathlib.Omega.{arith}
use mathlib.Core.Bool.{Bool, true, false}
use mathlib.Core.Path.{◌≡◌, refl, ap, ◌∙◌}
use lib.Dec.{ltb, leb, eqb}
use Rattle.unit.specs.Choice.{pick}
use Rattle.unit.proofs.Cases.{by-test, by_eqb}
use Rattle.frame.specs.Frame.{is_command, is_write, is_flash}
use Rattle.device.specs.declared.Model.{Model}
use Rattle.device.specs.Model.{is_sound, fresh_model, fresh_with, reset_model}
use Rattle.device.specs.Write.{write_model}
use Rattle.device.specs.Tick.{tick_model}
use Rattle.device.specs.Stretch.{model_ticked}
use Rattle.device.specs.Delivery.{good_flight_model, failed_flight_model, good_temperature_model, failed_temperature_model}
use Rattle.device.specs.FlashFrame.{flash_model}
use Rattle.device.specs.Bus.{supplied, unsupplied, is_event, started_event, initialised_model, halted_model, single_started, run_model, read_model}
use Rattle.device.specs.Call.{Call, transaction, tick, flight, temperature, stretch, opcode, words}
use Rattle.device.specs.Reply.{any_late, port_fault, accepted_model}
use Rattle.device.specs.History.{log}
use Rattle.demands.specs.EventHistory.{last_given}
use Rattle.demands.specs.Initialised.{initialised_by, InitialisedClaim}
use Rattle.device.proofs.Sound.{fresh-sound, keeps-sound}
use Rattle.demands.proofs.CallSteps.{all-given}

run-ready : (m : Model) (op : ℕ) → (run_model m op).initialised ≡ pick (eqb op 4) false (pick (eqb op 5) true m.initialised)
unfolding run_model reset_model fresh_with initialised_model halted_model supplied unsupplied started_event single_started
run-ready m op =
    by-test (eqb op 4) (λ e. rw e)
    (λ e. rw e
    (by-test (eqb op 5) (λ f. rw f)
    (λ f. rw f
    (by-test (eqb op 10) (λ g. rw g)
    (λ g. rw g
    (by-test (eqb op 12) (λ j. rw j)
    (λ j. rw j
    (by-test (eqb op 13) (λ k. rw k)
    (λ k. rw k
    (by-test (is_event op) (λ h. rw h) (λ h. rw h (by-test (eqb op 3) (λ i. rw i) (λ i. rw i)))))))))))))

read-ready : (m : Model) (a n : ℕ) → (read_model m a n).initialised ≡ m.initialised
unfolding read_model
read-ready m a n = by-test (ltb 0xFE a) (λ e. rw e) (λ e. rw e (by-test (leb (a + n) 0xFE) (λ f. rw f) (λ f. rw f)))

flash-ready : (m : Model) (op : ℕ) → (flash_model m op).initialised ≡ m.initialised
unfolding flash_model
flash-ready m op = by-test (eqb op 0x90) (λ e. rw e) (λ e. rw e)

ticked-ready : (n : ℕ) (m : Model) → (model_ticked n m).initialised ≡ m.initialised
unfolding model_ticked tick_model
ticked-ready zero m = refl
ticked-ready (suc n) m = ticked-ready n m

differ : ◌≡◌ {A = Bool} true false → ⊥
differ e = let z : ◌≡◌ {A = ℕ} 0 1 = cc in omega arith

-- no other sort of frame begins with 04h or 05h
others : (op : ℕ) (initialised : Bool) →
    is_command op ≡ false →
    pick (eqb op 4) false (pick (eqb op 5) true initialised) ≡ initialised
unfolding is_command
others op initialised =
    by_eqb op 4 (λ h e. rw h (λ c. absurd (differ c)))
    (λ h e. rw e (by_eqb op 5 (λ i f. rw i (λ c. absurd (differ c))) (λ i f. rw f (λ c. refl))))

-- What one accepted call does.
given : (m : Model) (c : Call) → is_sound m ≡ true → (accepted_model m c).initialised ≡ initialised_by c m.initialised
unfolding accepted_model initialised_by failed_flight_model good_flight_model failed_temperature_model good_temperature_model write_model tick_model
given m (transaction f o x) s =
    by-test (is_command (opcode f)) (λ c. rw c (run-ready m (opcode f)))
    (λ c. rw (others (opcode f) m.initialised c)
    (by-test (is_write (opcode f))
    (λ w. rw (c, w))
    (λ w. by-test (is_flash (opcode f))
    (λ u. rw (c, w, u) (flash-ready m (opcode f)))
    (λ u. rw (c, w, u) (read-ready m (opcode f) (words f))))))
given m tick s = refl
given m (flight u d) s = by-test (any_late m u d) (λ e. rw e) (λ e. rw e)
given m (temperature w) s = by-test (port_fault m w) (λ e. rw e) (λ e. rw e)
given m (stretch n) s = ticked-ready n m

pub initialised-until-reset : InitialisedClaim
initialised-until-reset cs =
    all-given (λ (m : Model). m.initialised) initialised_by (λ (m : Model). is_sound m ≡ true) keeps-sound given cs fresh_model fresh-sound ∙
    ap (last_given initialised_by (log fresh_model cs)) fresh-ready
  where
    fresh-ready : fresh_model.initialised ≡ false
    fresh-ready = unfold fresh_model fresh_with in refl
