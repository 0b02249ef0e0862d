-- The regulator of the user flash over every list of calls.
use Prim.Native.Nat.{ℕ, zero, suc, ◌+◌}
use mathlib.Core.Bool.{true, false}
use mathlib.Core.Path.{◌≡◌, refl, ap, ◌∙◌}
use lib.Dec.{ltb, leb, eqb}
use borrow.Author.Tests.{eqb-true}
use Rattle.unit.specs.Choice.{pick}
use Rattle.unit.proofs.Cases.{by-test}
use Rattle.frame.specs.Frame.{is_command, is_write, is_flash}
use Rattle.device.specs.declared.Model.{Model}
use Rattle.device.specs.Model.{is_sound, fresh_model, fresh_with, reset_model}
use Rattle.device.specs.Write.{write_model}
use Rattle.device.specs.Tick.{tick_model}
use Rattle.device.specs.Stretch.{model_ticked}
use Rattle.device.specs.Delivery.{good_flight_model, failed_flight_model, good_temperature_model, failed_temperature_model}
use Rattle.device.specs.FlashFrame.{flash_model}
use Rattle.device.specs.Bus.{is_event, started_event, initialised_model, halted_model, single_started, supplied, unsupplied, run_model, read_model}
use Rattle.device.specs.Call.{Call, transaction, tick, flight, temperature, stretch, opcode, words}
use Rattle.device.specs.Reply.{any_late, port_fault, accepted_model}
use Rattle.device.specs.History.{log}
use Rattle.demands.specs.EventHistory.{last_given}
use Rattle.demands.specs.Supply.{supply_given, SupplyClaim}
use Rattle.device.proofs.Sound.{fresh-sound, keeps-sound}
use Rattle.demands.proofs.CallSteps.{all-given}

run-supply :
    (m : Model) (op : ℕ) →
    (run_model m op).regulator
    ≡ pick (eqb op 0x0C) true (pick (eqb op 0x0D) false (pick (eqb op 0x04) false m.regulator))
unfolding run_model reset_model fresh_with initialised_model halted_model supplied unsupplied started_event single_started
run-supply m op =
    by-test (eqb op 12) (λ a. let e : op ≡ 12 = eqb-true op 12 a in rw e)
    (λ a. by-test (eqb op 13) (λ b. let e : op ≡ 13 = eqb-true op 13 b in rw e)
    (λ b. by-test (eqb op 4) (λ d. rw (a, b, d))
    (λ d. rw (a, b, d)
    (by-test (eqb op 5) (λ f. rw f)
    (λ f. rw f
    (by-test (eqb op 10) (λ g. rw g)
    (λ g. rw g
    (by-test (is_event op) (λ h. rw h)
    (λ h. rw h (by-test (eqb op 3) (λ i. rw i) (λ i. rw i)))))))))))

read-supply : (m : Model) (a n : ℕ) → (read_model m a n).regulator ≡ m.regulator
unfolding read_model
read-supply m a n = by-test (ltb 0xFE a) (λ e. rw e) (λ e. rw e (by-test (leb (a + n) 0xFE) (λ l. rw l) (λ l. rw l)))

flash-supply : (m : Model) (op : ℕ) → (flash_model m op).regulator ≡ m.regulator
unfolding flash_model
flash-supply m op = by-test (eqb op 0x90) (λ e. rw e) (λ e. rw e)

ticked-supply : (n : ℕ) (m : Model) → (model_ticked n m).regulator ≡ m.regulator
unfolding model_ticked tick_model
ticked-supply zero m = refl
ticked-supply (suc n) m = ticked-supply n m

-- One accepted call.
given : (m : Model) (c : Call) → is_sound m ≡ true → (accepted_model m c).regulator ≡ supply_given c m.regulator
unfolding accepted_model supply_given write_model tick_model failed_flight_model good_flight_model failed_temperature_model good_temperature_model
given m (transaction f o x) s =
    by-test (is_command (opcode f)) (λ c. rw c (run-supply m (opcode f)))
    (λ c. by-test (is_write (opcode f)) (λ w. rw (c, w))
    (λ w. by-test (is_flash (opcode f))
    (λ u. rw (c, w, u) (flash-supply m (opcode f)))
    (λ u. rw (c, w, u) (read-supply m (opcode f) (words f)))))
given m tick s = refl
given m (flight u d) s = by-test (any_late m u d) (λ e. rw e) (λ e. rw e)
given m (temperature w) s = by-test (port_fault m w) (λ e. rw e) (λ e. rw e)
given m (stretch n) s = ticked-supply n m

pub supply-kept : SupplyClaim
supply-kept cs =
    all-given (λ (m : Model). m.regulator) supply_given (λ (m : Model). is_sound m ≡ true) keeps-sound given cs fresh_model fresh-sound ∙
    ap (last_given supply_given (log fresh_model cs)) off
  where
    off : fresh_model.regulator ≡ false
    off = unfold fresh_model fresh_with in refl
