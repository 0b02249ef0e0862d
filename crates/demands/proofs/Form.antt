-- The clock has the form in which it was last written.
use Prim.Native.Nat.{ℕ, zero, suc, ◌+◌, ◌-◌}
use mathlib.Core.Bool.{Bool, true, false}
use mathlib.Core.List.{List}
use mathlib.Core.Path.{◌≡◌, refl, ap, ◌∙◌}
use lib.ListN.{drop}
use lib.Dec.{ltb, leb, eqb}
use Rattle.unit.specs.Choice.{pick}
use Rattle.unit.proofs.Cases.{by-test}
use Rattle.calendar.specs.Calendar.{start}
use Rattle.calendar.specs.Words.{twelve_in, clock_from}
use Rattle.calendar.proofs.Laws.{tick-form}
use Rattle.calendar.proofs.RoundTrip.{reads-form}
use Rattle.setup.specs.Setup.{clock_stands}
use Rattle.frame.specs.Frame.{is_command, is_write, word_at, is_flash}
use Rattle.device.specs.declared.Model.{Model}
use Rattle.device.specs.Model.{is_sound, fresh_model, fresh_with, reset_model}
use Rattle.device.specs.Registers.{calendar_word}
use Rattle.device.specs.Write.{covers, written, clock_after, write_model}
use Rattle.device.specs.Tick.{clock_ticked, tick_model}
use Rattle.device.specs.Stretch.{model_ticked}
use Rattle.device.specs.Delivery.{good_flight_model, failed_flight_model, good_temperature_model, failed_temperature_model}
use Rattle.device.specs.FlashFrame.{flash_model}
use Rattle.device.specs.Bus.{supplied, unsupplied, is_event, started_event, initialised_model, halted_model, single_started, run_model, read_model}
use Rattle.device.specs.Call.{Call, transaction, tick, flight, temperature, stretch, opcode, words}
use Rattle.device.specs.Reply.{any_late, port_fault, accepted_model}
use Rattle.device.specs.History.{log}
use Rattle.demands.specs.EventHistory.{last_given}
use Rattle.demands.specs.Form.{form_given, FormClaim}
use Rattle.device.proofs.Sound.{Bounds, bounds_of, fresh-sound, keeps-sound, ticked-bounds}
use Rattle.demands.proofs.CallSteps.{all-given}

abbrev form_of : Model → Bool
form_of m = m.clock.twelve

run-form : (m : Model) (op : ℕ) → form_of (run_model m op) ≡ pick (eqb op 4) false (form_of m)
unfolding run_model reset_model fresh_with start initialised_model halted_model supplied unsupplied started_event single_started
run-form m op =
    by-test (eqb op 4) (λ e. rw e)
    (λ e. rw e
    (by-test (eqb op 5) (λ f. rw f)
    (λ f. rw f
    (by-test (eqb op 10) (λ g. rw g)
    (λ g. rw g
    (by-test (eqb op 12) (λ j. rw j)
    (λ j. rw j
    (by-test (eqb op 13) (λ k. rw k)
    (λ k. rw k
    (by-test (is_event op) (λ h. rw h) (λ h. rw h (by-test (eqb op 3) (λ i. rw i) (λ i. rw i)))))))))))))

write-form : (m : Model) (bytes : List ℕ) (op n : ℕ) →
    is_sound m ≡ true →
    form_of (write_model bytes op n m) ≡ pick (covers op n 0x31) (twelve_in (word_at bytes (0x31 - op))) (form_of m)
unfolding write_model clock_after clock_from written calendar_word
write-form m bytes op n s =
    by-test (covers op n 0x31) (λ e. rw e) (λ e. rw e (reads-form m.clock (bounds_of m s).clock))

read-form : (m : Model) (a n : ℕ) → form_of (read_model m a n) ≡ form_of m
unfolding read_model
read-form m a n = by-test (ltb 0xFE a) (λ e. rw e) (λ e. rw e (by-test (leb (a + n) 0xFE) (λ f. rw f) (λ f. rw f)))

tick-model-form : (m : Model) → Bounds m → form_of (tick_model m) ≡ form_of m
unfolding tick_model clock_ticked
tick-model-form m b =
    by-test (clock_stands m.setup) (λ e. rw e) (λ e. rw e (tick-form m.clock b.clock))

ticked-form : (n : ℕ) (m : Model) → Bounds m → form_of (model_ticked n m) ≡ form_of m
unfolding model_ticked
ticked-form zero m b = refl
ticked-form (suc n) m b = tick-model-form (model_ticked n m) (ticked-bounds n m b) ∙ ticked-form n m b

flash-form : (m : Model) (op : ℕ) → form_of (flash_model m op) ≡ form_of m
unfolding flash_model
flash-form m op = by-test (eqb op 0x90) (λ e. rw e) (λ e. rw e)

-- What one accepted call does to the form.
given : (m : Model) (c : Call) → is_sound m ≡ true → form_of (accepted_model m c) ≡ form_given c (form_of m)
unfolding accepted_model form_given failed_flight_model good_flight_model failed_temperature_model good_temperature_model
given m (transaction f o x) s =
    by-test (is_command (opcode f)) (λ c. rw c (run-form m (opcode f)))
    (λ c. by-test (is_write (opcode f))
    (λ w. rw (c, w) (write-form m (drop 1 f) (opcode f) (words f) s))
    (λ w. by-test (is_flash (opcode f))
    (λ u. rw (c, w, u) (flash-form m (opcode f)))
    (λ u. rw (c, w, u) (read-form m (opcode f) (words f)))))
given m tick s = tick-model-form m (bounds_of m s)
given m (flight u d) s = by-test (any_late m u d) (λ e. rw e) (λ e. rw e)
given m (temperature w) s = by-test (port_fault m w) (λ e. rw e) (λ e. rw e)
given m (stretch n) s = ticked-form n m (bounds_of m s)

pub form-kept : FormClaim
form-kept cs =
    all-given form_of form_given (λ (m : Model). is_sound m ≡ true) keeps-sound given cs fresh_model fresh-sound ∙
    ap (last_given form_given (log fresh_model cs)) fresh-form
  where
    fresh-form : form_of fresh_model ≡ false
    fresh-form = unfold fresh_model fresh_with start in refl
