-- What temperature words may touch, left blank: no call lets any of it into the rest of the model, into a report of a difference
-- start, or into a refusal but number 0.
use Prim.Native.Nat.{ℕ, zero, suc, ◌+◌}
use mathlib.Core.Bool.{Bool, true, false}
use mathlib.Core.List.{List, []}
use mathlib.Core.Path.{◌≡◌, refl, ap, sym, ◌∙◌}
use lib.ListN.{drop}
use lib.Dec.{ltb, leb, eqb}
use Rattle.unit.proofs.Cases.{by-test}
use Rattle.unit.specs.declared.Quanta.{Quanta}
use Rattle.frame.specs.Frame.{is_command, is_write, is_flash}
use Rattle.device.specs.declared.Schedule.{Schedule}
use Rattle.device.specs.declared.Temperature.{Temperature}
use Rattle.device.specs.declared.Model.{Model}
use Rattle.device.specs.Event.{is_awaited, in_event, starts_left, begins, begins_group, fails, start_single, left_after, wait_after, started_after, settled_after, good_after, tick_schedule, settle, halt_schedule}
use Rattle.device.specs.Status.{no_bits}
use Rattle.device.specs.Model.{kind_busy, is_busy, with_temperature}
use Rattle.device.specs.Registers.{calendar_word}
use Rattle.device.specs.Write.{ticks_after, clock_after, write_invalid, write_model}
use Rattle.device.specs.Tick.{temperature_after, clock_ticked, tick_model}
use Rattle.device.specs.Stretch.{model_ticked}
use Rattle.device.specs.Delivery.{good_flight_model, failed_flight_model, good_temperature_model, failed_temperature_model}
use Rattle.device.specs.Bus.{starts_temperature, is_event, command_busy, before_initialize, command_unset, temperature_event, event_flight, event_temperature}
use Rattle.device.specs.Bus.{started_event, initialised_model, halted_model, single_started, supplied, unsupplied, run_model, read_model}
use Rattle.device.specs.FlashFrame.{flash_model}
use Rattle.device.specs.Call.{Call, transaction, tick, flight, temperature, stretch, opcode, words, Row, table}
use Rattle.device.specs.Call.{no_frame, not_carried, wrong_length, past_registers, short_output, while_busy, supply_off, unreachable, unerased}
use Rattle.device.specs.Call.{bad_calendar, not_initialised, bad_setup, not_awaited, miscounted, too_long}
use Rattle.device.specs.Reply.{any_late, port_fault, values_in, accepted_answer, accepted_model}
use Rattle.demands.specs.Probes.{OtherProbes, same, values, buffer, start_of}

-- The count of good temperatures, the sums, the ports and the status.
unfoldable pub uncounted : Schedule → Schedule
uncounted k =
    record {
      left = k.left;
      wait = k.wait;
      period = k.period;
      planned = k.planned;
      started = k.started;
      settled = k.settled;
      continuous = k.continuous;
      good = 0;
    }

unfoldable pub unmeasured : Temperature → Temperature
unmeasured t = record { schedule = uncounted t.schedule; sums = []; ports = [] }

unfoldable pub blank : Model → Model
blank m =
    record {
      clock = m.clock;
      setup = m.setup;
      status = no_bits;
      initialised = m.initialised;
      regulator = m.regulator;
      flight = m.flight;
      temperature = unmeasured m.temperature;
    }

-- Each accepted call leaves the same of both, but for that.
tick-same : (m : Model) → blank (tick_model m) ≡ blank (tick_model (blank m))
unfolding blank unmeasured uncounted tick_model clock_ticked temperature_after tick_schedule left_after wait_after started_after settled_after good_after begins_group begins starts_left fails
tick-same m = by-test (eqb m.temperature.schedule.left.0 1) (λ e. rw e) (λ e. rw e)

stretch-same : (n : ℕ) (m : Model) → blank (model_ticked n m) ≡ blank (model_ticked n (blank m))
unfolding model_ticked
stretch-same zero m = unfold blank unmeasured uncounted in refl
stretch-same (suc n) m =
    tick-same (model_ticked n m) ∙ ap (λ (p : Model). blank (tick_model p)) (stretch-same n m) ∙
    sym (tick-same (model_ticked n (blank m)))

single-same : (m : Model) (op : ℕ) → blank (single_started m op) ≡ blank (single_started (blank m) op)
unfolding blank unmeasured uncounted single_started start_single
single-same m op = by-test (eqb op 3) (λ e. rw e) (λ e. rw e)

event-same : (m : Model) (op : ℕ) → blank (started_event m op) ≡ blank (started_event (blank m) op)
unfolding blank unmeasured uncounted started_event event_flight event_temperature temperature_event
event-same m op = by-test (starts_temperature op) (λ e. rw e) (λ e. rw e)

command-same : (m : Model) (op : ℕ) → blank (run_model m op) ≡ blank (run_model (blank m) op)
unfolding run_model
command-same m op =
    by-test (eqb op 4) (λ e. rw e)
    (λ e. rw e
    (by-test (eqb op 5) (λ f. rw f (unfold blank unmeasured uncounted initialised_model in refl))
    (λ f. rw f
    (by-test (eqb op 10) (λ g. rw g (unfold blank unmeasured uncounted halted_model halt_schedule in refl))
    (λ g. rw g
    (by-test (eqb op 12) (λ i. rw i (unfold blank unmeasured uncounted supplied in refl))
    (λ i. rw i
    (by-test (eqb op 13) (λ j. rw j (unfold blank unmeasured uncounted unsupplied in refl))
    (λ j. rw j
    (by-test (is_event op) (λ h. rw h (event-same m op)) (λ h. rw h (single-same m op))))))))))))

write_same :
    (bytes : List ℕ) (op n : ℕ) (m : Model) →
    blank (write_model bytes op n m) ≡ blank (write_model bytes op n (blank m))
unfolding blank unmeasured uncounted write_model clock_after ticks_after calendar_word
write_same bytes op n m = refl

read_same : (m : Model) (a n : ℕ) → blank (read_model m a n) ≡ blank (read_model (blank m) a n)
unfolding blank unmeasured uncounted read_model
read_same m a n =
    by-test (ltb 0xFE a) (λ e. rw e) (λ e. rw e (by-test (leb (a + n) 0xFE) (λ f. rw f) (λ f. rw f)))

flash-same : (m : Model) (op : ℕ) → blank (flash_model m op) ≡ blank (flash_model (blank m) op)
unfolding blank unmeasured uncounted flash_model
flash-same m op = by-test (eqb op 0x90) (λ e. rw e) (λ e. rw e)

transaction-same :
    (m : Model) (f o x : List ℕ) →
    blank (accepted_model m (transaction f o x)) ≡ blank (accepted_model (blank m) (transaction f o x))
unfolding accepted_model
transaction-same m f o x =
    by-test (is_command (opcode f)) (λ c. rw c (command-same m (opcode f)))
    (λ c. by-test (is_write (opcode f))
    (λ w. rw (c, w) (write_same (drop 1 f) (opcode f) (words f) m))
    (λ w. by-test (is_flash (opcode f))
    (λ u. rw (c, w, u) (flash-same m (opcode f)))
    (λ u. rw (c, w, u) (read_same m (opcode f) (words f)))))

flight-same :
    (m : Model) (u d : List ℕ) →
    blank (accepted_model m (flight u d)) ≡ blank (accepted_model (blank m) (flight u d))
unfolding accepted_model blank unmeasured uncounted failed_flight_model good_flight_model any_late
flight-same m u d = by-test (any_late m u d) (λ e. rw e) (λ e. rw e)

-- A delivery of temperatures settles one, whatever its words are, and whether they are good or not.
settled_same : (k : Schedule) (g h : Bool) → uncounted (settle k g) ≡ uncounted (settle (uncounted k) h)
unfolding uncounted settle
settled_same k g h = by-test (ltb k.settled k.planned) (λ e. rw e) (λ e. rw e)

unfoldable settled_one : Model → Model
settled_one m =
    blank (with_temperature m (record { schedule = settle m.temperature.schedule true; sums = []; ports = [] }))

good-settles : (m : Model) (w : List ℕ) → blank (good_temperature_model m w) ≡ settled_one (blank m)
unfolding good_temperature_model settled_one blank unmeasured
good-settles m w = rw (settled_same m.temperature.schedule true true)

failed-settles :
    (m : Model) (limit : Quanta) (opened : Bool) (w : List ℕ) →
    blank (failed_temperature_model m limit opened w) ≡ settled_one (blank m)
unfolding failed_temperature_model settled_one blank unmeasured
failed-settles m limit opened w = rw (settled_same m.temperature.schedule false true)

settles : (m : Model) (w : List ℕ) → blank (accepted_model m (temperature w)) ≡ settled_one (blank m)
unfolding accepted_model
settles m w = by-test (port_fault m w) (λ e. rw e (failed-settles m _ _ _)) (λ e. rw e (good-settles m _))

temperature-same :
    (m : Model) (w : List ℕ) →
    blank (accepted_model m (temperature w)) ≡ blank (accepted_model (blank m) (temperature w))
temperature-same m w = settles m w ∙ ap settled_one twice ∙ sym (settles (blank m) w)
  where
    twice : blank m ≡ blank (blank m)
    twice = unfold blank unmeasured uncounted in refl

-- What looks at no blank is the same of two models that are alike but for the blanks, where it is the same of both calls.
alike :
    {A : Type 0} (f : Model → Call → A) →
    ((m : Model) (c : Call) → f m c ≡ f (blank m) c) →
    (m n : Model) {c d : Call} →
    blank m ≡ blank n →
    f n c ≡ f n d →
    f m c ≡ f n d
alike f blanks m n {c} {d} e o = blanks m c ∙ ap (λ (p : Model). f p c) e ∙ sym (blanks n c) ∙ o

-- The model that an accepted call leaves.
model-same : (m : Model) (c : Call) → blank (accepted_model m c) ≡ blank (accepted_model (blank m) c)
model-same m (transaction f o x) = transaction-same m f o x
model-same m tick = unfold accepted_model in tick-same m
model-same m (flight u d) = flight-same m u d
model-same m (temperature w) = temperature-same m w
model-same m (stretch n) = unfold accepted_model in stretch-same _ m

model-other : (m : Model) {c d : Call} → OtherProbes c d → blank (accepted_model m c) ≡ blank (accepted_model m d)
model-other m (same c) = refl
model-other m (values v w l) = settles m v ∙ sym (settles m w)
model-other m (buffer f o p x l) = unfold accepted_model in refl

pub model-alike :
    (m n : Model) {c d : Call} →
    blank m ≡ blank n →
    OtherProbes c d →
    blank (accepted_model m c) ≡ blank (accepted_model n d)
model-alike m n e o = alike (λ (m : Model) (c : Call). blank (accepted_model m c)) model-same m n e (model-other n o)

-- What its answer reports of difference starts; a delivery's reports none.
abbrev reported : Model → Call → ℕ
reported m c = start_of c (accepted_answer m c)

report-same : (m : Model) (c : Call) → reported m c ≡ reported (blank m) c
unfolding start_of values_in accepted_answer blank
report-same m (transaction f o x) = refl
report-same m tick = refl
report-same m (flight u d) = refl
report-same m (temperature w) = refl
report-same m (stretch n) = refl

report-other : (m : Model) {c d : Call} → OtherProbes c d → reported m c ≡ reported m d
unfolding start_of accepted_answer
report-other m (same c) = refl
report-other m (values v w l) = refl
report-other m (buffer f o p x l) = refl

pub report-alike :
    (m n : Model) {c d : Call} →
    blank m ≡ blank n →
    OtherProbes c d →
    start_of c (accepted_answer m c) ≡ start_of d (accepted_answer n d)
report-alike m n e o = alike reported report-same m n e (report-other n o)

-- The rows of the table after that of number 0. None looks at more than the number of words and the buffer's length.
abbrev pub other_rows : Model → Call → List Row
other_rows m c = drop 1 (table m c)

rows_same : (m : Model) (c : Call) → other_rows m c ≡ other_rows (blank m) c
unfolding table while_busy supply_off unreachable unerased bad_calendar not_initialised bad_setup not_awaited miscounted blank unmeasured uncounted command_busy is_busy kind_busy is_awaited in_event before_initialize command_unset write_invalid ticks_after calendar_word
rows_same m (transaction f o x) = refl
rows_same m tick = refl
rows_same m (flight u d) = refl
rows_same m (temperature w) = refl
rows_same m (stretch n) = refl

rows_other : (m : Model) {c d : Call} → OtherProbes c d → other_rows m c ≡ other_rows m d
unfolding table no_frame not_carried wrong_length past_registers short_output while_busy supply_off unreachable unerased bad_calendar not_initialised bad_setup not_awaited miscounted too_long
rows_other m (same c) = refl
rows_other m (values v w l) = rw l
rows_other m (buffer f o p x l) = rw l

pub rows_alike : (m n : Model) {c d : Call} → blank m ≡ blank n → OtherProbes c d → other_rows m c ≡ other_rows n d
rows_alike m n e o = alike other_rows rows_same m n e (rows_other n o)
