-- What one call of a sound model does, where an accepted transaction may only be a read.
use Prim.Native.Nat.{ℕ, ◌+◌, ◌≤◌}
use mathlib.Core.Path.{◌≡◌, refl, ap, ◌∙◌}
use mathlib.Core.Bool.{true, false}
use mathlib.Core.List.{List, [], ◌∷◌}
use borrow.Author.Tests.{ltb-false, lt-ltb, le-ltb, le-leb, lt-leb}
use Rattle.unit.specs.Choice.{pick, either}
use Rattle.unit.proofs.Cases.{by-test, by-ltb, by-leb}
use Rattle.calendar.specs.Bounds.{after_ticks}
use Rattle.setup.specs.Setup.{clock_stands, hit_count, port_cycle}
use Rattle.frame.proofs.Laws.{read-alone}
use Rattle.hit.specs.Limit.{open_from}
use Rattle.hit.specs.Words.{six_words, four_words}
use Rattle.device.specs.declared.Status.{Status}
use Rattle.device.specs.declared.Model.{Model}
use Rattle.device.specs.declared.Reply.{Reply}
use Rattle.device.specs.declared.Answer.TheVariants.{Ticked, Stretched, Good, Failed}
use Rattle.device.specs.Status.{no_bits}
use Rattle.device.specs.Model.{is_sound, with_status}
use Rattle.device.specs.Tick.{clock_ticked, tick_model, report_of}
use Rattle.device.specs.Stretch.{model_ticked, stretch_report}
use Rattle.device.specs.Delivery.{good_flight_model, failed_flight_model, good_temperature_model, failed_temperature_model}
use Rattle.device.specs.Bus.{read_model}
use Rattle.device.specs.Call.{Call, transaction, tick, flight, temperature, stretch, opcode, words}
use Rattle.device.specs.Call.{no_frame, not_carried, wrong_length, past_registers, short_output, while_busy, supply_off, unreachable, unerased}
use Rattle.device.specs.Call.{bad_calendar, not_initialised, bad_setup, not_awaited, miscounted, too_long}
use Rattle.device.specs.Call.{table, Verdict, accepted, refused, first_of, verdict}
use Rattle.device.specs.Reply.{any_late, any_open, port_fault}
use Rattle.device.specs.Reply.{number_in, accepted_answer, accepted_model, refuse, reply_by, reply}
use Rattle.device.specs.Parts.{accept}
use Rattle.device.specs.History.{after, log}
use Rattle.refusal.specs.declared.Refusal.{Refusal}
use Rattle.demands.specs.EventHistory.{is_refusal, last_given, may_follow, reads_status}
use Rattle.demands.specs.Claim.{ticks_moved}
use Rattle.device.proofs.Table.{NoneHolds, none-holds, accepted-number}
use Rattle.device.proofs.Stretch.{setup-ticked, clock-ticked}

pub data Step (m : Model) : Call → Reply → Type 0 where
  refusal : (c : Call) (r : Refusal) → Step m c (refuse r m)
  -- a read leaves all but the status
  reading :
      (f o x : List ℕ) (s : Status) →
      s ≡ pick (reads_status f) no_bits m.status →
      Step m (transaction f o x) (accept false false (with_status m s))
  ticking :
      Step m tick
      (record {
        answer = Ticked (report_of m.flight.schedule) (report_of m.temperature.schedule);
        model = tick_model m;
      })
  flight-failed :
      (u d : List ℕ) →
      NoneHolds m (flight u d) →
      any_late m u d ≡ true →
      Step m (flight u d) (record { answer = Failed; model = failed_flight_model m })
  flight-good :
      (u d : List ℕ) →
      NoneHolds m (flight u d) →
      any_late m u d ≡ false →
      Step m (flight u d) (record { answer = Good; model = good_flight_model m (hit_count m.setup) (six_words u) (six_words d) })
  ports-failed :
      (w : List ℕ) →
      NoneHolds m (temperature w) →
      port_fault m w ≡ true →
      Step m (temperature w)
      (record { answer = Failed; model = failed_temperature_model m (open_from (port_cycle m.setup)) (any_open m w) (four_words w) })
  ports-good :
      (w : List ℕ) →
      NoneHolds m (temperature w) →
      port_fault m w ≡ false →
      Step m (temperature w) (record { answer = Good; model = good_temperature_model m (four_words w) })
  stretching :
      (n : ℕ) →
      n ≤ 16384 →
      Step m (stretch n)
      (record {
        answer = Stretched (stretch_report m.flight.schedule n) (stretch_report m.temperature.schedule n);
        model = model_ticked n m;
      })

-- an accepted call is no refusal
pub no-refusal : (m : Model) (c : Call) → is_refusal (accepted_answer m c) ≡ false
unfolding is_refusal
no-refusal m c = rw (accepted-number m c)

-- What accepted calls make of a part of the model, a list makes of it: `P` is kept by every call.
module _
    {A : Type 0} (part : Model → A) (given : Call → A → A) (P : Model → Type 0)
    (keeps : (m : Model) (c : Call) → P m → P (reply m c).model)
    (each : (m : Model) (c : Call) → P m → part (accepted_model m c) ≡ given c (part m)) where
  step_given :
      (m : Model) (c : Call) →
      P m →
      part (reply m c).model ≡ pick (is_refusal (reply m c).answer) (part m) (given c (part m))
  unfolding reply reply_by is_refusal number_in
  step_given m c h = go (verdict m c)
    where
      go : (v : Verdict) →
          part (reply_by v m c).model ≡ pick (is_refusal (reply_by v m c).answer) (part m) (given c (part m))
      go accepted = rw (no-refusal m c) (each m c h)
      go (refused n) = refl

  pub all-given : (cs : List Call) (m : Model) → P m → part (after m cs) ≡ last_given given (log m cs) (part m)
  unfolding after log last_given
  all-given [] m h = refl
  all-given (c ∷ cs) m h =
      all-given cs (reply m c).model (keeps m c h) ∙ ap (last_given given (log (reply m c).model cs)) (step_given m c h)

read_step : (m : Model) (f o x : List ℕ) → Step m (transaction f o x) (accept false false (read_model m (opcode f) (words f)))
unfolding read_model
read_step m f o x =
    by-ltb 0xFE (opcode f)
    (λ l e. rw e (reading f o x m.status (rw (lt-leb (opcode f) 0xFE l))))
    (λ l e. rw e
    (by-leb (opcode f + words f) 0xFE
    (λ n g. rw g (reading f o x m.status (rw (le-leb (opcode f) 0xFE l, le-ltb 0xFE (opcode f + words f) n))))
    (λ n g. rw g (reading f o x no_bits (rw (le-leb (opcode f) 0xFE l, lt-ltb 0xFE (opcode f + words f) n))))))

accepted-step :
    (m : Model) (c : Call) →
    NoneHolds m c →
    either (is_refusal (accepted_answer m c)) (may_follow c) ≡ true →
    Step m c (record { answer = accepted_answer m c; model = accepted_model m c })
unfolding accepted_answer accepted_model may_follow too_long
accepted-step m (transaction f o x) n p =
    let (c, w, u) = read-alone (opcode f) (rw (no-refusal m (transaction f o x)) at p) in rw (c, w, u) (read_step m f o x)
accepted-step m tick n p = ticking
accepted-step m (flight u d) n p =
    by-test (any_late m u d) (λ l. rw l (flight-failed u d n l)) (λ l. rw l (flight-good u d n l))
accepted-step m (temperature w) n p =
    by-test (port_fault m w) (λ l. rw l (ports-failed w n l)) (λ l. rw l (ports-good w n l))
accepted-step m (stretch k) n p = stretching k (ltb-false 16384 k n.row12)

-- a sound model refuses no tick
pub tick-accepted : (m : Model) → is_sound m ≡ true → verdict m tick ≡ accepted
unfolding verdict first_of table no_frame not_carried wrong_length past_registers short_output while_busy supply_off unreachable unerased bad_calendar not_initialised bad_setup not_awaited miscounted too_long
tick-accepted m v = rw v

pub stepped :
    (m : Model) (c : Call) →
    is_sound m ≡ true →
    either (is_refusal (reply m c).answer) (may_follow c) ≡ true →
    Step m c (reply m c)
unfolding reply reply_by
stepped m c v = go (verdict m c) refl
  where
    go :
        (t : Verdict) →
        verdict m c ≡ t →
        either (is_refusal (reply_by t m c).answer) (may_follow c) ≡ true →
        Step m c (reply_by t m c)
    go accepted e p = accepted-step m c (none-holds m c e) p
    go (refused n) e p = refusal c n

-- no such call changes the set-up, and only ticks move the clock
pub setup-kept : (m : Model) {c : Call} {r : Reply} → Step m c r → r.model.setup ≡ m.setup
unfolding tick_model failed_flight_model good_flight_model failed_temperature_model good_temperature_model
setup-kept m (refusal c n) = refl
setup-kept m (reading f o x s e) = refl
setup-kept m ticking = refl
setup-kept m (flight-failed u d n l) = refl
setup-kept m (flight-good u d n l) = refl
setup-kept m (ports-failed w n l) = refl
setup-kept m (ports-good w n l) = refl
setup-kept m (stretching n l) = setup-ticked n m

pub clock-step :
    (m : Model) {c : Call} {r : Reply} →
    Step m c r →
    clock_stands m.setup ≡ false →
    r.model.clock ≡ after_ticks (ticks_moved (record { call = c; answer = r.answer })) m.clock
unfolding tick_model clock_ticked failed_flight_model good_flight_model failed_temperature_model good_temperature_model ticks_moved is_refusal number_in after_ticks
clock-step m (refusal c n) e = refl
clock-step m (reading f o x s p) e = refl
clock-step m ticking e = rw e
clock-step m (flight-failed u d n l) e = refl
clock-step m (flight-good u d n l) e = refl
clock-step m (ports-failed w n l) e = refl
clock-step m (ports-good w n l) e = refl
clock-step m (stretching n l) e = clock-ticked n m e
