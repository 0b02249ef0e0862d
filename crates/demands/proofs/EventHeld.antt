-- What holds of a kind, run or not, after each call of a list that follows an accepted event command.
use Prim.Native.Nat.{ℕ}
use native.Mathlib.Omega.{arith}
use mathlib.Core.Path.{◌≡◌, refl, ap, sym, subst}
use mathlib.Core.Bool.{Bool, true, false}
use mathlib.Core.List.{List, [], ◌∷◌}
use lib.Dec.{eqb}
use Rattle.unit.proofs.Joined.{both_true}
use Rattle.unit.proofs.Cases.{by-test}
use Rattle.setup.specs.Setup.{each_interrupt}
use Rattle.device.specs.declared.Model.{Model}
use Rattle.device.specs.declared.Reply.{Reply}
use Rattle.device.specs.declared.Answer.TheVariants.{Ticked, Stretched}
use Rattle.device.specs.Event.{begins, fails}
use Rattle.device.specs.Model.{is_sound}
use Rattle.device.specs.Tick.{tick_model, report_of}
use Rattle.device.specs.Stretch.{model_ticked, last_tick, stretch_report}
use Rattle.device.specs.Delivery.{flight_status, temperature_status, good_flight_model, failed_flight_model, good_temperature_model, failed_temperature_model}
use Rattle.device.specs.Call.{Call, tick, flight, temperature, stretch, not_awaited}
use Rattle.device.specs.Reply.{any_open, number_in, flag, values_in, reply}
use Rattle.device.specs.History.{after, log, Kind, differences, temperatures}
use Rattle.demands.specs.EventHistory.{is_refusal, only_reads, Plan, plan_of, History}
use Rattle.demands.specs.EventHistory.{note_tick, note_ticks, note_read, note_accepted, note, history}
use Rattle.device.proofs.Sound.{left-some, bounds_of, sound-of, ticked-bounds, keeps-sound}
use Rattle.device.proofs.Stretch.{schedule_of}
use Rattle.demands.proofs.StretchTold.{over-ticks}
use Rattle.demands.proofs.CallSteps.{Step, refusal, reading, ticking, flight-failed, flight-good, ports-failed, ports-good, stretching, stepped}
use Rattle.demands.proofs.EventSums.{KindHeld, kind-going, kind-tick, kind-read, flight-fails, flight-adds, ports-fail, ports-add}
use Rattle.demands.proofs.Others.{OtherHeld, other-tick, other-read, none-delivered}
use Rattle.demands.proofs.EventBits.{BitsHeld, OfEvent, going_of, flight-raises, temperature-raises, bits-tick, bits-settled, bits-kept, bits-read}

-- `first` is the model that accepted the command, `s` its set-up, and `run` says whether the command runs the kind.
pub record Held (k : Kind) (first : Model) (s : List ℕ) (run : Bool) (h : History) (m : Model) : Type 0 where
  pub sound : is_sound m ≡ true
  pub setup : m.setup ≡ s
  pub kind : run ≡ true → KindHeld k s h m
  pub other : run ≡ false → OtherHeld k first h m
  pub bits : BitsHeld k h m.status

module _ (k : Kind) (first : Model) (s : List ℕ) (run : Bool) (h : History) (m : Model) (i : Held k first s run h m) where
  of-event : OfEvent (plan_of k s) h (schedule_of k m)
  of-event =
      by-test run (λ r. going_of (plan_of k s) h (schedule_of k m) (kind-going k s h m (i.kind r)))
      (λ r.
      let z = (i.other r).0.left in
      record { last = λ l. absurd (omega arith); inside = λ l. absurd (omega arith) })

  held-tick : Held k first s run (note_tick (plan_of k s) (begins (schedule_of k m)) (fails (schedule_of k m)) h) (tick_model m)
  unfolding tick_model
  held-tick =
      record {
        sound = sound-of (tick_model m) (unfold model_ticked in ticked-bounds 1 m (bounds_of m i.sound));
        setup = i.setup;
        kind = λ r. kind-tick k s h m (i.kind r);
        other = λ r. other-tick k (plan_of k s) first m h (i.other r);
        bits = bits-tick k (plan_of k s) h m of-event (ap each_interrupt (sym i.setup)) i.bits (begins (schedule_of k m));
      }

-- what a tick's and a stretch's values tell of a kind
flagged : (b : Bool) → eqb (flag b) 1 ≡ b
flagged true = refl
flagged false = refl

tick-told :
    (k : Kind) (p : Plan) (m : Model) (h : History) →
    note_accepted k p tick (Ticked (report_of m.flight.schedule) (report_of m.temperature.schedule)) h
    ≡ note_tick p (begins (schedule_of k m)) (fails (schedule_of k m)) h
unfolding note_accepted note_ticks values_in report_of
tick-told differences p m h = rw (flagged (begins m.flight.schedule), flagged (fails m.flight.schedule))
tick-told temperatures p m h = rw (flagged (begins m.temperature.schedule), flagged (fails m.temperature.schedule))

stretch-told :
    (k : Kind) (p : Plan) (m : Model) (n : ℕ) (h : History) →
    note_accepted k p (stretch n) (Stretched (stretch_report m.flight.schedule n) (stretch_report m.temperature.schedule n)) h
    ≡ note_ticks p n (last_tick begins (schedule_of k m) n) (last_tick fails (schedule_of k m) n) h
unfolding note_accepted values_in stretch_report
stretch-told differences p m n h = refl
stretch-told temperatures p m n h = refl

held-step :
    (k : Kind) (first m : Model) (run : Bool) (h : History) {c : Call} {r : Reply} →
    Step m c r →
    is_sound r.model ≡ true →
    Held k first m.setup run h m →
    Held k first m.setup run (note k (plan_of k m.setup) (record { call = c; answer = r.answer }) h) r.model
unfolding note note_accepted is_refusal number_in failed_flight_model good_flight_model failed_temperature_model good_temperature_model not_awaited
held-step k first m run h (refusal c n) v i = i
held-step k first m run h (reading f o x t e) v i =
    record {
      sound = v;
      setup = refl;
      kind = λ r. kind-read k m.setup h m f t (i.kind r);
      other = λ r. other-read k first m h f t (i.other r);
      bits = subst (BitsHeld k (note_read f h)) (sym e) (bits-read k h m.status f i.bits);
    }
held-step k first m run h ticking v i =
    rw (tick-told k (plan_of k m.setup) m h) (held-tick k first m.setup run h m i)
held-step k first m run h (stretching n l) v i =
    rw (stretch-told k (plan_of k m.setup) m n h)
    (over-ticks k (plan_of k m.setup) (Held k first m.setup run) (λ g j p. p.sound) (held-tick k first m.setup run) m h n n l
    (omega arith) i)
held-step differences first m run h (flight-failed u d n l) v i =
    record {
      sound = v;
      setup = refl;
      kind = λ r. flight-fails m h (i.kind r) u d n l;
      other = λ r. none-delivered m.flight.schedule n.row10 (i.other r).0.left;
      bits =
          bits-settled differences (plan_of differences m.setup) h m (of-event differences first m.setup run h m i) refl i.bits _
          (flight_status m true) (left-some m.flight.schedule n.row10) (flight-raises differences m true);
    }
held-step differences first m run h (flight-good u d n l) v i =
    record {
      sound = v;
      setup = refl;
      kind = λ r. flight-adds m h (i.kind r) u d n l;
      other = λ r. none-delivered m.flight.schedule n.row10 (i.other r).0.left;
      bits =
          bits-settled differences (plan_of differences m.setup) h m (of-event differences first m.setup run h m i) refl i.bits _
          (flight_status m false) (left-some m.flight.schedule n.row10) (flight-raises differences m false);
    }
held-step differences first m run h (ports-failed w n l) v i =
    record {
      sound = v;
      setup = refl;
      kind = i.kind;
      other = i.other;
      bits = bits-kept differences h m (temperature_status m (any_open m w)) (temperature-raises differences m (any_open m w)) i.bits;
    }
held-step differences first m run h (ports-good w n l) v i =
    record {
      sound = v;
      setup = refl;
      kind = i.kind;
      other = i.other;
      bits = bits-kept differences h m (temperature_status m false) (temperature-raises differences m false) i.bits;
    }
held-step temperatures first m run h (flight-failed u d n l) v i =
    record {
      sound = v;
      setup = refl;
      kind = i.kind;
      other = i.other;
      bits = bits-kept temperatures h m (flight_status m true) (flight-raises temperatures m true) i.bits;
    }
held-step temperatures first m run h (flight-good u d n l) v i =
    record {
      sound = v;
      setup = refl;
      kind = i.kind;
      other = i.other;
      bits = bits-kept temperatures h m (flight_status m false) (flight-raises temperatures m false) i.bits;
    }
held-step temperatures first m run h (ports-failed w n l) v i =
    record {
      sound = v;
      setup = refl;
      kind = λ r. ports-fail m h (i.kind r) w _ n l;
      other = λ r. none-delivered m.temperature.schedule n.row10 (i.other r).0.left;
      bits =
          bits-settled temperatures (plan_of temperatures m.setup) h m (of-event temperatures first m.setup run h m i) refl i.bits _
          (temperature_status m (any_open m w)) (left-some m.temperature.schedule n.row10) (temperature-raises temperatures m (any_open m w));
    }
held-step temperatures first m run h (ports-good w n l) v i =
    record {
      sound = v;
      setup = refl;
      kind = λ r. ports-add m h (i.kind r) w n l;
      other = λ r. none-delivered m.temperature.schedule n.row10 (i.other r).0.left;
      bits =
          bits-settled temperatures (plan_of temperatures m.setup) h m (of-event temperatures first m.setup run h m i) refl i.bits _
          (temperature_status m false) (left-some m.temperature.schedule n.row10) (temperature-raises temperatures m false);
    }

-- The whole list.
pub all_held :
    (k : Kind) (first : Model) (s : List ℕ) (run : Bool) (cs : List Call) (m : Model) (h : History) →
    only_reads (log m cs) ≡ true →
    Held k first s run h m →
    Held k first s run (history k (plan_of k s) (log m cs) h) (after m cs)
unfolding log only_reads history after
all_held k first s run [] m h p i = i
all_held k first s run (c ∷ cs) m h p i =
    let (now, rest) = both_true _ _ p in
    let t = stepped m c i.sound now in
    all_held k first s run cs (reply m c).model (note k (plan_of k s) (record { call = c; answer = (reply m c).answer }) h) rest
    (subst
    (λ (s : List ℕ).
    Held k first s run h m → Held k first s run (note k (plan_of k s) (record { call = c; answer = (reply m c).answer }) h) (reply m c).model)
    i.setup (held-step k first m run h t (keeps-sound m c i.sound)) i)
