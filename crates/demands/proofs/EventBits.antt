-- The bits of FEh that a kind's settlings set, against what the calls told of them.
use Prim.Native.Nat.{ℕ, ◌+◌, ◌<◌}
use native.Mathlib.Omega.{arith}
use mathlib.Core.Bool.{Bool, true, false}
use mathlib.Core.List.{List}
use mathlib.Core.Path.{◌≡◌, refl, ◌∙◌}
use lib.Dec.{eqb}
use borrow.Author.Tests.{lt-ltb, eqb-true}
use Rattle.unit.specs.Choice.{pick, either, both}
use Rattle.unit.proofs.Cases.{by-test}
use Rattle.setup.specs.Setup.{each_interrupt}
use Rattle.device.specs.declared.Schedule.{Schedule}
use Rattle.device.specs.declared.Status.{Status}
use Rattle.device.specs.declared.Model.{Model}
use Rattle.device.specs.Event.{fails, in_event, is_last}
use Rattle.device.specs.Status.{Bit, TOF, TE, TOF-EVTMG, TEMP-EVTMG, has, no_bits, joined, sets_own_bit, flight_bits, temperature_bits, alarm_bit}
use Rattle.device.specs.Registers.{register_word}
use Rattle.device.specs.Tick.{tick_status, tick_model}
use Rattle.device.specs.Delivery.{flight_status, temperature_status}
use Rattle.device.specs.Reply.{flag}
use Rattle.device.specs.History.{Entry, Kind, differences, temperatures, by_kind}
use Rattle.demands.specs.EventHistory.{Plan, History, settled_of, status_bit, evtmg_place, own_place, evtmg_after, own_after}
use Rattle.demands.specs.EventHistory.{reads_status, note_tick, note_delivery, note_read}
use Rattle.device.proofs.StatusMeaning.{kept, status-means}
use Rattle.demands.proofs.EventSchedule.{Going, unsettled}
use Rattle.device.proofs.Stretch.{schedule_of}

abbrev pub evtmg_bit : Kind → Bit
evtmg_bit k = by_kind k TOF-EVTMG TEMP-EVTMG

abbrev pub own_bit : Kind → Bit
own_bit k = by_kind k TOF TE

-- The bits told are those of the status.
pub record BitsHeld (k : Kind) (h : History) (s : Status) : Type 0 where
  pub evtmg : h.evtmg ≡ flag (has s (evtmg_bit k))
  pub own : h.own ≡ flag (has s (own_bit k))

-- The awaited one is of the event, and the last of its group as it is told.
pub record OfEvent (p : Plan) (h : History) (k : Schedule) : Type 0 where
  pub last : 0 < k.left.0 → is_last k ≡ eqb (settled_of h + 1) p.count
  pub inside : 0 < k.left.0 → in_event k ≡ true

pub going_of : (p : Plan) (h : History) (k : Schedule) → Going p h k → OfEvent p h k
unfolding is_last in_event
going_of p h k g =
    record {
      last = λ l. rw (lt-ltb k.settled k.planned (unsettled p h k g l), g.counted.all, g.planned);
      inside =
          λ l.
          rw (lt-ltb k.settled k.planned (unsettled p h k g l))
          (by-test k.continuous (λ c. rw c) (λ c. rw c));
    }

-- a bit that is set, or was
raised : (b t : Bool) → pick t 1 (flag b) ≡ flag (either b t)
raised true true = refl
raised true false = refl
raised false true = refl
raised false false = refl

-- What a tick leaves of the kind's bits.
pub record Raised (k : Kind) (s : Status) (settles : Bool) (c : Schedule) (each : Bool) (after : Status) : Type 0 where
  pub evtmg : has after (evtmg_bit k) ≡ either (has s (evtmg_bit k)) (both settles (is_last c))
  pub own : has after (own_bit k) ≡ either (has s (own_bit k)) (both settles (sets_own_bit c each))

ticks-raise :
    (k : Kind) (s : Status) (a each e g : Bool) (f t : Schedule) →
    Raised k s (by_kind k e g) (by_kind k f t) each
    (joined (joined (joined s (alarm_bit a)) (flight_bits f each e e)) (temperature_bits t each g g))
unfolding joined alarm_bit flight_bits temperature_bits no_bits
ticks-raise differences s a each true true f t = record { evtmg = simp kept; own = simp kept }
ticks-raise differences s a each true false f t = record { evtmg = simp kept; own = simp kept }
ticks-raise differences s a each false true f t = record { evtmg = simp kept; own = simp kept }
ticks-raise differences s a each false false f t = record { evtmg = simp kept; own = simp kept }
ticks-raise temperatures s a each true true f t = record { evtmg = simp kept; own = simp kept }
ticks-raise temperatures s a each true false f t = record { evtmg = simp kept; own = simp kept }
ticks-raise temperatures s a each false true f t = record { evtmg = simp kept; own = simp kept }
ticks-raise temperatures s a each false false f t = record { evtmg = simp kept; own = simp kept }

tick-raises :
    (k : Kind) (m : Model) →
    Raised k m.status (fails (schedule_of k m)) (schedule_of k m) (each_interrupt m.setup) (tick_model m).status
unfolding tick_model tick_status
tick-raises differences m = ticks-raise differences m.status _ _ _ _ m.flight.schedule m.temperature.schedule
tick-raises temperatures m = ticks-raise temperatures m.status _ _ _ _ m.flight.schedule m.temperature.schedule

-- and a delivery, of the kind itself and of the other
pub flight-raises :
    (k : Kind) (m : Model) (failed : Bool) →
    Raised k m.status (by_kind k true false) (schedule_of k m) (each_interrupt m.setup) (flight_status m failed)
unfolding flight_status joined flight_bits
flight-raises differences m failed = record { evtmg = refl; own = refl }
flight-raises temperatures m failed = record { evtmg = refl; own = refl }

pub temperature-raises :
    (k : Kind) (m : Model) (opened : Bool) →
    Raised k m.status (by_kind k false true) (schedule_of k m) (each_interrupt m.setup) (temperature_status m opened)
unfolding temperature_status joined temperature_bits
temperature-raises differences m opened = record { evtmg = refl; own = refl }
temperature-raises temperatures m opened = record { evtmg = refl; own = refl }

-- So the bits told stay those of the status. Where one is settled, it is awaited.
module _
    (k : Kind) (p : Plan) (h : History) (m : Model)
    (o : OfEvent p h (schedule_of k m))
    (e : p.each ≡ each_interrupt m.setup)
    (i : BitsHeld k h m.status) where
  told-evtmg :
      (settles : Bool) (after : Status) →
      (settles ≡ true → 0 < (schedule_of k m).left.0) →
      Raised k m.status settles (schedule_of k m) (each_interrupt m.setup) after →
      (evtmg_after p settles h ≡ flag (has after (evtmg_bit k))) × (own_after p settles h ≡ flag (has after (own_bit k)))
  unfolding sets_own_bit
  told-evtmg true after l r =
      let c : Schedule = schedule_of k m in (
        rw (i.evtmg, r.evtmg, o.last (l refl)) (raised (has m.status (evtmg_bit k)) (eqb (settled_of h + 1) p.count)),
        rw (i.own, r.own, o.inside (l refl), e) (raised (has m.status (own_bit k)) (each_interrupt m.setup)),
      )
  told-evtmg false after l r = (
    rw (i.evtmg, r.evtmg) (raised (has m.status (evtmg_bit k)) false),
    rw (i.own, r.own) (raised (has m.status (own_bit k)) false),
  )

  pub bits-tick : (started : Bool) → BitsHeld k (note_tick p started (fails (schedule_of k m)) h) (tick_model m).status
  unfolding note_tick fails
  bits-tick started =
      let t = told-evtmg (fails (schedule_of k m)) (tick_model m).status (λ f. omega (arith, eqb-true (schedule_of k m).left.0 1 f)) (tick-raises k m) in
      record { evtmg = t.0; own = t.1 }

  pub bits-settled :
      (d : Entry) (after : Status) →
      0 < (schedule_of k m).left.0 →
      Raised k m.status true (schedule_of k m) (each_interrupt m.setup) after →
      BitsHeld k (note_delivery p d h) after
  unfolding note_delivery
  bits-settled d after l r = let t = told-evtmg true after (λ _. l) r in record { evtmg = t.0; own = t.1 }

-- a delivery of the other kind keeps them
pub bits-kept :
    (k : Kind) (h : History) (m : Model) (after : Status) →
    Raised k m.status false (schedule_of k m) (each_interrupt m.setup) after →
    BitsHeld k h m.status →
    BitsHeld k h after
bits-kept k h m after r i =
    record {
      evtmg = rw r.evtmg (i.evtmg ∙ raised (has m.status (evtmg_bit k)) false);
      own = rw r.own (i.own ∙ raised (has m.status (own_bit k)) false);
    }

pub bits-read :
    (k : Kind) (h : History) (s : Status) (f : List ℕ) →
    BitsHeld k h s →
    BitsHeld k (note_read f h) (pick (reads_status f) no_bits s)
unfolding note_read no_bits
bits-read differences h s f i =
    by-test (reads_status f) (λ e. rw e (record { evtmg = refl; own = refl })) (λ e. rw e (record { evtmg = i.evtmg; own = i.own }))
bits-read temperatures h s f i =
    by-test (reads_status f) (λ e. rw e (record { evtmg = refl; own = refl })) (λ e. rw e (record { evtmg = i.evtmg; own = i.own }))

-- what FEh reads
pub status-bits :
    (k : Kind) (m : Model) →
    (status_bit m (evtmg_place k) ≡ flag (has m.status (evtmg_bit k))) × (status_bit m (own_place k) ≡ flag (has m.status (own_bit k)))
unfolding register_word
status-bits differences m = let p = status-means m.status in (p.tofevtmg, p.tof)
status-bits temperatures m = let p = status-means m.status in (p.tempevtmg, p.te)
