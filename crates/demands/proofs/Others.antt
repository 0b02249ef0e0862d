-- A kind that the event command does not run: nothing is told of it, and its registers stay.
use Prim.Native.Nat.{ℕ}
use native.Mathlib.Omega.{arith}
use mathlib.Core.Bool.{true, false}
use mathlib.Core.List.{List, [], map}
use mathlib.Core.Path.{◌≡◌, ap, sym, ◌∙◌}
use Rattle.unit.specs.Choice.{pick, negate}
use Rattle.device.specs.declared.Schedule.{Schedule}
use Rattle.device.specs.declared.Status.{Status}
use Rattle.device.specs.declared.Model.{Model}
use Rattle.device.specs.Event.{begins, fails, is_awaited, tick_schedule, good_after}
use Rattle.device.specs.Model.{is_sound, with_status}
use Rattle.device.specs.Registers.{flight_word, temperature_word, register_word}
use Rattle.device.specs.Tick.{sum_after, sums_after, flight_ticked, flight_after, temperature_after, tick_model}
use Rattle.device.specs.History.{Kind, differences, temperatures}
use Rattle.demands.specs.EventHistory.{Plan, History, note_tick, note_read}
use Rattle.demands.specs.Claim.{registers_of, OtherClaim}
use Rattle.device.proofs.Stretch.{schedule_of, schedule-tick}
use Rattle.demands.proofs.StartMeaning.{Ended, ended-none, ended-group, ended-tick, none_left, not-failing, not-awaiting}
use Rattle.demands.proofs.NumberTen.{now-means}

-- what the registers of the kind hold is the same
abbrev Same : Kind → Model → Model → Type 0
Same differences m n =
    (n.flight.ups ≡ m.flight.ups) ×
    (n.flight.downs ≡ m.flight.downs) ×
    (n.flight.difference ≡ m.flight.difference) ×
    (n.flight.sum ≡ m.flight.sum) ×
    (n.flight.schedule.good ≡ m.flight.schedule.good)
Same temperatures m n =
    (n.temperature.ports ≡ m.temperature.ports) ×
    (n.temperature.sums ≡ m.temperature.sums) ×
    (n.temperature.schedule.good ≡ m.temperature.schedule.good)

-- Nothing of the kind runs, and nothing was told of it.
pub record Quiet (h : History) (k : Schedule) : Type 0 where
  pub ended : Ended k
  pub left : k.left.0 ≡ 0
  pub starts : h.starts ≡ []
  pub expiries : h.expiries ≡ []
  pub deliveries : h.deliveries ≡ []

abbrev pub OtherHeld : Kind → Model → History → Model → Type 0
OtherHeld k m h n = Quiet h (schedule_of k n) × Same k m n

-- a tick of such a kind
quiet-tick : (p : Plan) (h : History) (k : Schedule) → Quiet h k → Quiet (note_tick p (begins k) (fails k) h) (tick_schedule k)
unfolding note_tick
quiet-tick p h k i =
    rw (ended-none k i.ended, not-failing k i.left)
    (record {
      ended = ended-tick k i.ended;
      left = none_left k i.ended i.left;
      starts = i.starts;
      expiries = i.expiries;
      deliveries = i.deliveries;
    })

same-tick : (k : Kind) (m n : Model) (h : History) → Quiet h (schedule_of k n) → Same k m n → Same k m (tick_model n)
unfolding tick_model flight_after flight_ticked sum_after temperature_after sums_after tick_schedule good_after
same-tick differences m n h i s =
    rw (not-failing n.flight.schedule i.left, ended-group n.flight.schedule i.ended) s
same-tick temperatures m n h i s =
    rw (not-failing n.temperature.schedule i.left, ended-group n.temperature.schedule i.ended) s

pub other-tick :
    (k : Kind) (p : Plan) (m n : Model) (h : History) →
    OtherHeld k m h n →
    OtherHeld k m (note_tick p (begins (schedule_of k n)) (fails (schedule_of k n)) h) (tick_model n)
other-tick k p m n h (i, s) = (rw (schedule-tick k n) (quiet-tick p h (schedule_of k n) i), same-tick k m n h i s)

quiet_read : (f : List ℕ) (h : History) (k : Schedule) → Quiet h k → Quiet (note_read f h) k
unfolding note_read
quiet_read f h k i =
    record { ended = i.ended; left = i.left; starts = i.starts; expiries = i.expiries; deliveries = i.deliveries }

pub other-read :
    (k : Kind) (m n : Model) (h : History) (f : List ℕ) (s : Status) →
    OtherHeld k m h n →
    OtherHeld k m (note_read f h) (with_status n s)
other-read differences m n h f s (i, e) = (quiet_read f h n.flight.schedule i, e)
other-read temperatures m n h f s (i, e) = (quiet_read f h n.temperature.schedule i, e)

-- a delivery of it is number 10
pub none-delivered : {G : Type 0} (k : Schedule) → negate (is_awaited k) ≡ false → k.left.0 ≡ 0 → G
none-delivered k e z =
    let t : negate false ≡ false = sym (ap negate (not-awaiting k z)) ∙ e in
    let y : ◌≡◌ {A = ℕ} 0 1 = cc in
    absurd (omega arith)

same-registers : (k : Kind) (m n : Model) → Same k m n → map (register_word n) (registers_of k) ≡ map (register_word m) (registers_of k)
unfolding registers_of register_word flight_word temperature_word
same-registers differences m n (a, b, c, d, e) = rw (a, b, c, d, e)
same-registers temperatures m n (a, b, e) = rw (a, b, e)

pub other-claim : (k : Kind) (m : Model) (h : History) (n : Model) → is_sound n ≡ true → OtherHeld k m h n → OtherClaim k h m n
other-claim k m h n s (i, e) =
    record {
      starts = i.starts;
      expiries = i.expiries;
      deliveries = i.deliveries;
      awaited = now-means k n s ∙ ap (λ b. pick (negate b) 0 1) (not-awaiting (schedule_of k n) i.left);
      kept = same-registers k m n e;
    }
