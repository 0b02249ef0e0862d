-- What a kind holds after each call of an event: its schedule, and the sums of what was good so far.
use Prim.Native.Nat.{ℕ, zero, suc, ◌+◌, ◌*◌, ◌/◌, ◌%◌, ◌^◌, ◌<◌, min}
use native.Mathlib.Omega.{arith}
use mathlib.Core.Logic.{◌↔◌}
use mathlib.Core.Path.{◌≡◌, refl, ap}
use mathlib.Core.Bool.{Bool, true, false, false≢true}
use mathlib.Core.List.{List, [], ◌∷◌, ◌++◌, map, map-append}
use lib.ListN.{length, length-map, get_or}
use lib.Dec.{eqb}
use borrow.Author.Tests.{lt-ltb, eqb-true}
use Rattle.unit.specs.Choice.{both, negate}
use Rattle.unit.proofs.Cases.{by-test, by-ltb, refuted}
use Rattle.unit.proofs.Joined.{neither}
use Rattle.setup.specs.Setup.{word_of, hit_count, timeout, port_cycle}
use Rattle.setup.proofs.Laws.{hits-bounds}
use Rattle.unit.specs.declared.Quanta.{Quanta}
use Rattle.hit.specs.Limit.{late_from, open_from, any_from}
use Rattle.hit.specs.Words.{six_words, four_words, average, no_quanta, plus, plus_each}
use Rattle.hit.specs.Difference.{biased, difference_mean, port_mean}
use Rattle.hit.specs.Biased.{InRange, biased_total}
use Rattle.hit.specs.Mean.{All, sum, Averages, difference_bits, mean_averages, floor_mean_words}
use Rattle.hit.proofs.Limits.{quotient-below}
use Rattle.hit.proofs.Sum.{six-total}
use Rattle.hit.proofs.Mean.{mean-word, port-mean-words}
use Rattle.hit.proofs.Meaning.{from-means, whole-means}
use Rattle.device.specs.declared.Schedule.{Schedule}
use Rattle.device.specs.declared.Status.{Status}
use Rattle.device.specs.declared.Flight.{Flight}
use Rattle.device.specs.declared.Temperature.{Temperature}
use Rattle.device.specs.declared.Model.{Model}
use Rattle.device.specs.declared.Answer.{Answer}
use Rattle.device.specs.declared.Answer.TheVariants.{Good, Failed}
use Rattle.device.specs.Event.{begins, begins_group, fails, settle}
use Rattle.device.specs.Model.{is_sound, with_status}
use Rattle.device.specs.Registers.{half, flight_word, temperature_word, register_word}
use Rattle.device.specs.Tick.{sum_after, sums_after, flight_ticked, flight_after, temperature_after, tick_model}
use Rattle.device.specs.Results.{failed_flight}
use Rattle.device.specs.Delivery.{same_count, flight_miscounted}
use Rattle.device.specs.Results.{good_sum, good_flight, good_sums}
use Rattle.device.specs.Call.{Call, flight, temperature, not_awaited, miscounted}
use Rattle.device.specs.Reply.{any_late, port_fault, flag, values_in}
use Rattle.device.specs.History.{Entry, Kind, differences, temperatures}
use Rattle.demands.specs.EventHistory.{Plan, plan_of, averages_of, port_word, History}
use Rattle.demands.specs.EventHistory.{note_tick, note_delivery, note_read}
use Rattle.demands.specs.Claim.{InTime, Judged, KindClaim}
use Rattle.device.proofs.Table.{NoneHolds, negated, picked}
use Rattle.device.proofs.Sound.{left-some, hits-counted, hits-below}
use Rattle.device.proofs.Sound
use Rattle.demands.proofs.EventSchedule.{Going, all_append, group-told, going-tick, going-settles, going-read, unsettled, all-reached, in_group, balanced, recent}
use Rattle.device.proofs.Stretch.{schedule_of}
use Rattle.demands.proofs.NumberTen.{now-means, now-any}

abbrev pub JudgedAs : List ℕ → Entry → Type 0
JudgedAs s e = Judged s e.call e.answer

pub record FlightHeld (s : List ℕ) (h : History) (f : Flight) : Type 0 where
  pub going : Going (plan_of differences s) h f.schedule
  pub sum : f.sum ≡ record { 0 = biased_total (map (averages_of s) h.good) }
  pub range : All InRange (map (averages_of s) h.good)
  pub up : f.up ≡ true
  pub down : f.down ≡ true
  pub judged : All (JudgedAs s) h.deliveries

abbrev port_sum : ℕ → List Call → Quanta
port_sum i good = record { 0 = sum (map (port_word i) good) }

abbrev Below : ℕ → Type 0
Below w = w < 2147483648

pub record TemperatureHeld (s : List ℕ) (h : History) (t : Temperature) : Type 0 where
  pub going : Going (plan_of temperatures s) h t.schedule
  pub sums :
      t.sums ≡ port_sum 0 h.good ∷ port_sum 1 h.good ∷ port_sum 2 h.good ∷ port_sum 3 h.good ∷ []
  pub below : (i : ℕ) → All Below (map (port_word i) h.good)
  pub judged : All (JudgedAs s) h.deliveries

abbrev pub KindHeld : Kind → List ℕ → History → Model → Type 0
KindHeld differences s h m = FlightHeld s h m.flight
KindHeld temperatures s h m = TemperatureHeld s h m.temperature

-- one more at a list's end
total-more :
    (good : List Averages) (a : Averages) →
    biased_total (good ++ (a ∷ [])) ≡ biased_total good + (biased (record { 0 = a.up }) (record { 0 = a.down })).0
unfolding biased_total
total-more [] a = omega arith
total-more (b ∷ good) a = omega (arith, total-more good a)

sum_more : (ws : List ℕ) (w : ℕ) → sum (ws ++ (w ∷ [])) ≡ sum ws + w
unfolding sum
sum_more [] w = omega arith
sum_more (v ∷ ws) w = omega (arith, sum_more ws w)

port-more : (i : ℕ) (good : List Call) (c : Call) → port_sum i (good ++ (c ∷ [])) ≡ plus (port_sum i good) (port_word i c)
port-more i good c = rw (map-append, sum_more)

below_at : (ws : List ℕ) (i : ℕ) → All Below ws → Below (get_or ws i 0)
below_at [] i b = omega arith
below_at (w ∷ ws) zero b = b.0
below_at (w ∷ ws) (suc i) b = below_at ws i b.1

-- no word of a list is late
in-time : (s ws : List ℕ) → (any_from (late_from (timeout s)) ws ≡ false) ↔ InTime s ws
unfolding late_from timeout
in-time s ws = (
  λ e i h.
      by-ltb (get_or ws i 0) (min (512 * 2 ^ (word_of s 0x39 % 8) * 65536) 2147483648) (λ l _. l)
      (λ l _.
      let t = (from-means (late_from (timeout s)) ws).1 (i, h, l) in
      let z : ◌≡◌ {A = ℕ} 0 1 = cc in
      absurd (omega arith)),
  λ h.
      refuted (any_from (late_from (timeout s)) ws)
      (λ e. let p = (from-means (late_from (timeout s)) ws).0 e in omega (arith, h p.0 p.1, p.2)),
)

-- with both directions measured, both lists have H words
same-as : (hits given : ℕ) → same_count true hits given ≡ true → given ≡ hits
unfolding same_count
same-as hits given e = eqb-true given hits e

counted-both : (a b : Bool) → negate (both a b) ≡ false → (a ≡ true) × (b ≡ true)
counted-both true true e = (refl, refl)
counted-both true false e = (refl, cc)
counted-both false b e = (cc, cc)

both-counted :
    (f : Flight) (hits u d : ℕ) →
    f.up ≡ true →
    f.down ≡ true →
    flight_miscounted f hits u d ≡ false →
    (u ≡ hits) × (d ≡ hits)
unfolding flight_miscounted
both-counted f hits u d a b e =
    let (p, q) = counted-both (same_count true hits u) (same_count true hits d) (rw (a, b) at e) in
    (same-as hits u p, same-as hits d q)

-- What the good deliveries of an event, or of its current group, sum up to.
record FlightTold (s : List ℕ) (good : List Call) (total : Quanta) : Type 0 where
  sum : total ≡ record { 0 = biased_total (map (averages_of s) good) }
  range : All InRange (map (averages_of s) good)

module _ (s : List ℕ) (h : History) (f : Flight) (i : FlightHeld s h f) where
  -- a group's first start leaves none of them
  flight-told :
      FlightTold s (note_tick (plan_of differences s) (begins f.schedule) (fails f.schedule) h).good (sum_after f)
  unfolding note_tick sum_after biased_total
  flight-told =
      rw (group-told (plan_of differences s) h f.schedule i.going)
      (by-test (begins_group f.schedule)
      (λ e. rw e (record { sum = refl; range = tt }))
      (λ e. rw e (record { sum = i.sum; range = i.range })))

  flight-ticks : FlightHeld s (note_tick (plan_of differences s) (begins f.schedule) (fails f.schedule) h) (flight_after f)
  unfolding flight_after flight_ticked failed_flight note_tick
  flight-ticks =
      let k : Schedule = f.schedule in
      let g = going-tick (plan_of differences s) h k i.going in
      picked (FlightHeld s (note_tick (plan_of differences s) (begins k) (fails k) h)) (fails k)
      (λ _. record { going = g; sum = flight-told.sum; range = flight-told.range; up = i.up; down = i.down; judged = i.judged })
      (λ _. record { going = g; sum = flight-told.sum; range = flight-told.range; up = i.up; down = i.down; judged = i.judged })

  flight-reads : (a : List ℕ) → FlightHeld s (note_read a h) f
  unfolding note_read
  flight-reads a =
      record { going = going-read _ h f.schedule i.going a; sum = i.sum; range = i.range; up = i.up; down = i.down; judged = i.judged }

module _ (m : Model) (h : History) (i : FlightHeld m.setup h m.flight) where
  abbrev flight_plan : Plan
  flight_plan = plan_of differences m.setup

  -- an accepted delivery has H words up and down, and is good exactly when none of them is late
  flight-judged :
      (u d : List ℕ) (a : Answer) →
      NoneHolds m (flight u d) →
      values_in a ≡ flag (negate (any_late m u d)) ∷ [] →
      All (JudgedAs m.setup) (note_delivery flight_plan (record { call = flight u d; answer = a }) h).deliveries
  unfolding note_delivery miscounted any_late
  flight-judged u d a n =
      let s : List ℕ = m.setup in
      let (cu, cd) = both-counted m.flight (hit_count s) (length u) (length d) i.up i.down n.row11 in
      by-test (any_late m u d)
      (λ l. rw l
      (λ e. all_append (JudgedAs s) h.deliveries _ i.judged
      (cu, cd, rw e (λ v. let z : ◌≡◌ {A = ℕ} 0 1 = cc in absurd (omega arith), λ w. let t : false ≡ true = rw ((in-time s u).1 w.0, (in-time s d).1 w.1) at l in absurd (false≢true t)))))
      (λ l. rw l
      (λ e. let (lu, ld) = neither _ _ l in
      all_append (JudgedAs s) h.deliveries _ i.judged
      (cu, cd, rw e (λ v. ((in-time s u).0 lu, (in-time s d).0 ld), λ w. refl))))

  pub flight-fails :
      (u d : List ℕ) →
      NoneHolds m (flight u d) →
      any_late m u d ≡ true →
      FlightHeld m.setup (note_delivery flight_plan (record { call = flight u d; answer = Failed }) h)
      (failed_flight m.flight (settle m.flight.schedule false))
  unfolding failed_flight note_delivery values_in not_awaited
  flight-fails u d n l =
      let k : Schedule = m.flight.schedule in
      let e : Entry = record { call = flight u d; answer = Failed } in
      record {
        going = going-settles _ h k i.going e (left-some k n.row10);
        sum = i.sum;
        range = i.range;
        up = i.up;
        down = i.down;
        judged = flight-judged u d Failed n (rw l);
      }

  pub flight-adds :
      (u d : List ℕ) →
      NoneHolds m (flight u d) →
      any_late m u d ≡ false →
      FlightHeld m.setup (note_delivery flight_plan (record { call = flight u d; answer = Good }) h)
      (good_flight m.flight (hit_count m.setup) (six_words u) (six_words d))
  unfolding good_flight good_sum average averages_of note_delivery values_in not_awaited miscounted
  flight-adds u d n l =
      let k : Schedule = m.flight.schedule in
      let e : Entry = record { call = flight u d; answer = Good } in
      let w = left-some k n.row10 in
      let hits : ℕ = hit_count m.setup in
      let b = hits-bounds m.setup in
      let c = hits-counted m.flight hits (length u) (length d) n.row11 in
      let tu = six-total u (omega arith) in
      let td = six-total d (omega arith) in
      let r = rw (tu, td) at (hits-below m u d n.row11 l) in
      record {
        going = going-settles _ h k i.going e w;
        sum =
            rw (lt-ltb k.settled k.planned (unsettled _ h k i.going w), tu, td, i.sum, map-append, total-more);
        range =
            rw map-append
            (all_append InRange (map (averages_of m.setup) h.good) (averages_of m.setup (flight u d)) i.range
            (quotient-below (sum u) hits 2147483648 r.0, quotient-below (sum d) hits 2147483648 r.1));
        up = i.up;
        down = i.down;
        judged = flight-judged u d Good n (rw l);
      }

record PortsTold (s : List ℕ) (good : List Call) (totals : List Quanta) : Type 0 where
  sums : totals ≡ port_sum 0 good ∷ port_sum 1 good ∷ port_sum 2 good ∷ port_sum 3 good ∷ []
  below : (i : ℕ) → All Below (map (port_word i) good)

module _ (s : List ℕ) (h : History) (f : Temperature) (i : TemperatureHeld s h f) where
  ports-told :
      PortsTold s (note_tick (plan_of temperatures s) (begins f.schedule) (fails f.schedule) h).good (sums_after f)
  unfolding note_tick sums_after sum
  ports-told =
      rw (group-told (plan_of temperatures s) h f.schedule i.going)
      (by-test (begins_group f.schedule)
      (λ e. rw e (record { sums = refl; below = λ _. tt }))
      (λ e. rw e (record { sums = i.sums; below = i.below })))

  ports-tick :
      TemperatureHeld s (note_tick (plan_of temperatures s) (begins f.schedule) (fails f.schedule) h) (temperature_after f)
  unfolding temperature_after note_tick
  ports-tick =
      let k : Schedule = f.schedule in
      let g = going-tick (plan_of temperatures s) h k i.going in
      picked (TemperatureHeld s (note_tick (plan_of temperatures s) (begins k) (fails k) h)) (fails k)
      (λ _. record { going = g; sums = ports-told.sums; below = ports-told.below; judged = i.judged })
      (λ _. record { going = g; sums = ports-told.sums; below = ports-told.below; judged = i.judged })

  ports-read : (a : List ℕ) → TemperatureHeld s (note_read a h) f
  unfolding note_read
  ports-read a = record { going = going-read _ h f.schedule i.going a; sums = i.sums; below = i.below; judged = i.judged }

module _ (m : Model) (h : History) (i : TemperatureHeld m.setup h m.temperature) where
  abbrev port_plan : Plan
  port_plan = plan_of temperatures m.setup

  ports-judged :
      (w : List ℕ) (a : Answer) →
      NoneHolds m (temperature w) →
      values_in a ≡ flag (negate (port_fault m w)) ∷ [] →
      All (JudgedAs m.setup) (note_delivery port_plan (record { call = temperature w; answer = a }) h).deliveries
  unfolding note_delivery miscounted port_fault open_from port_cycle
  ports-judged w a n =
      let (fits, whole) = whole-means (open_from (port_cycle m.setup)) w in
      let four = eqb-true (length w) 4 (negated (eqb (length w) 4) n.row11) in
      by-test (port_fault m w)
      (λ l. rw l
      (λ e. all_append (JudgedAs m.setup) h.deliveries _ i.judged
      (four, rw e (λ v. let z : ◌≡◌ {A = ℕ} 0 1 = cc in absurd (omega arith), λ g. let t : false ≡ true = rw (whole g) at l in absurd (false≢true t)))))
      (λ l. rw l
      (λ e. all_append (JudgedAs m.setup) h.deliveries _ i.judged (four, rw e (λ v. fits l, λ g. refl))))

  pub ports-fail :
      (w ports : List ℕ) →
      NoneHolds m (temperature w) →
      port_fault m w ≡ true →
      TemperatureHeld m.setup (note_delivery port_plan (record { call = temperature w; answer = Failed }) h)
      (record { schedule = settle m.temperature.schedule false; sums = m.temperature.sums; ports = ports })
  unfolding note_delivery values_in not_awaited
  ports-fail w ports n l =
      let k : Schedule = m.temperature.schedule in
      let e : Entry = record { call = temperature w; answer = Failed } in
      record {
        going = going-settles _ h k i.going e (left-some k n.row10);
        sums = i.sums;
        below = i.below;
        judged = ports-judged w Failed n (rw l);
      }

  pub ports-add :
      (w : List ℕ) →
      NoneHolds m (temperature w) →
      port_fault m w ≡ false →
      TemperatureHeld m.setup (note_delivery port_plan (record { call = temperature w; answer = Good }) h)
      (record {
        schedule = settle m.temperature.schedule true;
        sums = good_sums m.temperature (four_words w);
        ports = four_words w;
      })
  unfolding good_sums plus_each port_word note_delivery values_in not_awaited miscounted
  ports-add w n l =
      let k : Schedule = m.temperature.schedule in
      let e : Entry = record { call = temperature w; answer = Good } in
      let p = Sound.ports-good m w n.row11 l in
      let a = left-some k n.row10 in
      record {
        going = going-settles _ h k i.going e a;
        sums =
            rw (
              lt-ltb k.settled k.planned (unsettled _ h k i.going a),
              p.whole,
              i.sums,
              port-more 0 h.good (temperature w),
              port-more 1 h.good (temperature w),
              port-more 2 h.good (temperature w),
              port-more 3 h.good (temperature w),
            );
        below =
            λ j.
            rw map-append
            (all_append Below (map (port_word j) h.good) (get_or w j 0) (i.below j) (below_at w j p.each));
        judged = ports-judged w Good n (rw l);
      }

-- Of either kind: its plan, a tick, a read, and a delivery.
pub kind-going : (k : Kind) (s : List ℕ) (h : History) (m : Model) → KindHeld k s h m → Going (plan_of k s) h (schedule_of k m)
kind-going differences s h m i = i.going
kind-going temperatures s h m i = i.going

pub kind-tick :
    (k : Kind) (s : List ℕ) (h : History) (m : Model) →
    KindHeld k s h m →
    KindHeld k s (note_tick (plan_of k s) (begins (schedule_of k m)) (fails (schedule_of k m)) h) (tick_model m)
unfolding tick_model
kind-tick differences s h m i = flight-ticks s h m.flight i
kind-tick temperatures s h m i = ports-tick s h m.temperature i

pub kind-read :
    (k : Kind) (s : List ℕ) (h : History) (m : Model) (f : List ℕ) (t : Status) →
    KindHeld k s h m →
    KindHeld k s (note_read f h) (with_status m t)
kind-read differences s h m f t i = flight-reads s h m.flight i f
kind-read temperatures s h m f t i = ports-read s h m.temperature i f

-- "The averages are what E5h, E6h and F0h to F7h hold."
difference-average :
    (s : List ℕ) (h : History) (f : Flight) →
    FlightHeld s h f →
    difference_mean f.sum f.schedule.good ≡ difference_bits (mean_averages (map (averages_of s) h.good))
difference-average s h f i =
    rw (i.sum, i.going.counted.good, ← (length-map h.good (averages_of s)))
    (mean-word (map (averages_of s) h.good) i.range)

port-average :
    (s : List ℕ) (h : History) (t : Temperature) (i : ℕ) →
    TemperatureHeld s h t →
    get_or t.sums i no_quanta ≡ port_sum i h.good →
    port_mean (get_or t.sums i no_quanta) t.schedule.good ≡ floor_mean_words (map (port_word i) h.good)
port-average s h t i j e =
    rw (e, j.going.counted.good, ← (length-map h.good (port_word i)))
    (port-mean-words (map (port_word i) h.good) (j.below i))

pub held-claim : (k : Kind) (s : List ℕ) (h : History) (m : Model) → is_sound m ≡ true → KindHeld k s h m → KindClaim k s h m
unfolding register_word flight_word temperature_word half
held-claim differences s h m v i =
    let a = difference-average s h m.flight i in
    record {
      starts = all-reached _ h m.flight.schedule i.going;
      group = in_group _ h m.flight.schedule i.going;
      balance = rw (now-means differences m v) (balanced _ h m.flight.schedule i.going);
      awaited = now-any differences m v;
      timely = i.going.counted.timely;
      recent = rw (now-means differences m v) (recent _ h m.flight.schedule i.going);
      judged = i.judged;
      count = i.going.counted.good;
      averages = record { high = ap (λ w. w / 65536) a; low = ap (λ w. w % 65536) a };
    }
held-claim temperatures s h m v i =
    let a = port-average s h m.temperature 0 i (ap (λ l. get_or l 0 no_quanta) i.sums) in
    let b = port-average s h m.temperature 1 i (ap (λ l. get_or l 1 no_quanta) i.sums) in
    let c = port-average s h m.temperature 2 i (ap (λ l. get_or l 2 no_quanta) i.sums) in
    let d = port-average s h m.temperature 3 i (ap (λ l. get_or l 3 no_quanta) i.sums) in
    record {
      starts = all-reached _ h m.temperature.schedule i.going;
      group = in_group _ h m.temperature.schedule i.going;
      balance = rw (now-means temperatures m v) (balanced _ h m.temperature.schedule i.going);
      awaited = now-any temperatures m v;
      timely = i.going.counted.timely;
      recent = rw (now-means temperatures m v) (recent _ h m.temperature.schedule i.going);
      judged = i.judged;
      count = i.going.counted.good;
      averages = (
        record { high = ap (λ w. w / 65536) a; low = ap (λ w. w % 65536) a },
        record { high = ap (λ w. w / 65536) b; low = ap (λ w. w % 65536) b },
        record { high = ap (λ w. w / 65536) c; low = ap (λ w. w % 65536) c },
        record { high = ap (λ w. w / 65536) d; low = ap (λ w. w % 65536) d },
      );
    }
