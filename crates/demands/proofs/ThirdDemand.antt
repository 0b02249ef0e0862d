-- The third demand, over every list of calls.
use Prim.Native.Nat.{ℕ, zero, suc, ◌+◌, ◌*◌, ◌/◌, ◌%◌, ◌≤◌, ◌<◌}
use native.Mathlib.Nat.{zero-add}
use native.Mathlib.Omega.{arith}
use mathlib.Core.Path.{◌≡◌, refl, ap, sym, subst, ◌∙◌}
use mathlib.Core.Bool.{true, false}
use mathlib.Core.List.{List, [], ◌∷◌}
use mathlib.Core.Logic.{◌⊎◌, inl, inr, ⊎_elim}
use lib.Dec.{ltb, leb, eqb}
use borrow.Author.Tests.{leb-true, le-leb, lt-ltb, le-ltb}
use Rattle.unit.specs.Choice.{pick}
use Rattle.unit.proofs.Joined.{both_true, neither}
use Rattle.unit.proofs.Cases.{by-test, by-ltb, by_eqb}
use Rattle.calendar.specs.declared.Clock.{Clock}
use Rattle.calendar.specs.Calendar.{clock_valid, tick_clock}
use Rattle.calendar.specs.Moment.{century, time_ticks, moment}
use Rattle.calendar.specs.Bounds.{after_ticks}
use Rattle.calendar.specs.Words.{clock_from}
use Rattle.calendar.proofs.Laws.{bounds, after-moment, after-weekday, after-form}
use Rattle.calendar.proofs.RoundTrip.{round_trip}
use Rattle.calendar.proofs.Places.{seconds-shown}
use Rattle.setup.specs.Setup.{clock_stands, event_continuous, each_interrupt, difference_period, difference_count, temperature_period, temperature_count}
use Rattle.setup.proofs.Laws.{difference-period-bounds, difference-count-bounds, temperature-period-bounds, temperature-count-bounds}
use Rattle.frame.specs.Frame.{is_command, is_write, not_whole, past_end}
use Rattle.hit.specs.Mean.{All, sum}
use Rattle.hit.specs.Biased.{biased_total}
use Rattle.device.specs.declared.Schedule.{Schedule}
use Rattle.device.specs.declared.Model.{Model}
use Rattle.device.specs.declared.Reply.{Reply}
use Rattle.device.specs.declared.Answer.{Answer}
use Rattle.device.specs.Event.{is_awaited, in_event}
use Rattle.device.specs.Model.{is_sound, kind_busy, is_busy, fresh_model}
use Rattle.device.specs.Registers.{calendar_word, register_word}
use Rattle.device.specs.Write.{write_invalid}
use Rattle.device.specs.Bus.{must_be_idle, command_busy}
use Rattle.device.specs.Bus.{starts_flight, starts_temperature, is_event, event_side_unset, command_unset, flight_event, temperature_event, event_flight, event_temperature, started_event, run_model}
use Rattle.device.specs.Call.{Call, transaction, tick, flight, temperature, stretch, on_time, no_frame, not_carried, wrong_length, past_registers, short_output}
use Rattle.device.specs.Call.{while_busy, supply_off, unreachable, unerased, bad_calendar, not_initialised, bad_setup, not_awaited, miscounted, too_long}
use Rattle.device.specs.Call.{table, first_of, Verdict, accepted, refused, verdict}
use Rattle.device.specs.Reply.{number_in, values_in, accepted_answer, accepted_model, reply_by, reply}
use Rattle.device.specs.Parts.{accept}
use Rattle.device.specs.History.{after, Entry, log, Kind, differences, temperatures}
use Rattle.demands.specs.EventHistory.{is_refusal, is_transaction, only_reads, Plan, plan_of, runs, History}
use Rattle.demands.specs.EventHistory.{settled_of, at_acceptance, note_tick, note_ticks, note_delivery, note_read, note_accepted, note, history}
use Rattle.demands.specs.Claim.{ticks_moved, tick_count, StillBusy, NotBusy, command, told_of, EventClaim, ThirdDemand}
use Rattle.device.proofs.Table.{none-holds, number-refused, number-accepted}
use Rattle.device.proofs.Sound.{bounds_of, fresh-sound, keeps-sound}
use Rattle.device.proofs.Stretch.{schedule_of}
use Rattle.demands.proofs.StartMeaning.{idle_ended, idle-rests, not-awaiting}
use Rattle.demands.proofs.EventSchedule.{Going, going_start}
use Rattle.demands.proofs.CallSteps.{Step, refusal, reading, ticking, flight-failed, flight-good, ports-failed, ports-good, stretching, stepped, setup-kept, clock-step}
use Rattle.demands.proofs.EventSums.{KindHeld, kind-going, held-claim}
use Rattle.demands.proofs.Others.{Quiet, OtherHeld, other-claim}
use Rattle.demands.proofs.EventBits.{BitsHeld, status-bits}
use Rattle.demands.proofs.EventHeld.{Held, all_held}
use Rattle.demands.proofs.SetupTold.{setup-told}
use Rattle.refusal.specs.declared.Refusal.{Refusal}
use Rattle.refusal.specs.Number.{number}

after-ticks : (a b : ℕ) (c : Clock) → after_ticks a (after_ticks b c) ≡ after_ticks (b + a) c
unfolding after_ticks
after-ticks zero b c = let e : b + 0 ≡ b = omega arith in rw e
after-ticks (suc a) b c = let e : b + suc a ≡ suc (b + a) = omega arith in rw e (ap tick_clock (after-ticks a b c))

all-ticks :
    (cs : List Call) (m : Model) →
    clock_stands m.setup ≡ false →
    is_sound m ≡ true →
    only_reads (log m cs) ≡ true →
    (after m cs).clock ≡ after_ticks (tick_count (log m cs)) m.clock
unfolding log only_reads after tick_count after_ticks
all-ticks [] m e v p = refl
all-ticks (c ∷ cs) m e v p =
    let (now, rest) = both_true _ _ p in
    let t = stepped m c v now in
    let n : ℕ = tick_count (log (reply m c).model cs) in
    all-ticks cs (reply m c).model (ap clock_stands (setup-kept m t) ∙ e) (keeps-sound m c v) rest ∙
    ap (after_ticks n) (clock-step m t e) ∙
    after-ticks n (ticks_moved (record { call = c; answer = (reply m c).answer })) m.clock

pub sound-after : (cs : List Call) (m : Model) → is_sound m ≡ true → is_sound (after m cs) ≡ true
unfolding after
sound-after [] m v = v
sound-after (c ∷ cs) m v = sound-after cs (reply m c).model (keeps-sound m c v)

-- Acceptance: an answer without a number.
accepted-by : (m : Model) (c : Call) → number_in (reply m c).answer ≡ [] → verdict m c ≡ accepted
accepted-by m c e = go (verdict m c) refl
  where
    go : (v : Verdict) → verdict m c ≡ v → verdict m c ≡ accepted
    go accepted f = f
    go (refused n) f =
        let t : number n ∷ [] ≡ [] = sym (number-refused m c n f) ∙ e in
        let z : ◌≡◌ {A = ℕ} 0 1 = cc in
        absurd (omega arith)

by-event : (G : ℕ → Type 0) (op : ℕ) → is_event op ≡ true → G 7 → G 8 → G 9 → G op
unfolding is_event
by-event G op e x y z =
    let (l, u) = both_true (leb 7 op) (leb op 9) e in
    by_eqb op 7 (λ e _. rw e x)
    (λ n _. by_eqb op 8 (λ e _. rw e y)
    (λ k _. let q : op ≡ 9 = omega (arith, leb-true 7 op l, leb-true op 9 u) in rw q z))

accepted-event :
    (m : Model) (op : ℕ) (o x : List ℕ) →
    is_event op ≡ true →
    verdict m (command op o x) ≡ accepted →
    reply m (command op o x) ≡ accept (starts_flight op) (starts_temperature op) (started_event m op)
unfolding reply reply_by accepted_answer accepted_model is_command run_model is_event
accepted-event m op o x e =
    by-event
    (λ op. verdict m (command op o x) ≡ accepted → reply m (command op o x) ≡ accept (starts_flight op) (starts_temperature op) (started_event m op))
    op e (λ v. rw v) (λ v. rw v) (λ v. rw v)

event-command : (op : ℕ) → is_event op ≡ true → is_command op ≡ true
unfolding is_command
event-command op e = by-event (λ op. is_command op ≡ true) op e refl refl refl

-- an event command is refused while the clock stands
clock-runs :
    (m : Model) (op : ℕ) (o x : List ℕ) →
    is_event op ≡ true →
    verdict m (command op o x) ≡ accepted →
    clock_stands m.setup ≡ false
unfolding bad_setup command_unset event_side_unset
clock-runs m op o x e v =
    let u = rw (event-command op e, e) at (none-holds m (command op o x) v).row9 in
    (neither (clock_stands m.setup) _ u).0

-- the kinds that 01 names are the kinds that the command starts
runs-flight : (op : ℕ) → runs differences op ≡ true → starts_flight op ≡ true
unfolding runs starts_flight
runs-flight op r =
    by-test (ltb op 3) (λ a. rw a)
    (λ a. by-test (eqb op 7) (λ b. rw (a, b)) (λ b. rw (a, b, rw b at r)))

runs-temperature : (op : ℕ) → runs temperatures op ≡ true → starts_temperature op ≡ true
unfolding runs starts_temperature
runs-temperature op r =
    by-test (eqb op 3) (λ a. rw a)
    (λ a. by-test (eqb op 7) (λ b. rw (a, b)) (λ b. rw (a, b, rw b at r)))

-- at acceptance
kind-start :
    (k : Kind) (m : Model) (op : ℕ) →
    runs k op ≡ true →
    KindHeld k m.setup (at_acceptance k m (accept (starts_flight op) (starts_temperature op) (started_event m op)).answer) (started_event m op)
unfolding at_acceptance values_in started_event event_flight event_temperature flight_event temperature_event biased_total sum
kind-start differences m op r =
    rw (runs-flight op r)
    (record {
      going =
          going_start (difference_period m.setup) (difference_count m.setup) (event_continuous m.setup) (each_interrupt m.setup) _ _
          (difference-period-bounds m.setup).0 (difference-count-bounds m.setup).0;
      sum = refl;
      range = tt;
      up = refl;
      down = refl;
      judged = tt;
    })
kind-start temperatures m op r =
    rw (runs-temperature op r)
    (record {
      going =
          going_start (temperature_period m.setup) (temperature_count m.setup) (event_continuous m.setup) (each_interrupt m.setup) _ _
          (omega (arith, temperature-period-bounds m.setup)) (temperature-count-bounds m.setup).0;
      sums = refl;
      below = λ i. tt;
      judged = tt;
    })

-- each tick of the list counts, and each of an accepted stretch
noted-ticks : (p : Plan) (n started failed : ℕ) (h : History) → (note_ticks p n started failed h).ticks ≡ h.ticks + n
unfolding note_ticks note_tick
noted-ticks p zero started failed h = omega arith
noted-ticks p (suc n) started failed h = omega (arith, noted-ticks p n started failed h)

accepted-ticks :
    (k : Kind) (p : Plan) (c : Call) (a : Answer) (h : History) →
    (note_accepted k p c a h).ticks ≡ h.ticks + on_time c 0 1 (λ n. n)
unfolding note_accepted note_delivery note_read
accepted-ticks k p (transaction f o x) a h = omega arith
accepted-ticks k p tick a h = noted-ticks p 1 _ _ h
accepted-ticks differences p (flight u d) a h = omega arith
accepted-ticks temperatures p (flight u d) a h = omega arith
accepted-ticks differences p (temperature w) a h = omega arith
accepted-ticks temperatures p (temperature w) a h = omega arith
accepted-ticks k p (stretch n) a h = noted-ticks p n _ _ h

note-ticks : (k : Kind) (p : Plan) (e : Entry) (h : History) → (note k p e h).ticks ≡ h.ticks + ticks_moved e
unfolding note ticks_moved
note-ticks k p e h =
    by-test (is_refusal e.answer) (λ r. rw r (omega arith)) (λ r. rw r (accepted-ticks k p e.call e.answer h))

all-counted :
    (k : Kind) (p : Plan) (cs : List Call) (m : Model) (h : History) →
    (history k p (log m cs) h).ticks ≡ h.ticks + tick_count (log m cs)
unfolding log history tick_count
all-counted k p [] m h = omega arith
all-counted k p (c ∷ cs) m h =
    let e : Entry = record { call = c; answer = (reply m c).answer } in
    all-counted k p cs (reply m c).model (note k p e h) ∙ rw (note-ticks k p e h) (omega arith)

event-codes : (op : ℕ) → 0x07 ≤ op → op ≤ 0x09 → is_event op ≡ true
unfolding is_event
event-codes op a b = rw (le-leb 7 op a, le-leb op 9 b)

-- what B0h to B3h read of a sound model is its clock
reads-clock :
    (m : Model) →
    is_sound m ≡ true →
    clock_from (register_word m 0xB0) (register_word m 0xB1) (register_word m 0xB2) (register_word m 0xB3) m.clock.ticks
    ≡ m.clock
unfolding register_word calendar_word
reads-clock m s = round_trip m.clock (bounds_of m s).clock

-- a continuous event does not end
some-kind : (op : ℕ) → is_event op ≡ true → (runs differences op ≡ true) ⊎ (runs temperatures op ≡ true)
unfolding runs
some-kind op e =
    by-event (λ op. (runs differences op ≡ true) ⊎ (runs temperatures op ≡ true)) op e (inl refl) (inl refl) (inr refl)

-- a kind that is busy, and why an event's is: it is continuous, or some of it are to settle
kind-busy : (k : Kind) (m : Model) → kind_busy (schedule_of k m) ≡ true → is_busy m ≡ true
unfolding is_busy
kind-busy differences m e = rw e
kind-busy temperatures m e = by-test (kind_busy m.flight.schedule) (λ f. rw f) (λ f. rw (f, e))

going-unended : (p : Plan) (h : History) (k : Schedule) → p.continuous ≡ true → Going p h k → kind_busy k ≡ true
unfolding kind_busy in_event is_awaited
going-unended p h k c g = rw (g.continuous, c) (by-test (is_awaited k) (λ e. rw e) (λ e. rw e))

-- all that a write of one word may meet: number 6 where the model is busy, else 7 or none
write-verdict :
    (m : Model) (a high low : ℕ) (o x : List ℕ) →
    is_sound m ≡ true →
    0x30 ≤ a →
    a ≤ 0x43 →
    verdict m (transaction (a ∷ high ∷ low ∷ []) o x)
    ≡ pick (is_busy m) (refused Refusal.Busy) (pick (write_invalid (high ∷ low ∷ []) a 1 m) (refused Refusal.Calendar) accepted)
unfolding verdict first_of table no_frame not_carried wrong_length past_registers short_output while_busy supply_off unreachable unerased bad_calendar not_initialised bad_setup not_awaited miscounted too_long is_command is_write not_whole past_end
write-verdict m a high low o x s from to =
    rw (s, lt-ltb 0x0D a (omega arith), le-leb 0x30 a from, le-leb a 0x43 to, le-ltb 0x44 (a + 1) (omega arith))

write-busy : (m : Model) → is_sound m ≡ true → is_busy m ≡ true → StillBusy m
write-busy m s b a high low o x from to =
    number-refused m _ Refusal.Busy (rw b at (write-verdict m a high low o x s from to))

pub write-idle : (m : Model) → is_sound m ≡ true → is_busy m ≡ false → NotBusy m
write-idle m s b a high low o x from to =
    let v = rw b at (write-verdict m a high low o x s from to) in
    by-test (write_invalid (high ∷ low ∷ []) a 1 m)
    (λ e. rw (number-refused m _ Refusal.Calendar (rw e at v)) (λ t. let z : ◌≡◌ {A = ℕ} 6 7 = cc in omega arith))
    (λ e. rw (number-accepted m _ (rw e at v)) (λ t. let z : ◌≡◌ {A = ℕ} 0 1 = cc in omega arith))

-- an event runs while fewer than N are settled, and no longer
going-running : (p : Plan) (h : History) (k : Schedule) → settled_of h < p.count → Going p h k → kind_busy k ≡ true
unfolding kind_busy in_event
going-running p h k l g =
    rw (lt-ltb k.settled k.planned (omega (arith, g.counted.all, g.planned)))
    (by-test (is_awaited k) (λ e. rw e) (λ e. rw e (by-test k.continuous (λ c. rw c) (λ c. rw c))))

going-ended :
    (p : Plan) (h : History) (k : Schedule) → p.continuous ≡ false → settled_of h ≡ p.count → Going p h k → kind_busy k ≡ false
unfolding kind_busy in_event is_awaited
going-ended p h k c l g =
    let s : k.planned ≤ k.settled = omega (arith, g.counted.all, g.planned) in
    rw (g.continuous, c, le-ltb k.settled k.planned s)
    (by-ltb 0 k.left.0 (λ a e. absurd (omega (arith, g.busy a, g.placed.most, g.planned))) (λ a e. rw e))

quiet-ended : (h : History) (k : Schedule) → Quiet h k → kind_busy k ≡ false
unfolding kind_busy in_event
quiet-ended h k i =
    rw (not-awaiting k i.left, i.ended.once, le-ltb k.settled k.planned i.ended.settled)

neither-busy :
    (m : Model) → kind_busy m.flight.schedule ≡ false → kind_busy m.temperature.schedule ≡ false → is_busy m ≡ false
unfolding is_busy
neither-busy m f t = rw (f, t)

-- A kind that is not run, at acceptance and over the list.
not-busy :
    (m : Model) (op : ℕ) (o x : List ℕ) → is_event op ≡ true → verdict m (command op o x) ≡ accepted → is_busy m ≡ false
unfolding while_busy command_busy must_be_idle is_command
not-busy m op o x e v =
    by-event (λ op. while_busy m (command op o x) ≡ false → is_busy m ≡ false) op e (λ r. r) (λ r. r) (λ r. r)
    (none-holds m (command op o x) v).row6

rests-flight : (op : ℕ) → is_event op ≡ true → runs differences op ≡ false → starts_flight op ≡ false
unfolding runs starts_flight
rests-flight op e = by-event (λ op. runs differences op ≡ false → starts_flight op ≡ false) op e (λ r. r) (λ r. r) (λ r. refl)

rests-temperature : (op : ℕ) → is_event op ≡ true → runs temperatures op ≡ false → starts_temperature op ≡ false
unfolding runs starts_temperature
rests-temperature op e =
    by-event (λ op. runs temperatures op ≡ false → starts_temperature op ≡ false) op e (λ r. r) (λ r. refl) (λ r. r)

other-start :
    (k : Kind) (m : Model) (op : ℕ) →
    is_event op ≡ true →
    is_sound m ≡ true →
    is_busy m ≡ false →
    runs k op ≡ false →
    OtherHeld k m (at_acceptance k m (accept (starts_flight op) (starts_temperature op) (started_event m op)).answer) (started_event m op)
unfolding at_acceptance values_in started_event event_flight event_temperature is_busy
other-start differences m op e s b r =
    let k : Schedule = m.flight.schedule in
    let i = (neither (kind_busy k) _ b).0 in
    rw (rests-flight op e r) (
      record {
        ended = idle_ended k (bounds_of m s).flight.schedule i;
        left = idle-rests k i;
        starts = refl;
        expiries = refl;
        deliveries = refl;
      },
      (refl, refl, refl, refl, refl),
    )
other-start temperatures m op e s b r =
    let k : Schedule = m.temperature.schedule in
    let i = (neither (kind_busy m.flight.schedule) _ b).1 in
    rw (rests-temperature op e r) (
      record {
        ended = idle_ended k (bounds_of m s).temperature.schedule i;
        left = idle-rests k i;
        starts = refl;
        expiries = refl;
        deliveries = refl;
      },
      (refl, refl, refl),
    )

-- No transaction of the list reports a start.
step-silent :
    (m : Model) {c : Call} {r : Reply} → Step m c r → is_transaction c ≡ true → sum (values_in r.answer) ≡ 0
unfolding values_in sum
step-silent m (refusal c n) e = refl
step-silent m (reading f o x s p) e = refl
step-silent m ticking e = cc
step-silent m (flight-failed u d n l) e = cc
step-silent m (flight-good u d n l) e = cc
step-silent m (ports-failed w n l) e = cc
step-silent m (ports-good w n l) e = cc
step-silent m (stretching n l) e = cc

all-silent :
    (cs : List Call) (m : Model) →
    is_sound m ≡ true →
    only_reads (log m cs) ≡ true →
    All (λ (e : Entry). is_transaction e.call ≡ true → sum (values_in e.answer) ≡ 0) (log m cs)
unfolding log only_reads
all-silent [] m v p = tt
all-silent (c ∷ cs) m v p =
    let (now, rest) = both_true _ _ p in
    (step-silent m (stepped m c v now), all-silent cs (reply m c).model (keeps-sound m c v) rest)

-- Tenths and hundredths: a second's ticks are those of the moment.
ticks-of : (c : Clock) (x : ℕ) → clock_valid c ≡ true → moment c ≡ x % century → c.ticks.0 ≡ x % 32768
unfolding moment time_ticks
ticks-of c x v e = let b = bounds c v in omega (arith, b.ticks)

hundredths-shown :
    (m : Model) (x : ℕ) →
    clock_valid m.clock ≡ true →
    moment m.clock ≡ x % century →
    let h : ℕ = x % 32768 * 100 / 32768 in
    register_word m 0xB0 / 256 ≡ h / 10 * 16 + h % 10
unfolding register_word calendar_word
hundredths-shown m x v e =
    let h : ℕ = x % 32768 * 100 / 32768 in
    let w : register_word m 0xB0 ≡ h / 10 * 4096 + h % 10 * 256 + m.clock.second / 10 * 16 + m.clock.second % 10 =
    rw (← ticks-of m.clock x v e) (seconds-shown m.clock v) in
    omega (arith, w, (bounds m.clock v).second)

-- The claim by the set-up that the model has.
event-claim :
    (m : Model) (op : ℕ) (o x : List ℕ) (later : List Call) →
    is_event op ≡ true →
    is_sound m ≡ true →
    let r : Reply = reply m (command op o x) in
    let es : List Entry = log r.model later in
    verdict m (command op o x) ≡ accepted →
    only_reads es ≡ true →
    EventClaim m.setup m op es (told_of m.setup m r es) (after r.model later)
unfolding started_event at_acceptance
event-claim m op o x later e s v p =
    let r : Reply = reply m (command op o x) in
    let n : Model = r.model in
    let told : Kind → History = told_of m.setup m r (log n later) in
    let k : is_sound n ≡ true = keeps-sound m (command op o x) s in
    let q = accepted-event m op o x e v in
    let h : (j : Kind) → Held j m m.setup (runs j op) (told j) (after n later) =
    λ j.
    all_held j m m.setup (runs j op) later n (at_acceptance j m r.answer) p
    (record {
      sound = k;
      setup = ap (λ (r : Reply). r.model.setup) q;
      kind = λ y. subst (λ (r : Reply). KindHeld j m.setup (at_acceptance j m r.answer) r.model) (sym q) (kind-start j m op y);
      other =
          λ y.
          subst (λ (r : Reply). OtherHeld j m (at_acceptance j m r.answer) r.model) (sym q)
          (other-start j m op e s (not-busy m op o x e v) y);
      bits =
          subst (λ (r : Reply). BitsHeld j (at_acceptance j m r.answer) r.model.status) (sym q)
          (record { evtmg = (status-bits j m).0; own = (status-bits j m).1 });
    }) in
    let z = (h differences).sound in
    let t : ℕ = tick_count (log n later) in
    let c : (after n later).clock ≡ after_ticks t m.clock =
    all-ticks later n (ap (λ (r : Reply). clock_stands r.model.setup) q ∙ clock-runs m op o x e v) k p ∙
    ap (λ (r : Reply). after_ticks t r.model.clock) q in
    let shown : moment (after n later).clock ≡ (moment m.clock + t) % century =
    ap moment c ∙ after-moment t m.clock (bounds_of m s).clock in
    let over : (j : Kind) → event_continuous m.setup ≡ false → ((i : Kind) → runs i op ≡ true → settled_of (told i) ≡ (plan_of i m.setup).count) → kind_busy (schedule_of j (after n later)) ≡ false =
    λ j d f.
    by-test (runs j op)
    (λ y. going-ended (plan_of j m.setup) (told j) _ d (f j y) (kind-going j m.setup (told j) (after n later) ((h j).kind y)))
    (λ y. quiet-ended (told j) _ ((h j).other y).0) in
    record {
      kinds = λ j y. held-claim j _ _ _ z ((h j).kind y);
      others = λ j y. other-claim j m _ _ z ((h j).other y);
      evtmg = λ j. (status-bits j (after n later)).0 ∙ sym (h j).bits.evtmg;
      own = λ j. (status-bits j (after n later)).1 ∙ sym (h j).bits.own;
      ticks = λ j. all-counted j (plan_of j m.setup) later n (at_acceptance j m r.answer) ∙ zero-add t;
      silent = all-silent later n k p;
      clock =
          record {
            valid = (bounds_of (after n later) z).clock;
            shown = shown;
            weekday = ap (λ (c : Clock). c.weekday) c ∙ after-weekday t m.clock (bounds_of m s).clock;
            form = ap (λ (c : Clock). c.twelve) c ∙ after-form t m.clock (bounds_of m s).clock;
            read = reads-clock (after n later) z;
            hundredths = hundredths-shown (after n later) (moment m.clock + t) (bounds_of (after n later) z).clock shown;
          };
      running = λ j y l. write-busy (after n later) z (kind-busy j (after n later) (going-running _ _ _ l (kind-going j _ _ (after n later) ((h j).kind y))));
      ended =
          λ d f.
          write-idle (after n later) z (neither-busy (after n later) (over differences d f) (over temperatures d f));
      unended =
          λ d.
          write-busy (after n later) z
          (⊎_elim (λ y. kind-busy differences (after n later) (going-unended _ _ _ d ((h differences).kind y).going))
          (λ y. kind-busy temperatures (after n later) (going-unended _ _ _ d ((h temperatures).kind y).going))
          (some-kind op e));
    }

pub third-demand : ThirdDemand
third-demand before op o x later from to v p =
    let m : Model = after fresh_model before in
    let r : Reply = reply m (command op o x) in
    let es : List Entry = log r.model later in
    subst (λ (s : List ℕ). EventClaim s m op es (told_of s m r es) (after r.model later)) (setup-told before)
    (event-claim m op o x later (event-codes op from to) (sound-after before fresh_model fresh-sound) (accepted-by m (command op o x) v) p)
