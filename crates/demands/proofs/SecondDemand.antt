-- The second demand: each part by the facts that stand in the files named after it.
use Prim.Native.Nat.{ℕ, zero, suc, ◌+◌, ◌-◌, ◌*◌, ◌/◌, ◌%◌, ◌≤◌, ◌<◌}
use native.Mathlib.Omega.{arith}
use mathlib.Core.Bool.{Bool, true, false}
use mathlib.Core.List.{List, [], ◌∷◌}
use mathlib.Core.Logic.{◌↔◌, ◌⊎◌, inl, inr, ⊎_elim}
use mathlib.Core.Path.{◌≡◌, refl, ap, sym, subst, ◌∙◌}
use lib.ListN.{length, get_or}
use borrow.Author.Tests.{ne_eqb}
use Rattle.unit.specs.Choice.{pick}
use Rattle.unit.proofs.Cases.{by-test}
use Rattle.calendar.specs.Calendar.{clock_valid}
use Rattle.calendar.proofs.Laws.{after-weekday}
use Rattle.calendar.proofs.Facts.{leap-months, common-months}
use Rattle.calendar.proofs.Places.{seconds-shown, full-time-shown, half-time-shown, date-shown, year-shown}
use Rattle.setup.specs.Setup.{word_of, hit_count, port_cycle, clock_stands}
use Rattle.setup.proofs.Laws.{hits-are, hits-bounds}
use Rattle.hit.specs.Limit.{open_from}
use Rattle.hit.specs.Difference.{difference_word}
use Rattle.hit.specs.Mean.{sum}
use Rattle.hit.specs.Words.{six_words}
use Rattle.hit.proofs.Limits.{quotient-below}
use Rattle.hit.proofs.Sum.{six-total}
use Rattle.hit.proofs.Meaning.{difference-means, bits-means, mean-floor, words-floor}
use Rattle.device.specs.declared.Model.{Model}
use Rattle.device.specs.declared.Reply.{Reply}
use Rattle.device.specs.declared.Answer.TheVariants.{Good, Failed}
use Rattle.device.specs.Model.{is_sound}
use Rattle.device.specs.Event.{fails}
use Rattle.device.specs.Registers.{register_word, calendar_word, flight_word}
use Rattle.device.specs.Bus.{run_model}
use Rattle.device.specs.Write.{write_model}
use Rattle.device.specs.Results.{failed_difference, failed_flight}
use Rattle.device.specs.Tick.{flight_ticked, flight_after, tick_model}
use Rattle.device.specs.Delivery.{good_flight_model, failed_flight_model}
use Rattle.device.specs.Call.{Call, transaction, flight, temperature, accepted, verdict, miscounted}
use Rattle.device.specs.Reply.{any_late, port_fault, accepted_answer, accepted_model, reply, reply_by, values_in}
use Rattle.device.specs.Question.{interrupt_pending}
use Rattle.device.specs.History.{differences, temperatures}
use Rattle.device.specs.Plain.{Holds, Whole}
use Rattle.demands.specs.Claim.{command}
use Rattle.demands.specs.Terms.{Accepts, Direction, upstream, downstream, by_direction, measured, results_at}
use Rattle.device.specs.Plain.{words_at, repeated, eosc_of}
use Rattle.demands.specs.SecondDemand.{ReadsClaim, WritesClaim, CalendarClaim, FailedClaim, FlightClaim, TemperatureClaim}
use Rattle.demands.specs.SecondDemand.{BusClaim, CountsClaim, CommandsClaim, ExpiryClaim, SecondDemand}
use Rattle.device.proofs.Table.{none-holds}
use Rattle.device.proofs.Sound.{hits-below}
use Rattle.device.proofs.RegisterMeaning.{fresh-reads, reset-reads, reads-zero, reads-setup, reads-status, reads-ups, reads-downs, reads-difference}
use Rattle.device.proofs.RegisterMeaning.{setup-written, setup-kept, word-means}
use Rattle.device.proofs.WriteMeaning.{ticks-set, ticks-kept, write-judged, write-reads}
use Rattle.device.proofs.ClockMeaning.{clock-stands, clock-moves}
use Rattle.device.proofs.Stretch.{clock-ticked}
use Rattle.device.proofs.StretchMeaning.{same_end}
use Rattle.device.proofs.CallMeaning.{count-means, flight-count, temperature-count}
use Rattle.device.proofs.DeliveryMeaning.{good-ups-kept, good-downs-kept, good-difference-kept, failed-ups-kept, failed-downs-kept, failed-difference-kept}
use Rattle.device.proofs.DeliveryMeaning.{good-ups, good-downs, good-difference, failed-ups, failed-downs, failed-difference, open-port, short-port, whole-port, good-words}
use Rattle.device.proofs.StatusMeaning.{status-means, interrupt-yes}
use Rattle.demands.proofs.StatusKept.{late-word, fails-told, told-sound, accepted-by, refused-by, bits-claim}
use Rattle.demands.proofs.StartMeaning.{halts-told, halts-drop, others_keep}
use Rattle.demands.proofs.CommandMeaning.{run-temperature, answers-starts, start-directions, start-keeps, flight-alone, clock-kept, zeroed, not-run, reset-drops}
use Rattle.device.proofs.BusMeaning.{carried-sorts, read-bytes, read-rest, read_keeps, write-leaves, write-output, command-leaves, command-output}
use Rattle.demands.proofs.ExpiryMeaning.{expired-ups, expired-downs, expired-difference, expired-ports}
use Rattle.demands.proofs.SingleMeaning.{single-claim}
use Rattle.demands.proofs.SoundMeaning.{halt-left-idle, reset-left-idle}
use Rattle.demands.proofs.Form.{form-kept}
use Rattle.demands.proofs.Stores.{only_store}
use Rattle.demands.proofs.Initialised.{initialised-until-reset}
use Rattle.refusal.specs.declared.Refusal.{Refusal}
use Rattle.refusal.specs.Number.{value_told}
use Rattle.std.specs.Prelude.{Result, Ok, Err}

reads : ReadsClaim
reads =
    record {
      fresh = fresh-reads;
      none = reads-zero;
      setup = reads-setup;
      places = refl;
      no_other = λ m. rw (reads-status m) (status-means m.status).others;
    }

bus : (m : Model) (f o x : List ℕ) → Accepts m (transaction f o x) → BusClaim m f o x
bus m f o x a =
    let v = accepted-by m (transaction f o x) a in
    record {
      read-bytes = read-bytes m f o x v;
      read-rest = read-rest m f o x v;
      read_keeps = read_keeps m f o x v;
      write = write-leaves m f o x v;
      command = command-leaves m f o x v;
      output-kept = ⊎_elim (write-output m f o x v) (command-output m f o x v);
    }

writes :
    (m : Model) (bytes : List ℕ) (op n : ℕ) → is_sound m ≡ true → length m.setup ≡ 16 → WritesClaim m bytes op n
unfolding write_model
writes m bytes op n s l =
    record {
      setup =
          λ a h i j k.
          reads-setup (write_model bytes op n m) a h i ∙ setup-written bytes op m.setup n a l h i j k ∙ word-means bytes (a - op);
      others =
          λ a h i o.
          reads-setup (write_model bytes op n m) a h i ∙ setup-kept bytes op m.setup n a h o ∙ sym (reads-setup m a h i);
      judged = λ w30 w31 w32 w33 w35 r q. write-judged bytes op n m s w30 w31 w32 w33 r w35 l q;
      calendar = λ w30 w31 w32 w33 r e. write-reads bytes op n m s w30 w31 w32 w33 r e;
      ticks = ticks-set bytes op n m;
      kept = ticks-kept bytes op n m;
    }

calendar : (m : Model) → clock_valid m.clock ≡ true → CalendarClaim m
unfolding register_word calendar_word clock_stands
calendar m v =
    record {
      seconds = seconds-shown m.clock v;
      time = full-time-shown m.clock v;
      half-days = half-time-shown m.clock v;
      date = date-shown m.clock v;
      year = year-shown m.clock v;
      moves = λ e n. clock-moves m v e n;
      weekday =
          λ e n.
          rw (clock-ticked n m (rw (ne_eqb (eosc_of m) 1 (omega arith)))) (after-weekday n m.clock v);
      stands = clock-stands m;
    }

counts : (m : Model) → is_sound m ≡ true → CountsClaim m
counts m s =
    record {
      flights =
          λ u d a.
          let (f, g) = refused-by m (flight u d) Refusal.WordCount in
          let (h, i) = flight-count m s u d a in
          rw (← hits-are m.setup) (λ e. h (f e), λ e. g (i e));
      temperatures =
          λ w a.
          let (f, g) = refused-by m (temperature w) Refusal.WordCount in
          let (h, i) = temperature-count m s w a in
          (λ e. h (f e), λ e. g (i e));
    }

-- What the registers of a direction, and TOF_DIFF, read is in its part of the model.
results_of : Direction → Model → List ℕ
results_of s m = by_direction s m.flight.ups m.flight.downs

results-read :
    (s : Direction) (m n : Model) →
    results_of s n ≡ results_of s m →
    words_at n (results_at s) 14 ≡ words_at m (results_at s) 14
unfolding register_word flight_word results_of
results-read upstream m n e = rw e
results-read downstream m n e = rw e

difference-read : (m n : Model) → n.flight.difference ≡ m.flight.difference → words_at n 0xE2 2 ≡ words_at m 0xE2 2
unfolding register_word flight_word
difference-read m n e = rw e

module _ (m : Model) (u d : List ℕ) where
  results-stay : (s : Direction) → measured s m ≡ false → results_of s (accepted_model m (flight u d)) ≡ results_of s m
  unfolding accepted_model good_flight_model results_of
  results-stay upstream k =
      by-test (any_late m u d) (λ e. rw e (failed-ups-kept m k))
      (λ e. rw e (good-ups-kept m.flight (hit_count m.setup) u d k))
  results-stay downstream k =
      by-test (any_late m u d) (λ e. rw e (failed-downs-kept m k))
      (λ e. rw e (good-downs-kept m.flight (hit_count m.setup) u d k))

  unmeasured : (s : Direction) → measured s m ≡ false → (m.flight.up ≡ false) ⊎ (m.flight.down ≡ false)
  unmeasured upstream k = inl k
  unmeasured downstream k = inr k

  difference-stays :
      (s : Direction) → measured s m ≡ false → (accepted_model m (flight u d)).flight.difference ≡ m.flight.difference
  unfolding accepted_model good_flight_model
  difference-stays s k =
      by-test (any_late m u d) (λ e. rw e (failed-difference-kept m (unmeasured s k)))
      (λ e. rw e (good-difference-kept m.flight (hit_count m.setup) u d (unmeasured s k)))

-- so in a tick
tick-results : (m : Model) (s : Direction) → measured s m ≡ false → results_of s (tick_model m) ≡ results_of s m
unfolding tick_model flight_after flight_ticked failed_flight results_of
tick-results m upstream k = by-test (fails m.flight.schedule) (λ e. rw (e, k)) (λ e. rw e)
tick-results m downstream k = by-test (fails m.flight.schedule) (λ e. rw (e, k)) (λ e. rw e)

tick-difference : (m : Model) (s : Direction) → measured s m ≡ false → (tick_model m).flight.difference ≡ m.flight.difference
unfolding tick_model flight_after flight_ticked failed_flight failed_difference
tick-difference m upstream k = by-test (fails m.flight.schedule) (λ e. rw (e, k)) (λ e. rw e)
tick-difference m downstream k =
    by-test (fails m.flight.schedule) (λ e. by-test m.flight.up (λ u. rw (e, u, k)) (λ u. rw (e, u))) (λ e. rw e)

one_not_zero : ◌≡◌ {A = List ℕ} (0 ∷ []) (1 ∷ []) → ⊥
one_not_zero e = let z : ◌≡◌ {A = ℕ} 0 1 = ap (λ l. get_or l 0 0) e in omega arith

-- Answered failed exactly where a word is late.
late-fails : (m : Model) (u d : List ℕ) → (values_in (accepted_answer m (flight u d)) ≡ 0 ∷ []) ↔ (any_late m u d ≡ true)
unfolding accepted_answer values_in
late-fails m u d =
    by-test (any_late m u d) (λ e. rw e (λ _. refl, λ _. refl))
    (λ e. rw e (λ f. absurd (one_not_zero (sym f)), λ f. let z : ◌≡◌ {A = ℕ} 0 1 = cc in absurd (omega arith)))

good_none : (m : Model) (u d : List ℕ) → values_in (accepted_answer m (flight u d)) ≡ 1 ∷ [] → any_late m u d ≡ false
unfolding accepted_answer values_in
good_none m u d = by-test (any_late m u d) (λ e. rw e (λ f. absurd (one_not_zero f))) (λ e. rw e (λ _. refl))

module _ (m : Model) (u d : List ℕ) (c : miscounted m (flight u d) ≡ false) where
  counted : (length u ≡ pick m.flight.up (hit_count m.setup) 0) × (length d ≡ pick m.flight.down (hit_count m.setup) 0)
  unfolding miscounted
  counted = (count-means m.flight (hit_count m.setup) (length u) (length d)).0 c

  at_most : (measured : Bool) (n : ℕ) → n ≡ pick measured (hit_count m.setup) 0 → n ≤ 6
  at_most true n e = omega (arith, hits-bounds m.setup)
  at_most false n e = omega arith

  few : (length u ≤ 6) × (length d ≤ 6)
  few = (at_most m.flight.up (length u) counted.0, at_most m.flight.down (length d) counted.1)

  good-flight :
      values_in (accepted_answer m (flight u d)) ≡ 1 ∷ [] →
      accepted_model m (flight u d) ≡ good_flight_model m (hit_count m.setup) (six_words u) (six_words d)
  unfolding accepted_model
  good-flight e = rw (good_none m u d e)

  failed-flight : values_in (accepted_answer m (flight u d)) ≡ 0 ∷ [] → accepted_model m (flight u d) ≡ failed_flight_model m
  unfolding accepted_model
  failed-flight e = rw ((late-fails m u d).0 e)

  results-left :
      (s : Direction) →
      measured s m ≡ true →
      let ws : List ℕ = by_direction s u d in
      results_of s (good_flight_model m (hit_count m.setup) (six_words u) (six_words d))
      ≡ get_or ws 0 0 ∷ get_or ws 1 0 ∷ get_or ws 2 0 ∷ get_or ws 3 0 ∷ get_or ws 4 0 ∷ get_or ws 5 0 ∷ sum ws / hit_count m.setup ∷ []
  unfolding good_flight_model results_of
  results-left upstream e = good-ups m.flight (hit_count m.setup) u d e few.0
  results-left downstream e = good-downs m.flight (hit_count m.setup) u d e few.1

  reads-results : (s : Direction) (n : Model) (i : ℕ) → i < 7 → Holds n (results_at s + 2 * i) (get_or (results_of s n) i 0)
  unfolding results_of
  reads-results upstream n i h = reads-ups n i h
  reads-results downstream n i h = reads-downs n i h

  at-six : (ws : List ℕ) (a : ℕ) (i : ℕ) → i < 6 → get_or (get_or ws 0 0 ∷ get_or ws 1 0 ∷ get_or ws 2 0 ∷ get_or ws 3 0 ∷ get_or ws 4 0 ∷ get_or ws 5 0 ∷ a ∷ []) i 0 ≡ get_or ws i 0
  at-six ws a zero h = refl
  at-six ws a (suc zero) h = refl
  at-six ws a (suc (suc zero)) h = refl
  at-six ws a (suc (suc (suc zero))) h = refl
  at-six ws a (suc (suc (suc (suc zero)))) h = refl
  at-six ws a (suc (suc (suc (suc (suc zero))))) h = refl
  at-six ws a (suc (suc (suc (suc (suc (suc i)))))) h = absurd (omega arith)

  difference-left :
      values_in (accepted_answer m (flight u d)) ≡ 1 ∷ [] →
      m.flight.up ≡ true →
      m.flight.down ≡ true →
      (good_flight_model m (hit_count m.setup) (six_words u) (six_words d)).flight.difference
      ≡ difference_word (record { 0 = sum u / hit_count m.setup }) (record { 0 = sum d / hit_count m.setup })
  unfolding good_flight_model
  difference-left g e f =
      good-difference m.flight (hit_count m.setup) u d e f few.0 few.1

  averages-below :
      values_in (accepted_answer m (flight u d)) ≡ 1 ∷ [] →
      (sum u / hit_count m.setup < 2147483648) × (sum d / hit_count m.setup < 2147483648)
  unfolding miscounted
  averages-below g =
      let r =
      rw (six-total u few.0, six-total d few.1) at
      (hits-below m u d c (good_none m u d g)) in
      (quotient-below (sum u) (hit_count m.setup) 2147483648 r.0, quotient-below (sum d) (hit_count m.setup) 2147483648 r.1)

  difference-adds :
      (a b : ℕ) → a < 2147483648 → b < 2147483648 →
      (difference_word (record { 0 = a }) (record { 0 = b }) < 4294967296) ×
      ((difference_word (record { 0 = a }) (record { 0 = b }) + b) % 4294967296 ≡ a)
  unfolding difference_word
  difference-adds a b h k = omega arith

  failed-claim : FailedClaim m (failed_flight_model m)
  failed-claim =
      record {
        results = λ s. results s;
        difference = failed-difference m;
      }
    where
      results : (s : Direction) → measured s m ≡ true → words_at (failed_flight_model m) (results_at s) 14 ≡ repeated 14 0xFFFF
      results upstream e = failed-ups m e
      results downstream e = failed-downs m e

  flight-claim : FlightClaim m u d (record { answer = accepted_answer m (flight u d); model = accepted_model m (flight u d) })
  flight-claim =
      let n : Model = good_flight_model m (hit_count m.setup) (six_words u) (six_words d) in
      record {
        late =
            let (f, g) = late-fails m u d in
            let (i, j) = late-word m u d in
            (λ e. i (f e), λ s. g (j s));
        hits =
            λ s g e i h.
            rw (good-flight g)
            (subst (Holds n (results_at s + 2 * i)) (ap (λ l. get_or l i 0) (results-left s e) ∙ at-six (by_direction s u d) _ i h)
            (reads-results s n i (omega arith)));
        average =
            λ s g e.
            rw (good-flight g, ← hits-are m.setup)
            (subst (Holds n (results_at s + 12)) (ap (λ l. get_or l 6 0) (results-left s e)) (reads-results s n 6 (omega arith)));
        difference =
            λ g e f.
            let (a, b) = averages-below g in
            rw (good-flight g, ← hits-are m.setup) (
              difference_word (record { 0 = sum u / hit_count m.setup }) (record { 0 = sum d / hit_count m.setup }),
              subst (Holds n 0xE2) (difference-left g e f) (reads-difference n),
              (difference-adds _ _ a b).0,
              (difference-adds _ _ a b).1,
            );
        kept = λ s k. results-read s m (accepted_model m (flight u d)) (results-stay m u d s k);
        difference-kept = λ s k. difference-read m (accepted_model m (flight u d)) (difference-stays m u d s k);
        failed = λ g. rw (failed-flight g) failed-claim;
      }

accepted-reply :
    (m : Model) (c : Call) →
    verdict m c ≡ accepted →
    record { answer = accepted_answer m c; model = accepted_model m c } ≡ reply m c
unfolding reply reply_by
accepted-reply m c e = rw e

flights : (m : Model) (u d : List ℕ) → Accepts m (flight u d) → FlightClaim m u d (reply m (flight u d))
flights m u d a =
    let v = accepted-by m (flight u d) a in
    subst (λ (r : Reply). FlightClaim m u d r) (accepted-reply m (flight u d) v)
    (flight-claim m u d (none-holds m (flight u d) v).row11)

good-value : (faulty : Bool) → (values_in (pick faulty Failed Good) ≡ 1 ∷ []) ↔ (pick faulty Failed Good ≡ Good)
unfolding values_in
good-value true = (λ z. absurd (one_not_zero z), λ z. let y : ◌≡◌ {A = ℕ} 0 1 = cc in absurd (omega arith))
good-value false = (λ z. refl, λ z. refl)

good-means : (m : Model) (w : List ℕ) → (values_in (accepted_answer m (temperature w)) ≡ 1 ∷ []) ↔ Whole m.setup w
unfolding accepted_answer
good-means m w =
    let (f, g) = good-words m w in
    let (h, i) = good-value (port_fault m w) in
    (λ z. f (h z), λ z. i (g z))

ports : (m : Model) (w : List ℕ) → Accepts m (temperature w) → TemperatureClaim m w (reply m (temperature w))
unfolding open_from port_cycle
ports m w a =
    let v = accepted-by m (temperature w) a in
    let c = (none-holds m (temperature w) v).row11 in
    subst (λ (r : Reply). TemperatureClaim m w r) (accepted-reply m (temperature w) v)
    (record {
      judged = good-means m w;
      open-port = open-port m w c;
      short-port = short-port m w c;
      whole-port = whole-port m w c;
    })

-- a list of one number, and what a question tells
told-one : (m : Model) → (value_told (interrupt_pending m) ≡ 1 ∷ []) ↔ (interrupt_pending m ≡ Ok 1)
told-one m = go (interrupt_pending m)
  where
    go : (t : Result ℕ Refusal) → (value_told t ≡ 1 ∷ []) ↔ (t ≡ Ok 1)
    go (Ok v) = (λ e. ap Ok (ap (λ l. get_or l 0 0) e), λ e. ap value_told e)
    go (Err r) = (λ e. absurd (let z : ◌≡◌ {A = ℕ} 0 1 = ap length e in omega arith), λ e. absurd (let z : ◌≡◌ {A = ℕ} 0 1 = cc in omega arith))

interrupt :
    (m : Model) →
    (value_told (interrupt_pending m) ≡ 1 ∷ [])
    ↔ ((is_sound m ≡ true) × (word_of m.setup 0x42 / 512 % 2 ≡ 1) × (¬ (register_word m 0xFE ≡ 0)))
interrupt m =
    let (f, g) = told-one m in
    let (h, i) = interrupt-yes m in
    rw (reads-status m) (λ e. h (f e), λ e. g (i e))

expiries : (m : Model) → ExpiryClaim m
expiries m =
    record {
      flight-fails =
          λ e.
          let x = (fails-told differences m (told-sound differences m e)).0 e in
          record { results = λ s. results x s; difference = expired-difference m x };
      temperature-fails = λ e. expired-ports m ((fails-told temperatures m (told-sound temperatures m e)).0 e);
      kept = λ s k. results-read s m (tick_model m) (tick-results m s k);
      difference-kept = λ s k. difference-read m (tick_model m) (tick-difference m s k);
    }
  where
    results : fails m.flight.schedule ≡ true → (s : Direction) → measured s m ≡ true → words_at (tick_model m) (results_at s) 14 ≡ repeated 14 0xFFFF
    results x upstream e = expired-ups m x e
    results x downstream e = expired-downs m x e

commands : (m : Model) → CommandsClaim m
unfolding run_model
commands m =
    record {
      starts = λ op o x a. answers-starts m op o x (accepted-by m (command op o x) a);
      directions = start-directions m;
      start-keeps = start-keeps m;
      flight-alone = flight-alone m;
      temperature-alone = (run-temperature m).3;
      clock-kept = clock-kept m;
      zeroed = zeroed m;
      not-run = not-run m;
      halts = halts-told m;
      drops = halts-drop m;
      halt-idle = halt-left-idle m;
      reset-idle = reset-left-idle m;
      reset = reset-reads;
      reset-drops = reset-drops m;
      others_keep = others_keep m;
    }

pub second-demand : SecondDemand
second-demand =
    record {
      reads = reads;
      carried = carried-sorts;
      bus = bus;
      writes = writes;
      stores = only_store;
      calendar = calendar;
      months = λ y. record { leap = leap-months y; common = common-months y };
      form = form-kept;
      counts = counts;
      flights = flights;
      temperatures = ports;
      means =
          record { differences = difference-means; words = bits-means; means = mean-floor; ports = words-floor };
      expiries = expiries;
      bits = bits-claim;
      stretches = λ m n s l. same_end n m s l;
      interrupt = interrupt;
      singles = single-claim;
      commands = commands;
      initialised = initialised-until-reset;
    }
