-- What a delivery leaves in the results, good and failed. Which registers read them is in RegisterMeaning.
use Prim.Native.Nat.{ℕ, zero, suc, ◌+◌, ◌*◌, ◌/◌, ◌≤◌, ◌<◌}
use native.Mathlib.Omega.{arith}
use mathlib.Core.Bool.{true, false}
use mathlib.Core.List.{List, [], ◌∷◌, map}
use mathlib.Core.Logic.{◌↔◌, ◌⊎◌, ⊎_elim}
use mathlib.Core.Path.{◌≡◌, refl, sym}
use lib.ListN.{length, get_or, get_or-eq_default}
use borrow.Author.Tests.{le-ltb}
use Rattle.unit.specs.Choice.{either}
use Rattle.unit.proofs.Cases.{by-test, by-ltb}
use Rattle.unit.specs.declared.Quanta.{Quanta}
use Rattle.setup.specs.Setup.{hit_count, port_cycle}
use Rattle.hit.specs.Limit.{open_from, short_below, any_below, any_fault}
use Rattle.hit.specs.Difference.{difference_word}
use Rattle.hit.specs.Mean.{sum}
use Rattle.hit.specs.Words.{word_or_zero, six_words, four_words, average, filled, failed_pairs, port_pair, port_pairs}
use Rattle.unit.proofs.Joined.{neither}
use Rattle.hit.proofs.Sum.{six-total}
use Rattle.hit.proofs.Ports.{port-open, port-short, port-whole}
use Rattle.hit.proofs.Meaning.{short-not-open, whole-means}
use Rattle.device.specs.declared.Flight.{Flight}
use Rattle.device.specs.declared.Model.{Model}
use Rattle.device.specs.Registers.{half, flight_word, register_word, upwards}
use Rattle.device.specs.Results.{failed_difference, failed_flight}
use Rattle.device.specs.declared.Answer.TheVariants.{Good}
use Rattle.device.specs.Event.{settle}
use Rattle.device.specs.Status.{joined, temperature_bits}
use Rattle.device.specs.Results.{good_difference, good_sum, good_flight}
use Rattle.device.specs.Delivery.{good_flight_model, failed_flight_model, temperature_status, good_temperature_model, failed_temperature_model}
use Rattle.device.specs.Call.{flight, temperature, miscounted}
use Rattle.device.specs.Reply.{any_late, any_open, port_fault, accepted_answer, accepted_model}
use Rattle.device.specs.Plain.{Holds, Whole}
use Rattle.device.proofs.Sound.{ports-good}
use Rattle.device.proofs.RegisterMeaning.{reads-ports}

word-or-zero : (ws : List ℕ) (i : ℕ) → word_or_zero ws i ≡ get_or ws i 0
unfolding word_or_zero
word-or-zero ws i =
    by-ltb i (length ws) (λ h e. rw e) (λ h e. rw e (sym (get_or-eq_default ws 0 h)))

pub six-means : (ws : List ℕ) (i : ℕ) → i < 6 → get_or (six_words ws) i 0 ≡ get_or ws i 0
unfolding six_words
six-means ws zero h = word-or-zero ws 0
six-means ws (suc zero) h = word-or-zero ws 1
six-means ws (suc (suc zero)) h = word-or-zero ws 2
six-means ws (suc (suc (suc zero))) h = word-or-zero ws 3
six-means ws (suc (suc (suc (suc zero)))) h = word-or-zero ws 4
six-means ws (suc (suc (suc (suc (suc zero))))) h = word-or-zero ws 5
six-means ws (suc (suc (suc (suc (suc (suc i)))))) h = absurd (omega arith)

pub four-means : (ws : List ℕ) (i : ℕ) → i < 4 → get_or (four_words ws) i 0 ≡ get_or ws i 0
unfolding four_words
four-means ws zero h = word-or-zero ws 0
four-means ws (suc zero) h = word-or-zero ws 1
four-means ws (suc (suc zero)) h = word-or-zero ws 2
four-means ws (suc (suc (suc zero))) h = word-or-zero ws 3
four-means ws (suc (suc (suc (suc i)))) h = absurd (omega arith)

-- "No word late: HIT pairs 1 to H hold the words, later HIT pairs 0, AVG the sum ÷ H rounded down"
filled-means :
    (ws : List ℕ) (n : ℕ) →
    length ws ≤ 6 →
    filled (six_words ws) (average (six_words ws) n)
    ≡ get_or ws 0 0 ∷ get_or ws 1 0 ∷ get_or ws 2 0 ∷ get_or ws 3 0 ∷ get_or ws 4 0 ∷ get_or ws 5 0 ∷ sum ws / n ∷ []
unfolding filled average
filled-means ws n h =
    rw (
      six-means ws 0 (omega arith),
      six-means ws 1 (omega arith),
      six-means ws 2 (omega arith),
      six-means ws 3 (omega arith),
      six-means ws 4 (omega arith),
      six-means ws 5 (omega arith),
      six-total ws h,
    )

module _ (f : Flight) (n : ℕ) (u d : List ℕ) where
  pub good-ups :
      f.up ≡ true →
      length u ≤ 6 →
      (good_flight f n (six_words u) (six_words d)).ups
      ≡ get_or u 0 0 ∷ get_or u 1 0 ∷ get_or u 2 0 ∷ get_or u 3 0 ∷ get_or u 4 0 ∷ get_or u 5 0 ∷ sum u / n ∷ []
  unfolding good_flight
  good-ups e h = rw e (filled-means u n h)

  pub good-downs :
      f.down ≡ true →
      length d ≤ 6 →
      (good_flight f n (six_words u) (six_words d)).downs
      ≡ get_or d 0 0 ∷ get_or d 1 0 ∷ get_or d 2 0 ∷ get_or d 3 0 ∷ get_or d 4 0 ∷ get_or d 5 0 ∷ sum d / n ∷ []
  unfolding good_flight
  good-downs e h = rw e (filled-means d n h)

  pub good-ups-kept : f.up ≡ false → (good_flight f n (six_words u) (six_words d)).ups ≡ f.ups
  unfolding good_flight
  good-ups-kept e = rw e

  pub good-downs-kept : f.down ≡ false → (good_flight f n (six_words u) (six_words d)).downs ≡ f.downs
  unfolding good_flight
  good-downs-kept e = rw e

  -- "for a difference TOF_DIFF = AVGUP − AVGDN"
  pub good-difference :
      f.up ≡ true →
      f.down ≡ true →
      length u ≤ 6 →
      length d ≤ 6 →
      (good_flight f n (six_words u) (six_words d)).difference
      ≡ difference_word (record { 0 = sum u / n }) (record { 0 = sum d / n })
  unfolding good_flight good_difference average
  good-difference e g h i = rw (e, g, six-total u h, six-total d i)

  pub good-difference-kept :
      (f.up ≡ false) ⊎ (f.down ≡ false) → (good_flight f n (six_words u) (six_words d)).difference ≡ f.difference
  unfolding good_flight good_difference
  good-difference-kept = ⊎_elim (λ e. rw e) (λ e. by-test f.up (λ g. rw (g, e)) (λ g. rw g))

  -- "A good measurement of an event adds one to its count, a single one none": and nothing to the event's sum
  pub single-keeps-sum : f.schedule.planned ≤ f.schedule.settled → (good_flight f n u d).sum ≡ f.sum
  unfolding good_flight good_sum
  single-keeps-sum h = rw (le-ltb f.schedule.settled f.schedule.planned h)

-- "No word late" and it is good, whatever the difference of its averages is; by the set-up's H
pub good-leaves :
    (m : Model) (u d : List ℕ) →
    any_late m u d ≡ false →
    (accepted_answer m (flight u d) ≡ Good) ×
    ((accepted_model m (flight u d)).flight ≡ good_flight m.flight (hit_count m.setup) (six_words u) (six_words d))
unfolding accepted_answer accepted_model good_flight_model
good-leaves m u d e = rw e (refl, refl)

-- "A word late: the measurement fails, every HIT and AVG of the measured directions and, for a difference, TOF_DIFF become
-- FFFFh": what the registers read
module _ (m : Model) where
  pub failed-ups :
      m.flight.up ≡ true →
      map (register_word (failed_flight_model m)) (upwards 0xC5 14)
      ≡ 0xFFFF ∷ 0xFFFF ∷ 0xFFFF ∷ 0xFFFF ∷ 0xFFFF ∷ 0xFFFF ∷ 0xFFFF ∷ 0xFFFF ∷ 0xFFFF ∷ 0xFFFF ∷ 0xFFFF ∷ 0xFFFF ∷ 0xFFFF ∷ 0xFFFF ∷ []
  unfolding register_word flight_word half failed_flight_model failed_flight failed_pairs
  failed-ups e = rw e

  pub failed-downs :
      m.flight.down ≡ true →
      map (register_word (failed_flight_model m)) (upwards 0xD4 14)
      ≡ 0xFFFF ∷ 0xFFFF ∷ 0xFFFF ∷ 0xFFFF ∷ 0xFFFF ∷ 0xFFFF ∷ 0xFFFF ∷ 0xFFFF ∷ 0xFFFF ∷ 0xFFFF ∷ 0xFFFF ∷ 0xFFFF ∷ 0xFFFF ∷ 0xFFFF ∷ []
  unfolding register_word flight_word half failed_flight_model failed_flight failed_pairs
  failed-downs e = rw e

  pub failed-difference :
      m.flight.up ≡ true →
      m.flight.down ≡ true →
      map (register_word (failed_flight_model m)) (0xE2 ∷ 0xE3 ∷ []) ≡ 0xFFFF ∷ 0xFFFF ∷ []
  unfolding register_word flight_word half failed_flight_model failed_flight failed_difference
  failed-difference e g = rw (e, g)

  pub failed-ups-kept : m.flight.up ≡ false → (failed_flight_model m).flight.ups ≡ m.flight.ups
  unfolding failed_flight_model failed_flight
  failed-ups-kept e = rw e

  pub failed-downs-kept : m.flight.down ≡ false → (failed_flight_model m).flight.downs ≡ m.flight.downs
  unfolding failed_flight_model failed_flight
  failed-downs-kept e = rw e

  pub failed-difference-kept :
      (m.flight.up ≡ false) ⊎ (m.flight.down ≡ false) →
      (failed_flight_model m).flight.difference ≡ m.flight.difference
  unfolding failed_flight_model failed_flight failed_difference
  failed-difference-kept = ⊎_elim (λ e. rw e) (λ e. by-test m.flight.up (λ g. rw (g, e)) (λ g. rw g))

-- "An open port reads FFFFh FFFFh, the others their words"; "A word below 32 × 65,536 now reads 0000h 0000h for that port"
-- (Note 3): each port of an accepted delivery by its own word, whatever the others are
port-at : (limit : Quanta) (w : List ℕ) (i : ℕ) → i < 4 → get_or (port_pairs limit w) i 0 ≡ port_pair limit (get_or w i 0)
unfolding port_pairs
port-at limit w zero h = refl
port-at limit w (suc zero) h = refl
port-at limit w (suc (suc zero)) h = refl
port-at limit w (suc (suc (suc zero))) h = refl
port-at limit w (suc (suc (suc (suc i)))) h = absurd (omega arith)

module _ (m : Model) (w : List ℕ) (e : miscounted m (temperature w) ≡ false) where
  ports-left : (accepted_model m (temperature w)).temperature.ports ≡ port_pairs (open_from (port_cycle m.setup)) (four_words w)
  unfolding accepted_model failed_temperature_model good_temperature_model
  ports-left = by-test (port_fault m w) (λ f. rw f) (λ f. rw f (sym (ports-good m w e f).kept))

  port-reads :
      (i : ℕ) →
      i < 4 →
      Holds (accepted_model m (temperature w)) (0xE7 + 2 * i) (port_pair (open_from (port_cycle m.setup)) (get_or w i 0))
  port-reads i h =
      rw (← four-means w i h, ← port-at (open_from (port_cycle m.setup)) (four_words w) i h, ← ports-left)
      (reads-ports (accepted_model m (temperature w)) i h)

  module _ (i : ℕ) (h : i < 4) where
    pub open-port :
        (open_from (port_cycle m.setup)).0 ≤ get_or w i 0 →
        Holds (accepted_model m (temperature w)) (0xE7 + 2 * i) 0xFFFFFFFF
    open-port o = rw (port-open (open_from (port_cycle m.setup)) (get_or w i 0) o) at (port-reads i h)

    pub short-port :
        get_or w i 0 < 32 * 65536 → Holds (accepted_model m (temperature w)) (0xE7 + 2 * i) 0
    unfolding short_below
    short-port l =
        rw (port-short (open_from (port_cycle m.setup)) (get_or w i 0) (short-not-open _ _ l) l) at (port-reads i h)

    pub whole-port :
        32 * 65536 ≤ get_or w i 0 →
        get_or w i 0 < (open_from (port_cycle m.setup)).0 →
        Holds (accepted_model m (temperature w)) (0xE7 + 2 * i) (get_or w i 0)
    unfolding short_below
    whole-port l o = rw (port-whole (open_from (port_cycle m.setup)) (get_or w i 0) o l) at (port-reads i h)

module _ (m : Model) (w : List ℕ) where
  -- "its delivery, single or of an event, is answered failed": good exactly where all words are neither short nor open
  pub good-words : (accepted_answer m (temperature w) ≡ Good) ↔ Whole m.setup w
  unfolding accepted_answer port_fault open_from port_cycle
  good-words =
      let f = whole-means (open_from (port_cycle m.setup)) w in
      by-test (any_fault (open_from (port_cycle m.setup)) w)
      (λ t. rw t (
        λ e. let z : ◌≡◌ {A = ℕ} 0 1 = cc in absurd (omega arith),
        λ h. let g = f.1 h in let z : ◌≡◌ {A = ℕ} 0 1 = cc in absurd (omega arith),
      ))
      (λ t. rw t (λ e. f.0 t, λ h. refl))

  -- "the cycle counts as failed": it is settled, adds no word to a sum and none to the count
  pub fault-settles :
      port_fault m w ≡ true →
      ((accepted_model m (temperature w)).temperature.schedule ≡ settle m.temperature.schedule false) ×
      ((accepted_model m (temperature w)).temperature.sums ≡ m.temperature.sums)
  unfolding accepted_model failed_temperature_model
  fault-settles f = rw f (refl, refl)

  -- "A short alone does not set TO; an open port in the same delivery still does."
  pub open-sets-timeout :
      (accepted_model m (temperature w)).status.timeout ≡ either m.status.timeout (any_open m w)
  unfolding accepted_model failed_temperature_model good_temperature_model temperature_status temperature_bits joined port_fault any_fault any_open
  open-sets-timeout =
      by-test (port_fault m w)
      (λ f. rw f)
      (λ f. rw (f, (neither (any_open m w) (any_below short_below w) f).0))
