-- What a read of each register gives, the bytes that a read fills, and the registers after a write.
use Prim.Native.Nat.{ℕ, zero, suc, ◌+◌, ◌-◌, ◌*◌, ◌/◌, ◌%◌, ◌≤◌, ◌<◌}
use native.Mathlib.Omega.{arith}
use mathlib.Core.Bool.{true, false}
use mathlib.Core.List.{List, [], ◌∷◌, map}
use mathlib.Core.Logic.{◌↔◌, ◌⊎◌, inl, inr, ⊎_elim}
use mathlib.Core.Path.{◌≡◌, refl, ◌∙◌}
use lib.ListN.{length, get_or, set, length-set}
use lib.Seq.{get_or-set_same, get_or-set_other}
use borrow.Author.Tests.{lt-ltb, le-ltb, le-leb, lt-leb, ne_eqb}
use Rattle.unit.proofs.Cases.{by-ltb, by_eqb, holds, fails}
use Rattle.calendar.specs.Calendar.{start}
use Rattle.calendar.specs.Words.{bcd, hour_digits, hundredths_of, word30, word31, word32, word33}
use Rattle.setup.specs.Setup.{factory, word_of}
use Rattle.frame.specs.Frame.{word_at}
use Rattle.hit.specs.Words.{no_quanta}
use Rattle.hit.specs.Difference.{difference_mean, port_mean}
use Rattle.device.specs.declared.Model.{Model}
use Rattle.device.specs.Event.{no_schedule}
use Rattle.device.specs.Status.{por_bit, no_bits, status_word}
use Rattle.device.specs.Model.{fresh_with, fresh_model, reset_model, no_flight, no_temperature}
use Rattle.device.specs.Registers.{half, calendar_word, flight_word, temperature_word, register_word, fill_words}
use Rattle.device.specs.Write.{covers, written, with_word, setup_after}
use Rattle.device.specs.Plain.{Holds}
use Rattle.device.specs.Plain.{words_at, fresh_words}

-- "Fresh: .. configuration at the factory values in 000's tables (38h is 0010h, 43h is 0000h; 0000h where none is printed);
-- results 0; alarm 0; clock 2000-01-01 00:00:00.00, weekday 1; status 0004h (POR)": all that B0h to FFh read
pub fresh-reads : words_at fresh_model 0xB0 80 ≡ fresh_words 0x0004
unfolding fresh_model fresh_with no_flight no_temperature no_schedule por_bit start factory register_word calendar_word flight_word temperature_word half status_word word30 word31 hour_digits word32 word33 bcd hundredths_of difference_mean port_mean
fresh-reads = refl

-- "04h Reset gives the same with status 0000h."
pub reset-reads : words_at reset_model 0xB0 80 ≡ fresh_words 0
unfolding reset_model fresh_with no_flight no_temperature no_schedule no_bits start factory register_word calendar_word flight_word temperature_word half status_word word30 word31 hour_digits word32 word33 bcd hundredths_of difference_mean port_mean
reset-reads = refl

-- "not initialised"
pub fresh-not-ready : (fresh_model.initialised ≡ false) × (reset_model.initialised ≡ false)
unfolding fresh_model reset_model fresh_with
fresh-not-ready = (refl, refl)

-- "A result pair is an Int register (word ÷ 65,536) and a Frac register (the remainder)": pair i of those from a register on
half_high : (w p : ℕ) → p % 2 ≡ 0 → half w p ≡ w / 65536
unfolding half
half_high w p e = rw e

half-low : (w p : ℕ) → p % 2 ≡ 1 → half w p ≡ w % 65536
unfolding half
half-low w p e = rw e

pair :
    (m : Model) (word : ℕ → ℕ) (from i : ℕ) →
    register_word m (from + 2 * i) ≡ half (word ((from + 2 * i - from) / 2)) (from + 2 * i - from) →
    register_word m (from + 2 * i + 1) ≡ half (word ((from + 2 * i + 1 - from) / 2)) (from + 2 * i + 1 - from) →
    Holds m (from + 2 * i) (word i)
pair m word from i e f =
    let c : (from + 2 * i - from) / 2 ≡ i = omega arith in
    let d : (from + 2 * i + 1 - from) / 2 ≡ i = omega arith in
    record {
      high = e ∙ rw c (half_high (word i) (from + 2 * i - from) (omega arith));
      low = f ∙ rw d (half-low (word i) (from + 2 * i + 1 - from) (omega arith));
    }

module _ (m : Model) where
  -- "C4h, D3h, F8h to FDh and the Control register FFh read 0"
  pub reads-zero :
      map (register_word m) (0xC4 ∷ 0xD3 ∷ 0xF8 ∷ 0xF9 ∷ 0xFA ∷ 0xFB ∷ 0xFC ∷ 0xFD ∷ 0xFF ∷ [])
      ≡ 0 ∷ 0 ∷ 0 ∷ 0 ∷ 0 ∷ 0 ∷ 0 ∷ 0 ∷ 0 ∷ []
  unfolding register_word flight_word
  reads-zero = refl

  -- "FEh is the interrupt status"
  pub reads-status : register_word m 0xFE ≡ status_word m.status
  unfolding register_word
  reads-status = refl

  -- "cycle counts (E4h, EFh)"
  pub reads-counts :
      (register_word m 0xE4 ≡ m.flight.schedule.good) × (register_word m 0xEF ≡ m.temperature.schedule.good)
  unfolding register_word flight_word temperature_word
  reads-counts = (refl, refl)

  -- "Register w is read at w + 80h"
  pub reads-calendar :
      map (register_word m) (0xB0 ∷ 0xB1 ∷ 0xB2 ∷ 0xB3 ∷ [])
      ≡ word30 m.clock ∷ word31 m.clock ∷ word32 m.clock ∷ word33 m.clock ∷ []
  unfolding register_word calendar_word
  reads-calendar = refl

  pub reads-setup : (w : ℕ) → 0x34 ≤ w → w ≤ 0x43 → register_word m (w + 0x80) ≡ word_of m.setup w
  unfolding register_word
  reads-setup w h i =
      let d : w + 0x80 - 0xB4 ≡ w - 0x34 = omega arith in
      rw (le-ltb (w + 0x80) 0xB4 (omega arith), lt-ltb (w + 0x80) 0xC4 (omega arith), d)

  up_word :
      (a : ℕ) → 0xC5 ≤ a → a < 0xD3 → register_word m a ≡ half (get_or m.flight.ups ((a - 0xC5) / 2) 0) (a - 0xC5)
  unfolding register_word flight_word
  up_word a h i =
      rw (
        le-ltb a 0xB4 (omega arith),
        le-ltb a 0xC4 (omega arith),
        lt-ltb a 0xE7 (omega arith),
        le-ltb a 0xC5 (omega arith),
        lt-ltb a 0xD3 (omega arith),
      )

  down_word :
      (a : ℕ) → 0xD4 ≤ a → a < 0xE2 → register_word m a ≡ half (get_or m.flight.downs ((a - 0xD4) / 2) 0) (a - 0xD4)
  unfolding register_word flight_word
  down_word a h i =
      rw (
        le-ltb a 0xB4 (omega arith),
        le-ltb a 0xC4 (omega arith),
        lt-ltb a 0xE7 (omega arith),
        le-ltb a 0xC5 (omega arith),
        le-ltb a 0xD3 (omega arith),
        le-ltb a 0xD4 (omega arith),
        lt-ltb a 0xE2 (omega arith),
      )

  port-word :
      (a : ℕ) →
      0xE7 ≤ a →
      a < 0xEF →
      register_word m a ≡ half (get_or m.temperature.ports ((a - 0xE7) / 2) 0) (a - 0xE7)
  unfolding register_word temperature_word
  port-word a h i =
      rw (
        le-ltb a 0xB4 (omega arith),
        le-ltb a 0xC4 (omega arith),
        le-ltb a 0xE7 (omega arith),
        lt-ltb a 0xF8 (omega arith),
        lt-ltb a 0xEF (omega arith),
      )

  mean-word :
      (a : ℕ) →
      0xF0 ≤ a →
      a < 0xF8 →
      register_word m a
      ≡ half (port_mean (get_or m.temperature.sums ((a - 0xF0) / 2) no_quanta) m.temperature.schedule.good) (a - 0xF0)
  unfolding register_word temperature_word
  mean-word a h i =
      rw (
        le-ltb a 0xB4 (omega arith),
        le-ltb a 0xC4 (omega arith),
        le-ltb a 0xE7 (omega arith),
        lt-ltb a 0xF8 (omega arith),
        le-ltb a 0xEF (omega arith),
        ne_eqb a 0xEF (omega arith),
      )

  -- "Up results stand at C5h to D2h, down at D4h to E1h (HIT 1 to 6, then AVG; Int before Frac as in every pair)"
  pub reads-ups : (i : ℕ) → i < 7 → Holds m (0xC5 + 2 * i) (get_or m.flight.ups i 0)
  reads-ups i h =
      pair m (λ (j : ℕ). get_or m.flight.ups j 0) 0xC5 i
      (up_word (0xC5 + 2 * i) (omega arith) (omega arith))
      (up_word (0xC5 + 2 * i + 1) (omega arith) (omega arith))

  pub reads-downs : (i : ℕ) → i < 7 → Holds m (0xD4 + 2 * i) (get_or m.flight.downs i 0)
  reads-downs i h =
      pair m (λ (j : ℕ). get_or m.flight.downs j 0) 0xD4 i
      (down_word (0xD4 + 2 * i) (omega arith) (omega arith))
      (down_word (0xD4 + 2 * i + 1) (omega arith) (omega arith))

  -- "TOF_DIFF E2h, E3h"
  pub reads-difference : Holds m 0xE2 m.flight.difference
  unfolding register_word flight_word half
  reads-difference = record { high = refl; low = refl }

  -- "averages (E5h, E6h; F0h to F7h)"
  pub reads-mean : Holds m 0xE5 (difference_mean m.flight.sum m.flight.schedule.good)
  unfolding register_word flight_word half
  reads-mean = record { high = refl; low = refl }

  pub reads-means :
      (i : ℕ) →
      i < 4 →
      Holds m (0xF0 + 2 * i) (port_mean (get_or m.temperature.sums i no_quanta) m.temperature.schedule.good)
  reads-means i h =
      pair m (λ (j : ℕ). port_mean (get_or m.temperature.sums j no_quanta) m.temperature.schedule.good) 0xF0 i
      (mean-word (0xF0 + 2 * i) (omega arith) (omega arith))
      (mean-word (0xF0 + 2 * i + 1) (omega arith) (omega arith))

  -- "four words, T1 to T4 (E7h to EEh)"
  pub reads-ports : (i : ℕ) → i < 4 → Holds m (0xE7 + 2 * i) (get_or m.temperature.ports i 0)
  reads-ports i h =
      pair m (λ (j : ℕ). get_or m.temperature.ports j 0) 0xE7 i
      (port-word (0xE7 + 2 * i) (omega arith) (omega arith))
      (port-word (0xE7 + 2 * i + 1) (omega arith) (omega arith))

-- "the first 2n bytes of the output buffer are filled from consecutive registers, the rest of it stays"
module _ (m : Model) (a : ℕ) (out : List ℕ) where
  pub fill-length : (n : ℕ) → length (fill_words m a out n) ≡ length out
  unfolding fill_words
  fill-length zero = refl
  fill-length (suc n) = simp length-set (fill-length n)

  pub fill-rest : (n j : ℕ) → 2 * n ≤ j → get_or (fill_words m a out n) j 0 ≡ get_or out j 0
  unfolding fill_words
  fill-rest zero j h = refl
  fill-rest (suc n) j h =
      let w : ℕ = register_word m (a + n) in
      get_or-set_other (set (fill_words m a out n) (2 * n) (w / 256 % 256)) (2 * n + 1) j (w % 256) 0 (omega arith)
      ∙ (get_or-set_other (fill_words m a out n) (2 * n) j (w / 256 % 256) 0 (omega arith) ∙ fill-rest n j (omega arith))

  -- "Words go high byte first."
  pub fill-bytes :
      (n i : ℕ) →
      i < n →
      2 * n ≤ length out →
      (get_or (fill_words m a out n) (2 * i) 0 ≡ register_word m (a + i) / 256 % 256) ×
      (get_or (fill_words m a out n) (2 * i + 1) 0 ≡ register_word m (a + i) % 256)
  unfolding fill_words
  fill-bytes zero i h l = absurd (omega arith)
  fill-bytes (suc n) i h l =
      let w : ℕ = register_word m (a + n) in
      let k : length (fill_words m a out n) ≡ length out = fill-length n in
      let b : List ℕ = set (fill_words m a out n) (2 * n) (w / 256 % 256) in
      let o : length b ≡ length out = length-set (fill_words m a out n) (2 * n) (w / 256 % 256) ∙ k in
      by_eqb i n
      (λ e f. rw e (
        get_or-set_other b (2 * n + 1) (2 * n) (w % 256) 0 (omega arith)
            ∙ get_or-set_same (fill_words m a out n) (2 * n) (w / 256 % 256) 0 (omega arith),
        get_or-set_same b (2 * n + 1) (w % 256) 0 (omega arith),
      ))
      (λ e f. let r = fill-bytes n i (omega arith) (omega arith) in (
        get_or-set_other b (2 * n + 1) (2 * i) (w % 256) 0 (omega arith)
            ∙ (get_or-set_other (fill_words m a out n) (2 * n) (2 * i) (w / 256 % 256) 0 (omega arith) ∙ r.0),
        get_or-set_other b (2 * n + 1) (2 * i + 1) (w % 256) 0 (omega arith)
            ∙ (get_or-set_other (fill_words m a out n) (2 * n) (2 * i + 1) (w / 256 % 256) 0 (omega arith) ∙ r.1),
      ))

-- "n ≥ 1 words follow, to consecutive registers"; "Reserved bits are kept as written": of the registers 34h to 43h, those from
-- op to op + n − 1 have the frame's words, and the others stay
pub covers-means : (op n a : ℕ) → (covers op n a ≡ true) ↔ ((op ≤ a) × (a < op + n))
unfolding covers
covers-means op n a =
    by-ltb a op
    (λ h e. rw (lt-leb op a h) (fails false (λ x. omega arith)))
    (λ h e. by-ltb a (op + n)
    (λ i f. rw (le-leb op a h, f) (holds (h, i)))
    (λ i f. rw (le-leb op a h, f) (fails false (λ x. omega arith))))

with-word-length : (s : List ℕ) (a w : ℕ) → length (with_word s a w) ≡ length s
unfolding with_word
with-word-length s a w = by-ltb a 0x34 (λ h e. rw e) (λ h e. rw e (length-set s (a - 0x34) w))

with-word-other : (l : List ℕ) (b w a : ℕ) → 0x34 ≤ a → ¬ (a ≡ b) → word_of (with_word l b w) a ≡ word_of l a
unfolding with_word
with-word-other l b w a h n =
    by-ltb b 0x34
    (λ i e. rw e)
    (λ i e. rw e (get_or-set_other l (b - 0x34) (a - 0x34) w 0 (omega arith)))

module _ (bytes : List ℕ) (op : ℕ) (s : List ℕ) where
  pub setup-length : (n : ℕ) → length (setup_after bytes op s n) ≡ length s
  unfolding setup_after
  setup-length zero = refl
  setup-length (suc n) = with-word-length (setup_after bytes op s n) (op + n) (word_at bytes n) ∙ setup-length n

  pub setup-written :
      (n a : ℕ) →
      length s ≡ 16 →
      0x34 ≤ a →
      a ≤ 0x43 →
      op ≤ a →
      a < op + n →
      word_of (setup_after bytes op s n) a ≡ word_at bytes (a - op)
  unfolding setup_after with_word
  setup-written zero a l h i j k = absurd (omega arith)
  setup-written (suc n) a l h i j k =
      let b : List ℕ = setup_after bytes op s n in
      let c : length b ≡ length s = setup-length n in
      by_eqb a (op + n)
      (λ e f.
      let d : a - op ≡ n = omega arith in
      rw (d, e, le-ltb (op + n) 0x34 (omega arith)) (get_or-set_same b (op + n - 0x34) (word_at bytes n) 0 (omega arith)))
      (λ e f. with-word-other b (op + n) (word_at bytes n) a h e ∙ setup-written n a l h i j (omega arith))

  pub setup-kept :
      (n a : ℕ) → 0x34 ≤ a → (a < op) ⊎ (op + n ≤ a) → word_of (setup_after bytes op s n) a ≡ word_of s a
  unfolding setup_after
  setup-kept zero a h o = refl
  setup-kept (suc n) a h o =
      ⊎_elim
      (λ x. with-word-other (setup_after bytes op s n) (op + n) (word_at bytes n) a h (omega arith) ∙ setup-kept n a h (inl x))
      (λ x. with-word-other (setup_after bytes op s n) (op + n) (word_at bytes n) a h (omega arith)
      ∙ setup-kept n a h (inr (omega arith)))
      o

  -- as the calendar's registers, by `written`
  pub setup-means :
      (n a : ℕ) →
      length s ≡ 16 →
      0x34 ≤ a →
      a ≤ 0x43 →
      word_of (setup_after bytes op s n) a ≡ written bytes op n a (word_of s a)
  unfolding written covers
  setup-means n a l h i =
      by-ltb a op
      (λ j e. rw (lt-leb op a j) (setup-kept n a h (inl j)))
      (λ j e. by-ltb a (op + n)
      (λ k f. rw (le-leb op a j, f) (setup-written n a l h i j k))
      (λ k f. rw (le-leb op a j, f) (setup-kept n a h (inr k))))

-- "Words go high byte first."
pub word-means : (bytes : List ℕ) (i : ℕ) → word_at bytes i ≡ 256 * get_or bytes (2 * i) 0 + get_or bytes (2 * i + 1) 0
unfolding word_at
word-means bytes i = omega arith
