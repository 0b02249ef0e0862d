-- What the set-up fields come to: the number of hits, the periods, the counts and the codes, in bounds.
use Prim.Native.Nat.{ℕ, ◌+◌, ◌*◌, ◌/◌, ◌%◌, ◌≤◌, ◌<◌, min}
use native.Mathlib.Omega.{arith}
use mathlib.Core.Bool.{true, false}
use mathlib.Core.Logic.{◌↔◌, ◌⊎◌, inl, inr, ⊎_elim}
use mathlib.Core.Path.{◌≡◌, refl}
use mathlib.Core.List.{List}
use Rattle.unit.proofs.Cases.{by_eqb, holds, fails}
use Rattle.setup.specs.Setup.{word_of, alarm_word, hit_count, timeout, port_cycle, difference_period, difference_count}
use Rattle.setup.specs.Setup.{temperature_period, temperature_count, flight_unset, temperature_unset, event_continuous}
use Rattle.setup.specs.Setup.{clock_stands, interrupt_enabled, each_interrupt, alarm_mode}

-- "H = STOP + 1 and at most 6 (STOP is 15:13 of 39h)"
pub hits-are : (s : List ℕ) → hit_count s ≡ min (word_of s 0x39 / 8192 % 8 + 1) 6
unfolding hit_count
hits-are s = refl

pub hits-bounds : (s : List ℕ) → (1 ≤ hit_count s) × (hit_count s ≤ 6)
hits-bounds s = omega (arith, hits-are s)

pub timeout-below : (s : List ℕ) → timeout s < 8
unfolding timeout
timeout-below s = omega arith

pub cycle-below : (s : List ℕ) → port_cycle s < 4
unfolding port_cycle
cycle-below s = omega arith

pub difference-period-bounds : (s : List ℕ) → (16384 ≤ (difference_period s).0) × ((difference_period s).0 ≤ 262144)
unfolding difference_period
difference-period-bounds s = omega arith

pub temperature-period-bounds : (s : List ℕ) → (32768 ≤ (temperature_period s).0) × ((temperature_period s).0 ≤ 2097152)
unfolding temperature_period
temperature-period-bounds s = omega arith

pub difference-count-bounds : (s : List ℕ) → (1 ≤ difference_count s) × (difference_count s ≤ 32)
unfolding difference_count
difference-count-bounds s = omega arith

pub temperature-count-bounds : (s : List ℕ) → (1 ≤ temperature_count s) × (temperature_count s ≤ 32)
unfolding temperature_count
temperature-count-bounds s = omega arith

-- From the written side: a register's word is put together of its fields, and each definition gives its own back.

-- "PL (15:8 of 38h) or DPL (7:4) zero"
pub flight-unset-means :
    (s : List ℕ) (pl dpl rest : ℕ) →
    word_of s 0x38 ≡ pl * 256 + dpl * 16 + rest →
    pl < 256 →
    dpl < 16 →
    rest < 16 →
    (flight_unset s ≡ true) ↔ ((pl ≡ 0) ⊎ (dpl ≡ 0))
unfolding flight_unset
flight-unset-means s pl dpl rest w h i j =
    by_eqb (word_of s 0x38 / 256 % 256) 0
    (λ x e. rw e (holds (inl (omega arith))))
    (λ x e. by_eqb (word_of s 0x38 / 16 % 16) 0
    (λ y f. rw (e, f) (holds (inr (omega arith))))
    (λ y f. rw (e, f) (fails false (⊎_elim (λ z. omega arith) (λ z. omega arith)))))

-- "TMM 15:11 of 40h"; "TP (6:5 of 40h)"; "PORTCYC is 1:0 of 40h"
module _ (s : List ℕ) (tmm y tp z cyc : ℕ)
    (w : word_of s 0x40 ≡ tmm * 2048 + y * 128 + tp * 32 + z * 4 + cyc)
    (h : (tmm < 32) × (y < 16) × (tp < 4) × (z < 8) × (cyc < 4)) where
  pub temperature-count-means : temperature_count s ≡ tmm + 1
  unfolding temperature_count
  temperature-count-means = omega arith

  -- "TP .. not 11b"
  pub temperature-unset-means : (temperature_unset s ≡ true) ↔ (¬ (tp ≡ 3))
  unfolding temperature_unset
  temperature-unset-means =
      by_eqb (word_of s 0x40 / 32 % 4) 3
      (λ x e. rw e (fails false (λ n. n (omega arith))))
      (λ x e. rw e (holds (λ t. x (omega arith))))

  pub cycle-means : port_cycle s ≡ cyc
  unfolding port_cycle
  cycle-means = omega arith

-- "TDF 15:12, TDM 11:7 of 3Fh"; "TMF 6:1 of 3Fh"
module _ (s : List ℕ) (tdf tdm tmf x : ℕ)
    (w : word_of s 0x3F ≡ tdf * 4096 + tdm * 128 + tmf * 2 + x)
    (h : (tdf < 16) × (tdm < 32) × (tmf < 64) × (x < 2)) where
  -- "P = 16,384 × (TDF + 1)"
  pub difference-period-means : (difference_period s).0 ≡ 16384 * (tdf + 1)
  unfolding difference_period
  difference-period-means = omega arith

  -- "N = TDM + 1"
  pub difference-count-means : difference_count s ≡ tdm + 1
  unfolding difference_count
  difference-count-means = omega arith

  -- "P = 32,768 × (TMF + 1)"
  pub temperature-period-means : (temperature_period s).0 ≡ 32768 * (tmf + 1)
  unfolding temperature_period
  temperature-period-means = omega arith

-- "STOP is 15:13 of 39h"; "k = TIMOUT (2:0 of 39h)"
module _ (s : List ℕ) (stop rest k : ℕ)
    (w : word_of s 0x39 ≡ stop * 8192 + rest * 8 + k)
    (h : (stop < 8) × (rest < 1024) × (k < 8)) where
  -- "H = STOP + 1 and at most 6"
  pub hits-means : hit_count s ≡ min (stop + 1) 6
  hits-means = omega (arith, hits-are s)

  pub timeout-means : timeout s ≡ k
  unfolding timeout
  timeout-means = omega arith

-- "INT_EN (bit 9 of 42h)"; "ET_CONT (bit 8 of 42h)"; "CONT_INT (bit 7 of 42h)"; "EOSC (bit 4 of 43h)"; "AM (3:2 of 43h)"
module _ (s : List ℕ) (high int cont each low : ℕ)
    (w : word_of s 0x42 ≡ high * 1024 + int * 512 + cont * 256 + each * 128 + low)
    (h : (high < 64) × (int < 2) × (cont < 2) × (each < 2) × (low < 128)) where
  pub interrupt-means : (interrupt_enabled s ≡ true) ↔ (int ≡ 1)
  unfolding interrupt_enabled
  interrupt-means =
      by_eqb (word_of s 0x42 / 512 % 2) 1
      (λ x e. rw e (holds (omega arith)))
      (λ x e. rw e (fails false (λ i. x (omega arith))))

  pub each-means : (each_interrupt s ≡ true) ↔ (each ≡ 1)
  unfolding each_interrupt
  each-means =
      by_eqb (word_of s 0x42 / 128 % 2) 1
      (λ x e. rw e (holds (omega arith)))
      (λ x e. rw e (fails false (λ i. x (omega arith))))

  pub continuous-means : (event_continuous s ≡ true) ↔ (cont ≡ 1)
  unfolding event_continuous
  continuous-means =
      by_eqb (word_of s 0x42 / 256 % 2) 1
      (λ x e. rw e (holds (omega arith)))
      (λ x e. rw e (fails false (λ i. x (omega arith))))

-- "EOSC (bit 4 of 43h)"; "AM (3:2 of 43h)"
module _ (s : List ℕ) (above eosc am below : ℕ)
    (v : word_of s 0x43 ≡ above * 32 + eosc * 16 + am * 4 + below)
    (i : (above < 2048) × (eosc < 2) × (am < 4) × (below < 4)) where
  pub stands-means : (clock_stands s ≡ true) ↔ (eosc ≡ 1)
  unfolding clock_stands
  stands-means =
      by_eqb (word_of s 0x43 / 16 % 2) 1
      (λ x e. rw e (holds (omega arith)))
      (λ x e. rw e (fails false (λ o. x (omega arith))))

  pub mode-means : alarm_mode s ≡ am
  unfolding alarm_mode
  mode-means = omega arith

-- "Alarm 35h"
pub alarm-means : (s : List ℕ) → alarm_word s ≡ word_of s 0x35
unfolding alarm_word
alarm-means s = refl
