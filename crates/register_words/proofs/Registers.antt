-- Every register reads as a word of 16 bits, and every pair holds a word of 32. Assumes nothing.
use Prim.Native.Nat.{ℕ, ◌-◌, ◌/◌, ◌%◌, ◌^◌, ◌<◌}
use native.Mathlib.Omega.{arith}
use mathlib.Core.Bool.{Bool, true}
use mathlib.Core.Path.{◌≡◌}
use lib.Dec.{ltb, eqb}
use lib.ListN.{get_or}
use Rattle.unit.specs.Choice.{pick}
use Rattle.calendar.proofs.RoundTrip.{words-below}
use Rattle.unit.specs.declared.Quanta.{Quanta}
use Rattle.hit.specs.Words.{no_quanta}
use Rattle.hit.specs.Difference.{difference_mean, port_mean}
use Rattle.device.specs.declared.Model.{Model}
use Rattle.device.specs.Model.{is_sound}
use Rattle.device.specs.Registers.{half, calendar_word, flight_word, temperature_word, register_word}
use Rattle.device.proofs.Table.{picked}
use Rattle.device.proofs.StatusMeaning.{status-means}
use Rattle.device.proofs.Sound.{bounds_of}
use Rattle.register_words.specs.Words.{Words}
use Rattle.register_words.proofs.Arrays.{at_place}

abbrev Small : ℕ → Type 0
Small w = w < 65536

whichever : (t : Bool) {x y : ℕ} → Small x → Small y → Small (pick t x y)
whichever t one other = picked Small t (λ _. one) (λ _. other)

half-small : (w place : ℕ) → w < 4294967296 → Small (half w place)
unfolding half
half-small w place h = whichever (eqb (place % 2) 0) (omega arith) (omega arith)

pub difference-mean-small : (sum : Quanta) (n : ℕ) → difference_mean sum n < 2 ^ 32
unfolding difference_mean
difference-mean-small sum n = picked (λ w. w < 2 ^ 32) (eqb n 0) (λ _. omega arith) (λ _. omega arith)

pub port-mean-small : (sum : Quanta) (n : ℕ) → port_mean sum n < 2 ^ 32
unfolding port_mean
port-mean-small sum n = picked (λ w. w < 2 ^ 32) (eqb n 0) (λ _. omega arith) (λ _. omega arith)

calendar-small : (m : Model) (a : ℕ) → Small (calendar_word m a)
unfolding calendar_word
calendar-small m a =
    let b = words-below m.clock in
    whichever (eqb a 0xB0) b.0 (whichever (eqb a 0xB1) b.1 (whichever (eqb a 0xB2) b.2 b.3))

module _ (m : Model) (w : Words m) where
  -- the words of the pairs, by the places of the results
  pub up_small : (i : ℕ) → get_or m.flight.ups i 0 < 2 ^ 32
  up_small i = at_place 4294967296 m.flight.ups (omega arith) w.ups.below i

  pub down-small : (i : ℕ) → get_or m.flight.downs i 0 < 2 ^ 32
  down-small i = at_place 4294967296 m.flight.downs (omega arith) w.downs.below i

  pub port-small : (i : ℕ) → get_or m.temperature.ports i 0 < 2 ^ 32
  port-small i = at_place 4294967296 m.temperature.ports (omega arith) w.ports.below i

  pub setup-small : (i : ℕ) → get_or m.setup i 0 < 65536
  setup-small i = at_place 65536 m.setup (omega arith) w.setup.below i

  flight-small : (a : ℕ) → Small m.flight.schedule.good → Small (flight_word m.flight a)
  unfolding flight_word
  flight-small a good =
      whichever (ltb a 0xC5) (omega arith)
      (whichever (ltb a 0xD3) (half-small _ (a - 0xC5) (up_small ((a - 0xC5) / 2)))
      (whichever (ltb a 0xD4) (omega arith)
      (whichever (ltb a 0xE2) (half-small _ (a - 0xD4) (down-small ((a - 0xD4) / 2)))
      (whichever (ltb a 0xE4) (half-small m.flight.difference (a - 0xE2) w.difference)
      (whichever (eqb a 0xE4) good
      (half-small _ (a - 0xE5) (difference-mean-small m.flight.sum m.flight.schedule.good)))))))

  temperature-small : (a : ℕ) → Small m.temperature.schedule.good → Small (temperature_word m.temperature a)
  unfolding temperature_word
  temperature-small a good =
      whichever (ltb a 0xEF) (half-small _ (a - 0xE7) (port-small ((a - 0xE7) / 2)))
      (whichever (eqb a 0xEF) good
      (half-small _ (a - 0xF0)
      (port-mean-small (get_or m.temperature.sums ((a - 0xF0) / 2) no_quanta) m.temperature.schedule.good)))

  pub register-small : is_sound m ≡ true → (a : ℕ) → register_word m a < 65536
  unfolding register_word
  register-small sound a =
      let b = bounds_of m sound in
      let f = b.flight.schedule in
      let t = b.temperature.schedule in
      whichever (ltb a 0xB4) (calendar-small m a)
      (whichever (ltb a 0xC4) (setup-small (a - 0xB4))
      (whichever (ltb a 0xE7) (flight-small a (omega (arith, f.planned, f.started, f.settled, f.good)))
      (whichever (ltb a 0xF8) (temperature-small a (omega (arith, t.planned, t.started, t.settled, t.good)))
      (whichever (eqb a 0xFE) (omega (arith, (status-means m.status).others)) (omega arith)))))
