-- What the status bits mean: their places, what sets them, and the INT answer.
use Prim.Native.Nat.{ℕ, ◌+◌, ◌*◌, ◌/◌, ◌%◌, ◌<◌}
use native.Mathlib.Omega.{arith}
use mathlib.Core.Bool.{Bool, true, false}
use mathlib.Core.Logic.{◌↔◌, ◌⊎◌, inl, inr, ⊎_elim}
use mathlib.Core.Path.{◌≡◌, refl}
use lib.Dec.{ltb}
use Rattle.unit.specs.Choice.{pick, either}
use Rattle.unit.proofs.Cases.{by-test, by-ltb, by_eqb, holds, fails}
use Rattle.setup.specs.Setup.{word_of, interrupt_enabled}
use Rattle.device.specs.declared.Schedule.{Schedule}
use Rattle.device.specs.declared.Status.{Status}
use Rattle.device.specs.declared.Model.{Model}
use Rattle.device.specs.Event.{fails as expires, in_event, is_last, halt_schedule}
use Rattle.device.specs.Status.{no_bits, joined, status_word, sets_own_bit, flight_bits, temperature_bits, alarm_bit, init_bit, halt_bit}
use Rattle.device.specs.Model.{is_sound}
use Rattle.device.specs.Tick.{tick_rings, tick_status, tick_model}
use Rattle.device.specs.Bus.{initialised_model, halted_model}
use Rattle.device.specs.Question.{interrupt_pending}
use Rattle.device.specs.Reply.{flag}
use Rattle.std.specs.Prelude.{Result, Ok, Err}

bit_below : (b : Bool) → flag b < 2
bit_below true = omega arith
bit_below false = omega arith

weighed : (b : Bool) (v : ℕ) → pick b v 0 ≡ v * flag b
weighed true v = omega arith
weighed false v = omega arith

status-sum :
    (s : Status) →
    status_word s
    ≡ 32768 * flag s.timeout + 16384 * flag s.alarm + 4096 * flag s.tof + 2048 * flag s.te +
    1024 * flag s.ldo +
    512 * flag s.tofevtmg +
    256 * flag s.tempevtmg +
    128 * flag s.flash +
    32 * flag s.halt +
    8 * flag s.init +
    4 * flag s.por
unfolding status_word
status-sum s =
    omega (
      arith,
      weighed s.timeout 0x8000,
      weighed s.alarm 0x4000,
      weighed s.tof 0x1000,
      weighed s.te 0x0800,
      weighed s.ldo 0x0400,
      weighed s.tofevtmg 0x0200,
      weighed s.tempevtmg 0x0100,
      weighed s.flash 0x0080,
      weighed s.halt 0x0020,
      weighed s.init 0x0008,
      weighed s.por 0x0004,
    )

-- every bit in its place, and no other
pub record Places (s : Status) (w : ℕ) : Type 0 where
  pub timeout : w / 32768 % 2 ≡ flag s.timeout
  pub alarm : w / 16384 % 2 ≡ flag s.alarm
  pub tof : w / 4096 % 2 ≡ flag s.tof
  pub te : w / 2048 % 2 ≡ flag s.te
  pub ldo : w / 1024 % 2 ≡ flag s.ldo
  pub tofevtmg : w / 512 % 2 ≡ flag s.tofevtmg
  pub tempevtmg : w / 256 % 2 ≡ flag s.tempevtmg
  pub flash : w / 128 % 2 ≡ flag s.flash
  pub halt : w / 32 % 2 ≡ flag s.halt
  pub init : w / 8 % 2 ≡ flag s.init
  pub por : w / 4 % 2 ≡ flag s.por
  pub others :
      (w / 8192 % 2 ≡ 0) × (w / 64 % 2 ≡ 0) × (w / 16 % 2 ≡ 0) × (w % 4 ≡ 0) × (w < 65536)

-- "Status bits: TO 15, AF 14, TOF 12, TE 11, TOF_EVTMG 9, TEMP_EVTMG 8, HALT 5, INIT 3, POR 2."; LDO 10 and FLASH 7 (Note 8)
pub status-means : (s : Status) → Places s (status_word s)
status-means s =
    omega (
      arith,
      status-sum s,
      bit_below s.timeout,
      bit_below s.alarm,
      bit_below s.tof,
      bit_below s.te,
      bit_below s.ldo,
      bit_below s.tofevtmg,
      bit_below s.tempevtmg,
      bit_below s.flash,
      bit_below s.halt,
      bit_below s.init,
      bit_below s.por,
    )

-- "The event ends when all are settled.", and a continuous one "only by HALT or Reset" (Note 5)
pub event-runs-means : (k : Schedule) → (in_event k ≡ true) ↔ ((k.continuous ≡ true) ⊎ (k.settled < k.planned))
unfolding in_event
event-runs-means k =
    by-test k.continuous
    (λ c. rw c (holds (inl refl)))
    (λ c. rw c
    (by-ltb k.settled k.planned
    (λ h e. rw e (holds (inr h)))
    (λ h e. rw e (fails false (⊎_elim (λ x. let z : ◌≡◌ {A = ℕ} 0 1 = cc in omega arith) (λ x. omega arith))))))

-- "Settling the N-th sets TOF_EVTMG or TEMP_EVTMG."
pub last-means : (k : Schedule) → (is_last k ≡ true) ↔ (k.settled + 1 ≡ k.planned)
unfolding is_last
last-means k =
    by-ltb k.settled k.planned
    (λ h e. by_eqb (k.settled + 1) k.planned
    (λ i f. rw (e, f) (holds i))
    (λ i f. rw (e, f) (fails false i)))
    (λ h e. rw e (fails false (λ x. omega arith)))

-- a single one is never the N-th
pub single-not-last : (k : Schedule) → in_event k ≡ false → is_last k ≡ false
unfolding in_event is_last
single-not-last k =
    by-test (ltb k.settled k.planned)
    (λ e. rw e (by-test k.continuous (λ c. rw c (λ f. cc)) (λ c. rw c (λ f. cc))))
    (λ e. rw e (λ f. refl))

-- "A single one sets TOF or TE when delivered or failed."; of an event "With CONT_INT .. each settled one sets TOF or TE.", and without it
-- none does
pub own-bit :
    (k : Schedule) (each : Bool) →
    (in_event k ≡ false → sets_own_bit k each ≡ true) × (in_event k ≡ true → sets_own_bit k each ≡ each)
unfolding sets_own_bit
own-bit k each = (λ e. rw e, λ e. rw e)

pub kept : (b : Bool) → either b false ≡ b
kept true = refl
kept false = refl

turned : (b : Bool) → either b true ≡ true
turned true = refl
turned false = refl

-- "05h Initialize makes the model initialised, until a Reset, and sets INIT."
pub initialised-means :
    (m : Model) →
    initialised_model m
    ≡ record {
      clock = m.clock;
      setup = m.setup;
      status =
          record {
            timeout = m.status.timeout;
            alarm = m.status.alarm;
            tof = m.status.tof;
            te = m.status.te;
            ldo = m.status.ldo;
            tofevtmg = m.status.tofevtmg;
            tempevtmg = m.status.tempevtmg;
            flash = m.status.flash;
            halt = m.status.halt;
            init = true;
            por = m.status.por;
          };
      initialised = true;
      regulator = m.regulator;
      flight = m.flight;
      temperature = m.temperature;
    }
unfolding initialised_model joined init_bit
initialised-means m = simp (kept, turned)

-- "0Ah HALT drops awaited measurements, ends the event, sets HALT": every other bit, result, count and sum stays
pub halted-status :
    (m : Model) →
    (halted_model m).status
    ≡ record {
      timeout = m.status.timeout;
      alarm = m.status.alarm;
      tof = m.status.tof;
      te = m.status.te;
      ldo = m.status.ldo;
      tofevtmg = m.status.tofevtmg;
      tempevtmg = m.status.tempevtmg;
      flash = m.status.flash;
      halt = true;
      init = m.status.init;
      por = m.status.por;
    }
unfolding halted_model joined halt_bit
halted-status m = simp (kept, turned)

pub record HaltKeeps (m n : Model) : Type 0 where
  pub clock : n.clock ≡ m.clock
  pub setup : n.setup ≡ m.setup
  pub initialised : n.initialised ≡ m.initialised
  pub regulator : n.regulator ≡ m.regulator
  pub ups : n.flight.ups ≡ m.flight.ups
  pub downs : n.flight.downs ≡ m.flight.downs
  pub difference : n.flight.difference ≡ m.flight.difference
  pub sum : n.flight.sum ≡ m.flight.sum
  pub differences : n.flight.schedule.good ≡ m.flight.schedule.good
  pub ports : n.temperature.ports ≡ m.temperature.ports
  pub sums : n.temperature.sums ≡ m.temperature.sums
  pub temperatures : n.temperature.schedule.good ≡ m.temperature.schedule.good

pub halt-keeps : (m : Model) → HaltKeeps m (halted_model m)
unfolding halted_model halt_schedule
halt-keeps m =
    record {
      clock = refl;
      setup = refl;
      initialised = refl;
      regulator = refl;
      ups = refl;
      downs = refl;
      difference = refl;
      sum = refl;
      differences = refl;
      ports = refl;
      sums = refl;
      temperatures = refl;
    }

-- "The INT answer is yes exactly when INT_EN (bit 9 of 42h) is 1 and the status is not 0."
pub interrupt-yes :
    (m : Model) →
    (interrupt_pending m ≡ Ok 1)
    ↔ ((is_sound m ≡ true) × (word_of m.setup 0x42 / 512 % 2 ≡ 1) × (¬ (status_word m.status ≡ 0)))
unfolding interrupt_pending interrupt_enabled
interrupt-yes m =
    by-test (is_sound m)
    (λ s. rw s
    (by_eqb (word_of m.setup 0x42 / 512 % 2) 1
    (λ h e. by_eqb (status_word m.status) 0
    (λ i f. rw (e, f) (λ t. let z : ◌≡◌ {A = ℕ} 0 1 = cc in absurd (omega arith), λ x. absurd (x.2 i)))
    (λ i f. rw (e, f) (λ t. (refl, h, i), λ x. refl)))
    (λ h e. rw e (λ t. let z : ◌≡◌ {A = ℕ} 0 1 = cc in absurd (omega arith), λ x. absurd (h x.1)))))
    (λ s. rw s (
      λ t. let z : ◌≡◌ {A = ℕ} 0 1 = cc in absurd (omega arith),
      λ x. let z : ◌≡◌ {A = ℕ} 0 1 = cc in absurd (omega arith),
    ))

pub interrupt-no :
    (m : Model) →
    is_sound m ≡ true →
    (interrupt_pending m ≡ Ok 0) ↔ (¬ ((word_of m.setup 0x42 / 512 % 2 ≡ 1) × (¬ (status_word m.status ≡ 0))))
unfolding interrupt_pending interrupt_enabled
interrupt-no m s =
    rw s
    (by_eqb (word_of m.setup 0x42 / 512 % 2) 1
    (λ h e. by_eqb (status_word m.status) 0
    (λ i f. rw (e, f) (λ t x. x.1 i, λ n. refl))
    (λ i f. rw (e, f) (λ t. let z : ◌≡◌ {A = ℕ} 0 1 = cc in absurd (omega arith), λ n. absurd (n (h, i)))))
    (λ h e. rw e (λ t x. h x.0, λ n. refl)))

-- "sets AF in a tick where .. change to the alarm's": a tick sets AF where the alarm rings between the clock before it and
-- the clock that it leaves, and no tick clears it
pub alarm-set :
    (m : Model) → (tick_model m).status.alarm ≡ either m.status.alarm (tick_rings m (tick_model m).clock)
unfolding tick_model tick_status joined alarm_bit flight_bits temperature_bits no_bits
alarm-set m =
    by-test (expires m.flight.schedule)
    (λ e. by-test (expires m.temperature.schedule) (λ f. rw (e, f) (simp kept)) (λ f. rw (e, f) (simp kept)))
    (λ e. by-test (expires m.temperature.schedule) (λ f. rw (e, f) (simp kept)) (λ f. rw (e, f) (simp kept)))
