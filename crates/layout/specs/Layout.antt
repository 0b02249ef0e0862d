-- A model as bytes: what stands where.
use Rattle.std.specs.Prelude.{ℕ, zero, suc, ◌+◌, Bool, true, false, List, [], ◌∷◌, ◌++◌, length, get_or, drop, replicate, ltb, eqb}
use mir.Val.{bool_byte}
use Rattle.unit.specs.Choice.{pick, both}
use Rattle.calendar.specs.declared.Clock.{Clock}
use Rattle.hit.specs.Words.{no_quanta}
use Rattle.device.specs.declared.Schedule.{Schedule}
use Rattle.device.specs.declared.Flight.{Flight}
use Rattle.device.specs.declared.Temperature.{Temperature}
use Rattle.device.specs.declared.Status.{Status}
use Rattle.device.specs.declared.Model.{Model}
use Rattle.layout.specs.Number.{all_bytes, numbers}

-- a flag is a byte, 1 or 0
abbrev pub bit : Bool → ℕ
bit = bool_byte

-- Places 0 to 24: the version, the flags, and the counts of the events.
unfoldable pub single : Model → List ℕ
single m =
    1 ∷
    bit m.clock.twelve ∷
    bit m.status.timeout ∷
    bit m.status.alarm ∷
    bit m.status.tof ∷
    bit m.status.te ∷
    bit m.status.ldo ∷
    bit m.status.tofevtmg ∷
    bit m.status.tempevtmg ∷
    bit m.status.flash ∷
    bit m.status.halt ∷
    bit m.status.init ∷
    bit m.status.por ∷
    bit m.initialised ∷
    bit m.regulator ∷
    bit m.flight.schedule.continuous ∷
    bit m.flight.up ∷
    bit m.flight.down ∷
    bit m.temperature.schedule.continuous ∷
    m.flight.schedule.planned ∷
    m.flight.schedule.started ∷
    m.flight.schedule.settled ∷
    m.temperature.schedule.planned ∷
    m.temperature.schedule.started ∷
    m.temperature.schedule.settled ∷
    []

-- Places 25 to 60, two bytes each: registers 34h to 43h, and the cycle counts.
unfoldable pub double : Model → List ℕ
double m = m.setup ++ m.flight.schedule.good ∷ m.temperature.schedule.good ∷ []

-- Places 61 to 192, four bytes each: the clock, the schedules, hits and averages, the difference, the ports.
unfoldable pub clock_words : Clock → List ℕ
clock_words c =
    c.year ∷ c.month ∷ c.date ∷ c.weekday ∷ c.hour ∷ c.minute ∷ c.second ∷ c.ticks.0 ∷ []

unfoldable pub waits : Schedule → List ℕ
waits k = k.left.0 ∷ k.wait.0 ∷ k.period.0 ∷ []

unfoldable pub quadruple : Clock → Flight → Temperature → List ℕ
quadruple c f t =
    clock_words c ++ waits f.schedule ++ waits t.schedule
    ++ f.ups ++ f.downs ++ f.difference ∷ t.ports

-- Places 193 to 232, eight bytes each: the sums of the events.
unfoldable pub octuple : Flight → Temperature → List ℕ
octuple f t =
    f.sum.0 ∷
    (get_or t.sums 0 no_quanta).0 ∷
    (get_or t.sums 1 no_quanta).0 ∷
    (get_or t.sums 2 no_quanta).0 ∷
    (get_or t.sums 3 no_quanta).0 ∷
    []

unfoldable pub stored : Model → List ℕ
stored m = single m ++ all_bytes 2 (double m) ++ all_bytes 4 (quadruple m.clock m.flight m.temperature) ++ all_bytes 8 (octuple m.flight m.temperature)

-- How the parts of a model are read back.
abbrev pub flag : List ℕ → ℕ → Bool
flag bs i = eqb (get_or bs i 0) 1

-- n entries from a place on
abbrev pub part : List ℕ → ℕ → ℕ → List ℕ
part l at zero = []
part l at (suc n) = get_or l at 0 ∷ part l (suc at) n

unfoldable pub clock_of : List ℕ → List ℕ → Clock
clock_of bs qs =
    record {
      year = get_or qs 0 0;
      month = get_or qs 1 0;
      date = get_or qs 2 0;
      weekday = get_or qs 3 0;
      hour = get_or qs 4 0;
      minute = get_or qs 5 0;
      second = get_or qs 6 0;
      ticks = record { 0 = get_or qs 7 0 };
      twelve = flag bs 1;
    }

unfoldable pub status_of : List ℕ → Status
status_of bs =
    record {
      timeout = flag bs 2;
      alarm = flag bs 3;
      tof = flag bs 4;
      te = flag bs 5;
      ldo = flag bs 6;
      tofevtmg = flag bs 7;
      tempevtmg = flag bs 8;
      flash = flag bs 9;
      halt = flag bs 10;
      init = flag bs 11;
      por = flag bs 12;
    }

unfoldable pub flight_of : List ℕ → List ℕ → List ℕ → List ℕ → Flight
flight_of bs ds qs os =
    record {
      schedule =
          record {
            left = record { 0 = get_or qs 8 0 };
            wait = record { 0 = get_or qs 9 0 };
            period = record { 0 = get_or qs 10 0 };
            planned = get_or bs 19 0;
            started = get_or bs 20 0;
            settled = get_or bs 21 0;
            continuous = flag bs 15;
            good = get_or ds 16 0;
          };
      up = flag bs 16;
      down = flag bs 17;
      sum = record { 0 = get_or os 0 0 };
      ups = part qs 14 7;
      downs = part qs 21 7;
      difference = get_or qs 28 0;
    }

unfoldable pub temperature_of : List ℕ → List ℕ → List ℕ → List ℕ → Temperature
temperature_of bs ds qs os =
    record {
      schedule =
          record {
            left = record { 0 = get_or qs 11 0 };
            wait = record { 0 = get_or qs 12 0 };
            period = record { 0 = get_or qs 13 0 };
            planned = get_or bs 22 0;
            started = get_or bs 23 0;
            settled = get_or bs 24 0;
            continuous = flag bs 18;
            good = get_or ds 17 0;
          };
      sums =
          record { 0 = get_or os 1 0 } ∷
          record { 0 = get_or os 2 0 } ∷
          record { 0 = get_or os 3 0 } ∷
          record { 0 = get_or os 4 0 } ∷
          [];
      ports = part qs 29 4;
    }

unfoldable pub model_of : List ℕ → List ℕ → List ℕ → List ℕ → Model
model_of bs ds qs os =
    record {
      clock = clock_of bs qs;
      setup = part ds 0 16;
      status = status_of bs;
      initialised = flag bs 13;
      regulator = flag bs 14;
      flight = flight_of bs ds qs os;
      temperature = temperature_of bs ds qs os;
    }

unfoldable pub restored : List ℕ → Model
restored bs = model_of bs (numbers 2 18 (drop 25 bs)) (numbers 4 33 (drop 61 bs)) (numbers 8 5 (drop 193 bs))

-- flags, n of them from place 1 on: each is 0 or 1
unfoldable pub flags_fit : List ℕ → ℕ → Bool
flags_fit bs zero = true
flags_fit bs (suc n) = both (flags_fit bs n) (ltb (get_or bs (suc n) 0) 2)

-- the form: 233 bytes, version 1, 18 flags
unfoldable pub formed : List ℕ → Bool
formed bs = pick (eqb (length bs) 233) (pick (eqb (get_or bs 0 0) 1) (flags_fit bs 18) false) false

-- Bytes of another form give a model that is not sound, so that every call answers number 0 to it.
unfoldable pub nothing : Model
nothing = restored (replicate 233 0)

unfoldable pub loaded : List ℕ → Model
loaded bs = pick (formed bs) (restored bs) nothing
