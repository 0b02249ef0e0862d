-- The model: fresh, sound, busy.
use Rattle.std.specs.Prelude.{ℕ, ◌*◌, ◌^◌, Bool, false, List, [], ◌∷◌, get_or, leb}
use Rattle.device.specs.Base.{either, both, Quanta, Clock, clock_valid}
use Rattle.device.specs.Base.{start, alarm_valid, factory, alarm_word, no_quanta, no_sums, Schedule, Status, Flight, Temperature}
use Rattle.device.specs.Base.{Model}
use Rattle.device.specs.Event.{no_schedule, schedule_sound, is_awaited, in_event}
use Rattle.device.specs.Status.{por_bit, no_bits}

-- Setters: a model with one part anew, and the measurements of a kind with another schedule.
abbrev pub model_of : Clock → List ℕ → Status → Bool → Bool → Flight → Temperature → Model
model_of clock setup status initialised regulator flight temperature =
    record {
      clock = clock;
      setup = setup;
      status = status;
      initialised = initialised;
      regulator = regulator;
      flight = flight;
      temperature = temperature;
    }

abbrev pub with_clock : Model → Clock → Model
with_clock m x =
    model_of x m.setup m.status m.initialised m.regulator m.flight m.temperature

abbrev pub with_setup : Model → List ℕ → Model
with_setup m x =
    model_of m.clock x m.status m.initialised m.regulator m.flight m.temperature

abbrev pub with_status : Model → Status → Model
with_status m x =
    model_of m.clock m.setup x m.initialised m.regulator m.flight m.temperature

abbrev pub with_initialised : Model → Bool → Model
with_initialised m x =
    model_of m.clock m.setup m.status x m.regulator m.flight m.temperature

abbrev pub with_regulator : Model → Bool → Model
with_regulator m x =
    model_of m.clock m.setup m.status m.initialised x m.flight m.temperature

abbrev pub with_flight : Model → Flight → Model
with_flight m x =
    model_of m.clock m.setup m.status m.initialised m.regulator x m.temperature

abbrev pub with_temperature : Model → Temperature → Model
with_temperature m x =
    model_of m.clock m.setup m.status m.initialised m.regulator m.flight x

abbrev pub flight_with : Flight → Schedule → Flight
flight_with f k =
    record {
      schedule = k;
      up = f.up;
      down = f.down;
      sum = f.sum;
      ups = f.ups;
      downs = f.downs;
      difference = f.difference;
    }

abbrev pub temperature_with : Temperature → Schedule → Temperature
temperature_with t k = record { schedule = k; sums = t.sums; ports = t.ports }

-- "results 0"
unfoldable pub no_flight : Flight
no_flight =
    record {
      schedule = no_schedule;
      up = false;
      down = false;
      sum = no_quanta;
      ups = 0 ∷ 0 ∷ 0 ∷ 0 ∷ 0 ∷ 0 ∷ 0 ∷ [];
      downs = 0 ∷ 0 ∷ 0 ∷ 0 ∷ 0 ∷ 0 ∷ 0 ∷ [];
      difference = 0;
    }

unfoldable pub no_temperature : Temperature
no_temperature =
    record { schedule = no_schedule; sums = no_sums; ports = 0 ∷ 0 ∷ 0 ∷ 0 ∷ [] }

-- "Fresh: not initialised; configuration at the factory values ..; results 0; alarm 0; clock 2000-01-01 00:00:00.00,
-- weekday 1"; "A fresh model and Reset have the regulator off." (Note 8)
unfoldable pub fresh_with : Status → Model
fresh_with s = model_of start factory s false false no_flight no_temperature

-- "status 0004h (POR)"
unfoldable pub fresh_model : Model
fresh_model = fresh_with por_bit

-- "04h Reset gives the same with status 0000h."
unfoldable pub reset_model : Model
reset_model = fresh_with no_bits

-- Sound: the clock and the alarm are valid, the schedule of each kind is one that the calls make, and each sum is at most the count
-- times the largest value. The calls need it so that no field leaves its range.
unfoldable pub sum_fits : Quanta → ℕ → Quanta → Bool
sum_fits sum good most = leb sum.0 (good * most.0)

-- what a difference with 2^31 added, and a good word of a port, are below
abbrev pub difference_most : Quanta
difference_most = record { 0 = 2 ^ 32 }

abbrev pub port_most : Quanta
port_most = record { 0 = 2 ^ 31 }

unfoldable pub flight_sound : Flight → Bool
flight_sound f =
    both (schedule_sound f.schedule) (sum_fits f.sum f.schedule.good difference_most)

unfoldable pub temperature_sound : Temperature → Bool
temperature_sound t =
    both (schedule_sound t.schedule)
    (both (sum_fits (get_or t.sums 0 no_quanta) t.schedule.good port_most)
    (both (sum_fits (get_or t.sums 1 no_quanta) t.schedule.good port_most)
    (both (sum_fits (get_or t.sums 2 no_quanta) t.schedule.good port_most)
    (sum_fits (get_or t.sums 3 no_quanta) t.schedule.good port_most))))

unfoldable pub is_sound : Model → Bool
is_sound m =
    both (clock_valid m.clock)
    (both (alarm_valid (alarm_word m.setup)) (both (flight_sound m.flight) (temperature_sound m.temperature)))

-- "while a measurement is awaited or an event runs"
unfoldable pub kind_busy : Schedule → Bool
kind_busy k = either (is_awaited k) (in_event k)

unfoldable pub is_busy : Model → Bool
is_busy m = either (kind_busy m.flight.schedule) (kind_busy m.temperature.schedule)
