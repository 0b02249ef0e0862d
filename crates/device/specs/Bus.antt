-- Accepted commands and reads, and what may stand in a command's way.
use Rattle.std.specs.Prelude.{ℕ, ◌+◌, Bool, true, false, List, ltb, leb, eqb}
use Rattle.device.specs.Base.{pick, either, both, negate, flight_unset}
use Rattle.device.specs.Base.{temperature_unset, clock_stands, event_continuous, difference_period, difference_count}
use Rattle.device.specs.Base.{temperature_period, temperature_count, no_quanta, no_sums, Flight, Temperature, Model}
use Rattle.device.specs.Event.{start_single, start_event, halt_schedule}
use Rattle.device.specs.Status.{joined, init_bit, halt_bit, ldo_bit, without_ldo, no_bits}
use Rattle.device.specs.Model.{is_busy, reset_model, with_flight, with_temperature, with_status, with_regulator, with_initialised, flight_with, temperature_with}

-- "a command but HALT and Reset"
unfoldable pub must_be_idle : ℕ → Bool
must_be_idle op = negate (either (eqb op 0x04) (eqb op 0x0A))

-- "TOF_Up (00h), TOF_Down (01h), TOF_Diff (02h) start a flight measurement, Temperature (03h) a temperature one"; "07h
-- runs both kinds, 08h differences, 09h temperatures."
unfoldable pub starts_flight : ℕ → Bool
starts_flight op = either (ltb op 0x03) (either (eqb op 0x07) (eqb op 0x08))

unfoldable pub starts_temperature : ℕ → Bool
starts_temperature op = either (eqb op 0x03) (either (eqb op 0x07) (eqb op 0x09))

unfoldable pub is_event : ℕ → Bool
is_event op = both (leb 0x07 op) (leb op 0x09)

-- Number 6, busy: "a command but HALT and Reset, while a measurement is awaited or an event runs"
unfoldable pub command_busy : Model → ℕ → Bool
command_busy m op = both (must_be_idle op) (is_busy m)

-- Number 8, not initialised: "00h to 03h, 07h to 09h before Initialize"
unfoldable pub before_initialize : Model → ℕ → Bool
before_initialize m op = both (negate m.initialised) (either (starts_flight op) (starts_temperature op))

-- "Number 9: for flight, PL .. or DPL .. zero; for temperature, TP .. not 11b." "Number 9 also: .. EOSC is 1; only the kinds run are
-- judged for PL, DPL and TP." "Number 9 no longer occurs for ET_CONT." (Note 5)
unfoldable pub flight_side_unset : List ℕ → ℕ → Bool
flight_side_unset setup op = both (starts_flight op) (flight_unset setup)

unfoldable pub temperature_side_unset : List ℕ → ℕ → Bool
temperature_side_unset setup op = both (starts_temperature op) (temperature_unset setup)

unfoldable pub event_side_unset : List ℕ → ℕ → Bool
event_side_unset setup op = both (is_event op) (clock_stands setup)

unfoldable pub command_unset : Model → ℕ → Bool
command_unset m op =
    either (event_side_unset m.setup op)
    (either (flight_side_unset m.setup op) (temperature_side_unset m.setup op))

unfoldable pub flight_started : Flight → ℕ → Flight
flight_started f op =
    record {
      schedule = start_single f.schedule;
      up = negate (eqb op 0x01);
      down = negate (eqb op 0x00);
      sum = f.sum;
      ups = f.ups;
      downs = f.downs;
      difference = f.difference;
    }

-- "Acceptance zeroes cycle counts (E4h, EFh) and averages (E5h, E6h; F0h to F7h) of the kinds run."
unfoldable pub flight_event : Flight → List ℕ → Flight
flight_event f setup =
    record {
      schedule = start_event (difference_period setup) (difference_count setup) (event_continuous setup);
      up = true;
      down = true;
      sum = no_quanta;
      ups = f.ups;
      downs = f.downs;
      difference = f.difference;
    }

unfoldable pub temperature_event : Temperature → List ℕ → Temperature
temperature_event t setup =
    record {
      schedule = start_event (temperature_period setup) (temperature_count setup) (event_continuous setup);
      sums = no_sums;
      ports = t.ports;
    }

unfoldable pub event_flight : Model → ℕ → Flight
event_flight m op = pick (starts_flight op) (flight_event m.flight m.setup) m.flight

unfoldable pub event_temperature : Model → ℕ → Temperature
event_temperature m op =
    pick (starts_temperature op) (temperature_event m.temperature m.setup) m.temperature

unfoldable pub started_event : Model → ℕ → Model
started_event m op = with_temperature (with_flight m (event_flight m op)) (event_temperature m op)

-- "05h Initialize makes the model initialised, until a Reset, and sets INIT."
unfoldable pub initialised_model : Model → Model
initialised_model m = with_initialised (with_status m (joined m.status init_bit)) true

-- "0Ah HALT drops awaited measurements, ends the event, sets HALT, also when idle."
unfoldable pub halted_model : Model → Model
halted_model m =
    with_temperature
    (with_flight (with_status m (joined m.status halt_bit)) (flight_with m.flight (halt_schedule m.flight.schedule)))
    (temperature_with m.temperature (halt_schedule m.temperature.schedule))

unfoldable pub single_started : Model → ℕ → Model
single_started m op =
    pick (eqb op 0x03) (with_temperature m (temperature_with m.temperature (start_single m.temperature.schedule)))
    (with_flight m (flight_started m.flight op))

-- "LDO_ON sets status bit 10" (Note 8), and the regulator is on from then on, "until the LDO OFF command is received" (000)
unfoldable pub supplied : Model → Model
supplied m = with_regulator (with_status m (joined m.status ldo_bit)) true

unfoldable pub unsupplied : Model → Model
unsupplied m = with_regulator (with_status m (without_ldo m.status)) false

unfoldable pub run_model : Model → ℕ → Model
run_model m op =
    pick (eqb op 0x04) reset_model
    (pick (eqb op 0x05) (initialised_model m)
    (pick (eqb op 0x0A) (halted_model m)
    (pick (eqb op 0x0C) (supplied m)
    (pick (eqb op 0x0D) (unsupplied m) (pick (is_event op) (started_event m op) (single_started m op))))))

-- "FEh is the interrupt status; reading it clears it after the word is taken."
unfoldable pub read_model : Model → ℕ → ℕ → Model
read_model m a n = pick (ltb 0xFE a) m (pick (leb (a + n) 0xFE) m (with_status m no_bits))
