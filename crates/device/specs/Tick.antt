-- One tick.
use Rattle.std.specs.Prelude.{Bool, List}
use Rattle.device.specs.Base.{pick, Quanta, Clock, tick_clock, alarm_rings, clock_stands, alarm_word, alarm_mode}
use Rattle.device.specs.Base.{each_interrupt, failed_ports, no_quanta, no_sums, Schedule, Status, Flight, Temperature, Model}
use Rattle.device.specs.Base.{Report}
use Rattle.device.specs.Event.{begins, begins_group, fails, tick_schedule}
use Rattle.device.specs.Model.{with_clock, with_status, with_flight, with_temperature}
use Rattle.device.specs.Results.{failed_flight}
use Rattle.device.specs.Status.{joined, flight_bits, temperature_bits, alarm_bit}

-- "at the first start of a group that kind's sums, count and averages go to 0" (Note 5)
unfoldable pub sum_after : Flight → Quanta
sum_after f = pick (begins_group f.schedule) no_quanta f.sum

unfoldable pub sums_after : Temperature → List Quanta
sums_after t = pick (begins_group t.schedule) no_sums t.sums

unfoldable pub flight_ticked : Flight → Flight
flight_ticked f =
    record {
      schedule = tick_schedule f.schedule;
      up = f.up;
      down = f.down;
      sum = sum_after f;
      ups = f.ups;
      downs = f.downs;
      difference = f.difference;
    }

-- "A measurement undelivered 8,192 ticks after its start fails in that tick, as if all its words were late or open."
unfoldable pub flight_after : Flight → Flight
flight_after f =
    pick (fails f.schedule) (failed_flight (flight_ticked f) (tick_schedule f.schedule)) (flight_ticked f)

unfoldable pub temperature_after : Temperature → Temperature
temperature_after t =
    pick (fails t.schedule)
    (record { schedule = tick_schedule t.schedule; sums = sums_after t; ports = failed_ports })
    (record { schedule = tick_schedule t.schedule; sums = sums_after t; ports = t.ports })

-- "The clock stands while EOSC .. is 1."
unfoldable pub clock_ticked : Model → Clock
clock_ticked m = pick (clock_stands m.setup) m.clock (tick_clock m.clock)

unfoldable pub tick_rings : Model → Clock → Bool
tick_rings m after = alarm_rings m.clock after (alarm_word m.setup) (alarm_mode m.setup)

unfoldable pub tick_status : Model → Clock → Status
tick_status m after =
    joined
    (joined
    (joined m.status (alarm_bit (tick_rings m after)))
    (flight_bits m.flight.schedule (each_interrupt m.setup) (fails m.flight.schedule)
    (fails m.flight.schedule)))
    (temperature_bits m.temperature.schedule (each_interrupt m.setup) (fails m.temperature.schedule)
    (fails m.temperature.schedule))

unfoldable pub tick_model : Model → Model
tick_model m =
    with_temperature
    (with_flight (with_status (with_clock m (clock_ticked m)) (tick_status m (clock_ticked m))) (flight_after m.flight))
    (temperature_after m.temperature)

-- "a tick's answer says for each kind whether one started and whether one failed in it"
unfoldable pub report_of : Schedule → Report
report_of k = record { started = begins k; failed = fails k }
