-- A measurement that is not delivered: "A measurement undelivered 8,192 ticks after its start fails in that tick, as if all its words
-- were late or open."
use mathlib.Core.Bool.{true}
use mathlib.Core.Path.{◌≡◌}
use Rattle.hit.specs.Words.{failed_pairs, failed_ports}
use Rattle.device.specs.declared.Model.{Model}
use Rattle.device.specs.Event.{fails}
use Rattle.device.specs.Registers.{half, flight_word, temperature_word, register_word}
use Rattle.device.specs.Results.{failed_difference, failed_flight}
use Rattle.device.specs.Tick.{flight_ticked, flight_after, temperature_after, tick_model}
use Rattle.device.specs.Plain.{words_at, repeated}

-- "as if all its words were late": what the registers of the measured directions read after the tick
module _ (m : Model) (e : fails m.flight.schedule ≡ true) where
  pub expired-ups :
      m.flight.up ≡ true →
      words_at (tick_model m) 0xC5 14 ≡ repeated 14 0xFFFF
  unfolding register_word flight_word half tick_model flight_after flight_ticked failed_flight failed_pairs
  expired-ups u = rw (e, u)

  pub expired-downs :
      m.flight.down ≡ true →
      words_at (tick_model m) 0xD4 14 ≡ repeated 14 0xFFFF
  unfolding register_word flight_word half tick_model flight_after flight_ticked failed_flight failed_pairs
  expired-downs d = rw (e, d)

  pub expired-difference :
      m.flight.up ≡ true →
      m.flight.down ≡ true →
      words_at (tick_model m) 0xE2 2 ≡ repeated 2 0xFFFF
  unfolding register_word flight_word half tick_model flight_after flight_ticked failed_flight failed_difference
  expired-difference u d = rw (e, u, d)

-- "or open": T1 to T4
pub expired-ports :
    (m : Model) →
    fails m.temperature.schedule ≡ true →
    words_at (tick_model m) 0xE7 8 ≡ repeated 8 0xFFFF
unfolding register_word temperature_word half tick_model temperature_after failed_ports
expired-ports m e = rw e
