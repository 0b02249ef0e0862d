-- Deliveries of the right counts, good and failed.
use Rattle.std.specs.Prelude.{ℕ, Bool, true, false, List, eqb}
use Rattle.device.specs.Base.{pick, both, negate, Quanta, each_interrupt, port_pairs, Status}
use Rattle.device.specs.Base.{Flight, Model}
use Rattle.device.specs.Event.{settle}
use Rattle.device.specs.Model.{with_status, with_flight, with_temperature}
use Rattle.device.specs.Results.{good_flight, good_sums, failed_flight}
use Rattle.device.specs.Status.{joined, flight_bits, temperature_bits}

-- "an up list and a down list, each of H words ..; the unmeasured direction's list is empty"
unfoldable pub same_count : Bool → ℕ → ℕ → Bool
same_count measured hits given = eqb given (pick measured hits 0)

unfoldable pub flight_miscounted : Flight → ℕ → ℕ → ℕ → Bool
flight_miscounted f hits ups downs =
    negate (both (same_count f.up hits ups) (same_count f.down hits downs))

unfoldable pub flight_status : Model → Bool → Status
flight_status m failed =
    joined m.status (flight_bits m.flight.schedule (each_interrupt m.setup) true failed)

unfoldable pub good_flight_model : Model → ℕ → List ℕ → List ℕ → Model
good_flight_model m hits ups downs = with_flight (with_status m (flight_status m false)) (good_flight m.flight hits ups downs)

unfoldable pub failed_flight_model : Model → Model
failed_flight_model m =
    with_flight (with_status m (flight_status m true)) (failed_flight m.flight (settle m.flight.schedule false))

unfoldable pub temperature_status : Model → Bool → Status
temperature_status m opened =
    joined m.status (temperature_bits m.temperature.schedule (each_interrupt m.setup) true opened)

unfoldable pub good_temperature_model : Model → List ℕ → Model
good_temperature_model m w =
    with_temperature (with_status m (temperature_status m false))
    (record { schedule = settle m.temperature.schedule true; sums = good_sums m.temperature w; ports = w })

-- "An open port reads FFFFh FFFFh, the others their words; any open fails the measurement and sets TO." A short one fails it
-- too (Note 3), and "does not set TO; an open port in the same delivery still does": `opened` says whether there is one.
unfoldable pub failed_temperature_model : Model → Quanta → Bool → List ℕ → Model
failed_temperature_model m limit opened w =
    with_temperature (with_status m (temperature_status m opened))
    (record { schedule = settle m.temperature.schedule false; sums = m.temperature.sums; ports = port_pairs limit w })
