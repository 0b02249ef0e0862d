-- The waits of a model stay within 32 bits, whatever is called: an event's period is at most 2,097,152 ticks. Assumes nothing.
use Prim.Native.Nat.{ℕ, zero, suc, ◌+◌, ◌<◌}
use mathlib.Core.Bool.{Bool, true, false}
use mathlib.Core.List.{List}
use native.Mathlib.Omega.{arith}
use lib.Dec.{ltb, leb, eqb}
use lib.ListN.{drop}
use Rattle.unit.specs.Choice.{pick}
use Rattle.unit.specs.declared.Ticks.{Ticks}
use Rattle.unit.proofs.Cases.{by-leb}
use Rattle.setup.specs.Setup.{event_continuous, difference_period, difference_count, temperature_period, temperature_count}
use Rattle.setup.proofs.Laws.{difference-period-bounds, temperature-period-bounds}
use Rattle.frame.specs.Frame.{is_command, is_write, is_flash}
use Rattle.device.specs.declared.Schedule.{Schedule}
use Rattle.device.specs.declared.Status.{Status}
use Rattle.device.specs.declared.Flight.{Flight}
use Rattle.device.specs.declared.Temperature.{Temperature}
use Rattle.device.specs.declared.Model.{Model}
use Rattle.device.specs.Model.{fresh_with, fresh_model, reset_model, no_flight, no_temperature}
use Rattle.device.specs.Event.{to_settle, no_schedule, start_single, start_event, wait_after, tick_schedule, settle, halt_schedule, fails}
use Rattle.device.specs.Results.{good_flight, failed_flight}
use Rattle.device.specs.Tick.{flight_ticked, flight_after, temperature_after, tick_model}
use Rattle.device.specs.Stretch.{model_ticked}
use Rattle.device.specs.Write.{write_model}
use Rattle.device.specs.Delivery.{good_flight_model, failed_flight_model, good_temperature_model, failed_temperature_model}
use Rattle.device.specs.Bus.{starts_flight, starts_temperature, is_event, flight_started, flight_event, temperature_event, event_flight, event_temperature, started_event, initialised_model, halted_model, single_started, supplied, unsupplied, run_model, read_model}
use Rattle.device.specs.FlashFrame.{flash_model}
use Rattle.device.specs.Call.{Call, transaction, tick, flight, temperature, stretch, Verdict, accepted, refused, verdict, opcode, words}
use Rattle.device.specs.Reply.{any_late, port_fault, accepted_model, reply_by, reply}
use Rattle.line_room.specs.Form.{Timely, Waits}

pick_is : {A : Type 0} (P : A → Type 0) (t : Bool) {x y : A} → P x → P y → P (pick t x y)
pick_is P true one other = one
pick_is P false one other = other

-- ---- one schedule

no-timely : Timely no_schedule
unfolding no_schedule
no-timely = record { wait = omega arith; period = omega arith }

event-timely : (p : Ticks) (n : ℕ) (c : Bool) → p.0 < 4294967296 → Timely (start_event p n c)
unfolding start_event
event-timely p n c h = record { wait = h; period = h }

tick-timely : (k : Schedule) → Timely k → Timely (tick_schedule k)
unfolding tick_schedule wait_after
tick-timely k t =
    record { wait = by-leb k.wait.0 1 (λ h e. rw e t.period) (λ h e. rw e (omega (arith, t.wait))); period = t.period }

settle-timely : (k : Schedule) (good : Bool) → Timely k → Timely (settle k good)
unfolding settle
settle-timely k good t = pick_is Timely (to_settle k) record { wait = t.wait; period = t.period } record { wait = t.wait; period = t.period }

single-timely : (k : Schedule) → Timely k → Timely (start_single k)
unfolding start_single
single-timely k t = record { wait = t.wait; period = t.period }

halt-timely : (k : Schedule) → Timely k → Timely (halt_schedule k)
unfolding halt_schedule
halt-timely k t = record { wait = t.wait; period = t.period }

-- ---- ticks

flight-timely : (f : Flight) → Timely f.schedule → Timely (flight_after f).schedule
unfolding flight_after flight_ticked failed_flight
flight-timely f t =
    pick_is (λ (g : Flight). Timely g.schedule) (fails f.schedule) (tick-timely f.schedule t) (tick-timely f.schedule t)

temperature-timely : (k : Temperature) → Timely k.schedule → Timely (temperature_after k).schedule
unfolding temperature_after
temperature-timely k t =
    pick_is (λ (g : Temperature). Timely g.schedule) (fails k.schedule) (tick-timely k.schedule t) (tick-timely k.schedule t)

tick-waits : (m : Model) → Waits m → Waits (tick_model m)
unfolding tick_model
tick-waits m w = record { flight = flight-timely m.flight w.flight; temperature = temperature-timely m.temperature w.temperature }

ticked-waits : (n : ℕ) (m : Model) → Waits m → Waits (model_ticked n m)
unfolding model_ticked
ticked-waits zero m w = w
ticked-waits (suc n) m w = tick-waits (model_ticked n m) (ticked-waits n m w)

-- ---- transactions

with-waits : (s : Status) → Waits (fresh_with s)
unfolding fresh_with no_flight no_temperature
with-waits s = record { flight = no-timely; temperature = no-timely }

pub fresh-waits : Waits fresh_model
unfolding fresh_model
fresh-waits = with-waits _

reset-waits : Waits reset_model
unfolding reset_model
reset-waits = with-waits _

halted-waits : (m : Model) → Waits m → Waits (halted_model m)
unfolding halted_model
halted-waits m w =
    record { flight = halt-timely m.flight.schedule w.flight; temperature = halt-timely m.temperature.schedule w.temperature }

event-waits : (m : Model) (op : ℕ) → Waits m → Waits (started_event m op)
unfolding started_event event_flight event_temperature flight_event temperature_event
event-waits m op w = record {
  flight =
      pick_is (λ (g : Flight). Timely g.schedule) (starts_flight op)
      (event-timely (difference_period m.setup) (difference_count m.setup) (event_continuous m.setup) (omega (arith, difference-period-bounds m.setup)))
      w.flight;
  temperature =
      pick_is (λ (g : Temperature). Timely g.schedule) (starts_temperature op)
      (event-timely (temperature_period m.setup) (temperature_count m.setup) (event_continuous m.setup) (omega (arith, temperature-period-bounds m.setup)))
      w.temperature;
}

started-waits : (m : Model) (op : ℕ) → Waits m → Waits (single_started m op)
unfolding single_started flight_started
started-waits m op w =
    pick_is Waits (eqb op 3) record { flight = w.flight; temperature = single-timely m.temperature.schedule w.temperature }
    record { flight = single-timely m.flight.schedule w.flight; temperature = w.temperature }

run-waits : (m : Model) (op : ℕ) → Waits m → Waits (run_model m op)
unfolding run_model initialised_model supplied unsupplied
run-waits m op w =
    let same : Waits (initialised_model m) = record { flight = w.flight; temperature = w.temperature } in
    pick_is Waits (eqb op 4) reset-waits
    (pick_is Waits (eqb op 5) same
    (pick_is Waits (eqb op 10) (halted-waits m w)
    (pick_is Waits (eqb op 12) record { flight = w.flight; temperature = w.temperature }
    (pick_is Waits (eqb op 13) record { flight = w.flight; temperature = w.temperature }
    (pick_is Waits (is_event op) (event-waits m op w) (started-waits m op w))))))

write-waits : (bytes : List ℕ) (op n : ℕ) (m : Model) → Waits m → Waits (write_model bytes op n m)
unfolding write_model
write-waits bytes op n m w = record { flight = w.flight; temperature = w.temperature }

flash-waits : (m : Model) (op : ℕ) → Waits m → Waits (flash_model m op)
unfolding flash_model
flash-waits m op w = pick_is Waits (eqb op 0x90) w record { flight = w.flight; temperature = w.temperature }

read-waits : (m : Model) (a n : ℕ) → Waits m → Waits (read_model m a n)
unfolding read_model
read-waits m a n w =
    pick_is Waits (ltb 0xFE a) w (pick_is Waits (leb (a + n) 0xFE) w record { flight = w.flight; temperature = w.temperature })

-- ---- deliveries

delivered-waits : (m : Model) (u d : List ℕ) → Waits m → Waits (accepted_model m (flight u d))
unfolding accepted_model failed_flight_model good_flight_model failed_flight good_flight
delivered-waits m u d w =
    pick_is Waits (any_late m u d) record { flight = settle-timely m.flight.schedule false w.flight; temperature = w.temperature }
    record { flight = settle-timely m.flight.schedule true w.flight; temperature = w.temperature }

measured-waits : (m : Model) (ws : List ℕ) → Waits m → Waits (accepted_model m (temperature ws))
unfolding accepted_model failed_temperature_model good_temperature_model
measured-waits m ws w =
    pick_is Waits (port_fault m ws)
    record { flight = w.flight; temperature = settle-timely m.temperature.schedule false w.temperature }
    record { flight = w.flight; temperature = settle-timely m.temperature.schedule true w.temperature }

-- ---- any call

transaction-waits : (m : Model) (f o x : List ℕ) → Waits m → Waits (accepted_model m (transaction f o x))
unfolding accepted_model
transaction-waits m f o x w =
    pick_is Waits (is_command (opcode f)) (run-waits m (opcode f) w)
    (pick_is Waits (is_write (opcode f)) (write-waits (drop 1 f) (opcode f) (words f) m w)
    (pick_is Waits (is_flash (opcode f)) (flash-waits m (opcode f) w) (read-waits m (opcode f) (words f) w)))

accepted-waits : (m : Model) (c : Call) → Waits m → Waits (accepted_model m c)
accepted-waits m (transaction f o x) w = transaction-waits m f o x w
accepted-waits m tick w = unfold accepted_model in tick-waits m w
accepted-waits m (flight u d) w = delivered-waits m u d w
accepted-waits m (temperature ws) w = measured-waits m ws w
accepted-waits m (stretch n) w = unfold accepted_model in ticked-waits n m w

-- Every call keeps the waits within 32 bits, refused or not.
pub keeps-waits : (m : Model) (c : Call) → Waits m → Waits (reply m c).model
unfolding reply reply_by
keeps-waits m c w = go (verdict m c)
  where
    go : (v : Verdict) → Waits (reply_by v m c).model
    go accepted = accepted-waits m c w
    go (refused n) = w
