-- The code's own: how a stretch moves on, by as many ticks at once as pass with nothing to report and no second's end, else by a
-- single one. Nothing here is to be believed: Quiet.antt of ticking's proofs equates it with single ticks.
use Rattle.std.specs.Prelude.{ℕ, ◌+◌, ◌-◌, ltb, leb, eqb}
use Rattle.device.specs.Base.{pick, Clock, with_time, clock_stands, Schedule, Model, Flight}
use Rattle.device.specs.Base.{Temperature, StretchReport, Progress}
use Rattle.device.specs.Event.{ticks, begins, fails}
use Rattle.device.specs.Tick.{tick_model}
use Rattle.device.specs.Stretch.{model_ticked, stretch_report}

-- the smaller of two numbers
unfoldable pub least : ℕ → ℕ → ℕ
least a b = pick (ltb b a) b a

-- How many ticks the awaited measurement, the wait for the next start, and the second leave; 16,384 where there is no bound.
unfoldable pub quiet_left : Schedule → ℕ
quiet_left k = pick (eqb k.left.0 0) 16384 (k.left.0 - 1)

unfoldable pub quiet_wait : Schedule → ℕ
quiet_wait k =
    pick (leb k.wait.0 1) (pick (begins k) 0 (pick (eqb k.wait.0 k.period.0) 16384 0)) (k.wait.0 - 1)

unfoldable pub quiet_clock : Model → ℕ
quiet_clock m = pick (clock_stands m.setup) 16384 (32767 - m.clock.ticks.0)

unfoldable pub quiet_schedule : Schedule → ℕ
quiet_schedule k = least (quiet_left k) (quiet_wait k)

unfoldable pub quiet_for : Model → ℕ
quiet_for m =
    least (quiet_clock m) (least (quiet_schedule m.flight.schedule) (quiet_schedule m.temperature.schedule))

-- A schedule, a clock and a model after q ticks in which nothing happens.
unfoldable pub later_schedule : ℕ → Schedule → Schedule
later_schedule q k =
    record {
      left = ticks (k.left.0 - q);
      wait = ticks (pick (leb k.wait.0 1) k.wait.0 (k.wait.0 - q));
      period = k.period;
      planned = k.planned;
      started = k.started;
      settled = k.settled;
      continuous = k.continuous;
      good = k.good;
    }

unfoldable pub later_clock : ℕ → Model → Clock
later_clock q m =
    pick (clock_stands m.setup) m.clock
    (with_time m.clock m.clock.hour m.clock.minute m.clock.second (m.clock.ticks.0 + q))

abbrev pub flight_later : ℕ → Flight → Flight
flight_later q f =
    record {
      schedule = later_schedule q f.schedule;
      up = f.up;
      down = f.down;
      sum = f.sum;
      ups = f.ups;
      downs = f.downs;
      difference = f.difference;
    }

abbrev pub temperature_later : ℕ → Temperature → Temperature
temperature_later q t =
    record { schedule = later_schedule q t.schedule; sums = t.sums; ports = t.ports }

unfoldable pub later_model : ℕ → Model → Model
later_model q m =
    record {
      clock = later_clock q m;
      setup = m.setup;
      status = m.status;
      initialised = m.initialised;
      regulator = m.regulator;
      flight = flight_later q m.flight;
      temperature = temperature_later q m.temperature;
    }

-- A model's first n ticks, moved by q quiet ones, by one, and by either.
unfoldable pub progress : Model → ℕ → Progress
progress m n =
    record {
      model = model_ticked n m;
      done = ticks n;
      flight = stretch_report m.flight.schedule n;
      temperature = stretch_report m.temperature.schedule n;
    }

unfoldable pub moved_quietly : ℕ → Progress → Progress
moved_quietly q p =
    record {
      model = later_model q p.model;
      done = ticks (p.done.0 + q);
      flight = p.flight;
      temperature = p.temperature;
    }

unfoldable pub noted : Schedule → ℕ → StretchReport → StretchReport
noted k at r =
    record {
      started = ticks (pick (begins k) at r.started.0);
      failed = ticks (pick (fails k) at r.failed.0);
    }

unfoldable pub moved_by_one : Progress → Progress
moved_by_one p =
    record {
      model = tick_model p.model;
      done = ticks (p.done.0 + 1);
      flight = noted p.model.flight.schedule (p.done.0 + 1) p.flight;
      temperature = noted p.model.temperature.schedule (p.done.0 + 1) p.temperature;
    }

unfoldable pub moved : ℕ → Progress → Progress
moved most p =
    pick (ltb 0 (quiet_for p.model)) (moved_quietly (least (quiet_for p.model) most) p) (moved_by_one p)
