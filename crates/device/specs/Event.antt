-- The schedule of one kind of measurement: single ones, events, and continuous events in their groups.
use Rattle.std.specs.Prelude.{ℕ, ◌+◌, ◌-◌, Bool, true, false, ltb, leb, eqb}
use Rattle.device.specs.Base.{pick, either, both, negate, Ticks, Schedule}

abbrev pub ticks : ℕ → Ticks
ticks n = record { 0 = n }

-- A schedule by its parts: left, wait, period, planned, started, settled, continuous, good.
abbrev pub schedule_by : Ticks → Ticks → Ticks → ℕ → ℕ → ℕ → Bool → ℕ → Schedule
schedule_by left wait period planned started settled continuous good =
    record {
      left = left;
      wait = wait;
      period = period;
      planned = planned;
      started = started;
      settled = settled;
      continuous = continuous;
      good = good;
    }

-- Setters: a schedule with other ticks left, or with other counts of settled and good ones.
abbrev pub with_left : Schedule → ℕ → Schedule
with_left k n =
    schedule_by (ticks n) k.wait k.period k.planned k.started k.settled k.continuous k.good

abbrev pub with_settled : Schedule → ℕ → ℕ → Schedule
with_settled k settled good =
    schedule_by k.left k.wait k.period k.planned k.started settled k.continuous good

unfoldable pub no_schedule : Schedule
no_schedule = schedule_by (ticks 0) (ticks 0) (ticks 0) 0 0 0 false 0

-- "A kind is awaited from its start until an accepted delivery, the tick that fails it, HALT or Reset."
unfoldable pub is_awaited : Schedule → Bool
is_awaited k = ltb 0 k.left.0

-- one of the event, or of the current group of a continuous one, is still to settle, and still to start
abbrev pub to_settle : Schedule → Bool
to_settle k = ltb k.settled k.planned

abbrev pub to_start : Schedule → Bool
to_start k = ltb k.started k.planned

-- "The event ends when all are settled." A continuous one "ends only by HALT or Reset" (Note 5).
unfoldable pub in_event : Schedule → Bool
in_event k = either k.continuous (to_settle k)

-- "Settling the N-th sets TOF_EVTMG or TEMP_EVTMG.", of a continuous event the N-th of each group: "its N-th settling sets the
-- EVTMG bit" (Note 5)
unfoldable pub is_last : Schedule → Bool
is_last k = both (to_settle k) (eqb (k.settled + 1) k.planned)

-- Whether a start is to come: of an event while fewer than N are started; of a continuous one always, "Starts go on at j × P for
-- every j." (Note 5)
unfoldable pub starts_left : Schedule → Bool
starts_left k = either k.continuous (to_start k)

-- A tick starts a measurement where a start is to come and the wait for it ends.
unfoldable pub begins : Schedule → Bool
begins k = both (starts_left k) (leb k.wait.0 1)

-- Whether the measurement that a tick starts is the first of a group: "Each N starts of a kind make a group" (Note 5).
unfoldable pub begins_group : Schedule → Bool
begins_group k = both (begins k) (negate (to_start k))

-- "A measurement undelivered 8,192 ticks after its start fails in that tick"
unfoldable pub fails : Schedule → Bool
fails k = eqb k.left.0 1

-- A single measurement starts.
unfoldable pub start_single : Schedule → Schedule
start_single k = with_left k 8192

-- "Elapsed ticks count from acceptance at 0." "The start at 0 is reported by the command's answer"
unfoldable pub start_event : Ticks → ℕ → Bool → Schedule
start_event period planned continuous = schedule_by (ticks 8192) period period planned 1 0 continuous 0

unfoldable pub left_after : Schedule → ℕ
left_after k = pick (begins k) 8192 (pick (ltb 0 k.left.0) (k.left.0 - 1) 0)

-- Each start is one period after the last.
unfoldable pub wait_after : Schedule → ℕ
wait_after k = pick (leb k.wait.0 1) k.period.0 (k.wait.0 - 1)

-- A start is one more of the event or of the group, or the first of the next group.
unfoldable pub started_after : Schedule → ℕ
started_after k = pick (begins k) (pick (to_start k) (k.started + 1) 1) k.started

-- Of a new group none is settled.
unfoldable pub settled_after : Schedule → ℕ
settled_after k =
    pick (begins_group k) 0
    (pick (fails k) (pick (to_settle k) (k.settled + 1) k.settled) k.settled)

-- "at the first start of a group that kind's sums, count and averages go to 0" (Note 5)
unfoldable pub good_after : Schedule → ℕ
good_after k = pick (begins_group k) 0 k.good

unfoldable pub tick_schedule : Schedule → Schedule
tick_schedule k =
    schedule_by (ticks (left_after k)) (ticks (wait_after k)) k.period k.planned (started_after k) (settled_after k)
    k.continuous
    (good_after k)

-- "A good measurement of an event adds one to its count, a single one none"; "A measurement is settled when it is good or
-- failed."
unfoldable pub settle : Schedule → Bool → Schedule
settle k good =
    pick (to_settle k)
    (with_settled (with_left k 0) (k.settled + 1) (pick good (k.good + 1) k.good))
    (with_left k 0)

-- "HALT drops awaited measurements, ends the event": what was to start or to settle no longer is.
unfoldable pub halt_schedule : Schedule → Schedule
halt_schedule k =
    schedule_by (ticks 0) k.wait k.period k.settled k.settled k.settled false k.good

-- Part of soundness: what the schedules are that the calls make. The counts are in order, and at most 32, the largest N.
unfoldable pub counts_sound : Schedule → Bool
counts_sound k =
    both (leb k.planned 32)
    (both (leb k.started k.planned) (both (leb k.settled k.started) (leb k.good k.settled)))

-- The awaited one has at most 8,192 ticks left; a start to come is at most a period away, the period is 16,384 ticks or more, the
-- least P, and the awaited one fails at least 8,192 ticks before that start.
unfoldable pub wait_sound : Schedule → Bool
wait_sound k =
    both (leb k.left.0 8192)
    (pick (starts_left k)
    (both (leb 16384 k.period.0)
    (both (leb k.wait.0 k.period.0)
    (pick (ltb 0 k.left.0) (leb (k.left.0 + 8192) k.wait.0) (ltb 0 k.wait.0))))
    true)

-- While an event runs, one is started, and all that are started but the awaited one are settled.
unfoldable pub balance_sound : Schedule → Bool
balance_sound k =
    pick (in_event k)
    (pick (ltb 0 k.left.0) (eqb (k.settled + 1) k.started)
    (both (ltb 0 k.started) (eqb k.settled k.started)))
    true

unfoldable pub schedule_sound : Schedule → Bool
schedule_sound k = both (counts_sound k) (both (wait_sound k) (balance_sound k))
