-- When a tick sets AF.
use Rattle.std.specs.Prelude.{ℕ, Bool, false, eqb}
use Rattle.unit.specs.Choice.{pick}
use Rattle.calendar.specs.declared.Clock.{Clock}
use Rattle.calendar.specs.Words.{minute_in, hour_in}

-- "in a tick where minutes change to the alarm's": they change, and afterwards they are
unfoldable pub reaches : ℕ → ℕ → ℕ → Bool
reaches before after target = pick (eqb before after) false (eqb after target)

-- "AM (3:2 of 43h): 01b sets AF in a tick where minutes change to the alarm's; 10b where hours change to the alarm's;
-- 11b where minutes change and both match". Clock and alarm have hours 0 to 23 here, whatever their forms: "An alarm matches
-- by the time of day meant" (Note 2)
unfoldable pub alarm_rings : Clock → Clock → ℕ → ℕ → Bool
alarm_rings before after w mode =
    pick (eqb mode 1) (reaches before.minute after.minute (minute_in w))
    (pick (eqb mode 2) (reaches before.hour after.hour (hour_in w))
    (pick (eqb mode 3)
    (pick (eqb after.hour (hour_in w)) (reaches before.minute after.minute (minute_in w)) false)
    false))
