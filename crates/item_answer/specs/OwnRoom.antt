-- Which lines run ticks one by one: their answers alone have no bound that a buffer could hold. Assumes nothing.
use Rattle.std.specs.Prelude.{Bool, true, false}
use Rattle.item_line.specs.Line.{Call, Line}

unfoldable pub runs_ticks : Call → Bool
runs_ticks (Call.bus output bytes) = false
runs_ticks (Call.set a ws) = false
runs_ticks (Call.tick n) = true
runs_ticks (Call.at t) = true
runs_ticks (Call.stretch n) = false
runs_ticks (Call.flight up down) = false
runs_ticks (Call.temperature ws) = false
runs_ticks Call.frames = false
runs_ticks (Call.degrees a b) = false
runs_ticks (Call.listing width first) = false
runs_ticks (Call.quietest width) = false

-- Whether a line is `tick` or `at`.
unfoldable pub is_ticks : Line → Bool
is_ticks Line.silent = false
is_ticks (Line.bad f) = false
is_ticks (Line.item name) = false
is_ticks Line.show = false
is_ticks (Line.expect a ws) = false
is_ticks (Line.read a ws) = false
is_ticks (Line.call c x) = runs_ticks c
is_ticks (Line.ask a x) = false
is_ticks (Line.keep k x) = false
