-- Parts of ticks and starts of answers, in plain numbers and words. Assumes nothing.
use mathlib.Core.Path.{◌≡◌, refl}
use mathlib.Core.Bool.{true, false}
use mathlib.Core.List.{[], ◌∷◌, ◌++◌}
use native.Mathlib.Omega.{arith}
use lib.ListN.{replicate}
use Rattle.numeral.specs.Digit.{glyph, digits}
use Rattle.numeral.specs.Place.{joined}
use Rattle.numeral.specs.Print.{width_from, decimal_width, decimal}
use Rattle.line_buffer.specs.Lines.{has_line}
use Rattle.device.specs.declared.Model.{Model}
use Rattle.device.specs.declared.Answer.TheVariants.{Ticked}
use Rattle.device.specs.Event.{with_left, no_schedule, in_event, starts_left, begins, begins_group, fails, left_after, wait_after, started_after}
use Rattle.device.specs.Event.{settled_after, good_after, tick_schedule, counts_sound, wait_sound, balance_sound, schedule_sound}
use Rattle.device.specs.Model.{with_flight, flight_with, no_flight, no_temperature, fresh_with, fresh_model, sum_fits, flight_sound, is_sound}
use Rattle.device.specs.Results.{failed_flight}
use Rattle.device.specs.Tick.{flight_ticked, flight_after, temperature_after, tick_model, report_of}
use Rattle.device.proofs.Replies.{reply-tick}
use Rattle.device.proofs.Sound.{Bounds, flight-of, bounds_of, sound-of, ticked-bounds, fresh-sound}
use Rattle.device.specs.Stretch.{model_ticked}
use Rattle.numeral.specs.Ascii.{ascii}
use Rattle.wording.specs.Wording.{numbered, expected, report_at}
use Rattle.item_calls.specs.Lines.{ticked}
use Rattle.item_checks.specs.Close.{place_of, starts_with, begins_with}
use Rattle.line_text.specs.Text.{differing_text}
use Rattle.tick_parts.specs.Kept.{Startable, judged_rest}
use Rattle.tick_parts.specs.Singly.{one_reported, singly}
use Rattle.tick_parts.specs.Ticks.{afterwards}
use Rattle.tick_parts.proofs.Singly.{ticks-singly}
use Rattle.tick_parts.proofs.Ticks.{part_cut}
use Rattle.tick_parts.proofs.Behind.{tick-startable}

-- 1,048,577 ticks are a part and one more tick, whose number goes on.
one_more : (m : Model) → ticked 1048577 1048577 0 m ≡ afterwards (ticked 1048576 1048576 0 m) 1 1048576
one_more m = part_cut 1048577 0 m (omega arith)

-- `tick 5 => 6`, with `tick 5` kept apart: what differs stands in the rest of the first line; and `tick 5 => 5`.
differing-rest : judged_rest (ascii "6" ∷ []) [] (ascii "tick 5 started-flight@3\n") (ascii " started-flight@3\n")
    ≡ ascii " started-flight@3 expected 6\n"
unfolding ascii judged_rest differing_text expected begins_with starts_with place_of joined
differing-rest = refl

announced-rest : judged_rest (ascii "5" ∷ []) [] (ascii "tick 5 started-flight@3\n") (ascii " started-flight@3\n")
    ≡ ascii " started-flight@3\n"
unfolding ascii judged_rest differing_text expected begins_with starts_with place_of joined
announced-rest = refl

-- A start to which the laws apply, longer than what is kept of it: that of `tick 5000000 => 1`.
a-start : Startable (ascii "1" ∷ []) (joined (numbered (ascii "tick ") 5000000) ++ replicate 2100 65)
unfolding ascii has_line
a-start = tick-startable (ascii "1" ∷ []) 5000000 (replicate 2100 65) (omega arith, tt) refl

-- ---- single ticks

-- The seventh tick, in which a flight measurement started and a temperature measurement failed.
seventh : joined (one_reported (Ticked record { started = true; failed = false } record { started = false; failed = true }) 7)
    ≡ ascii " started-flight@7 failed-temperature@7"
unfolding one_reported report_at decimal decimal_width width_from digits glyph joined ascii
seventh = refl

-- A model that awaits a flight measurement, which fails in the second tick from here.
abbrev awaiting : Model
awaiting = with_flight fresh_model (flight_with no_flight (with_left no_schedule 2))

awaiting-sound : is_sound awaiting ≡ true
unfolding flight_sound sum_fits schedule_sound counts_sound wait_sound balance_sound no_flight no_schedule starts_left in_event
awaiting-sound =
    let fresh : Bounds fresh_model = bounds_of fresh_model fresh-sound in
    sound-of awaiting record {
      clock = fresh.clock;
      alarm = fresh.alarm;
      flight = flight-of awaiting.flight refl;
      temperature = fresh.temperature;
    }

-- Three ticks of it report this, with the tick's number, and nothing else; where seven were before them, it is the ninth.
second-fails : (joined (singly 3 0 awaiting).texts ≡ ascii " failed-flight@2")
    × (joined (singly 3 7 awaiting).texts ≡ ascii " failed-flight@9")
unfolding singly one_reported report_at report_of model_ticked tick_model flight_after flight_ticked failed_flight temperature_after fresh_model fresh_with no_flight no_temperature no_schedule tick_schedule starts_left begins begins_group fails left_after wait_after started_after settled_after good_after decimal decimal_width width_from digits glyph joined ascii
second-fails =
    let b : Bounds awaiting = bounds_of awaiting awaiting-sound in
    let first = reply-tick awaiting awaiting-sound in
    let second = reply-tick (model_ticked 1 awaiting) (sound-of (model_ticked 1 awaiting) (ticked-bounds 1 awaiting b)) in
    let third = reply-tick (model_ticked 2 awaiting) (sound-of (model_ticked 2 awaiting) (ticked-bounds 2 awaiting b)) in
    (rw (first, second, third), rw (first, second, third))

-- A fresh model's ticks report nothing.
fresh-quiet : (singly 3 0 fresh_model).texts ≡ []
unfolding singly one_reported report_at report_of model_ticked tick_model flight_after flight_ticked temperature_after fresh_model fresh_with no_flight no_temperature no_schedule tick_schedule starts_left begins begins_group fails left_after wait_after started_after settled_after good_after
fresh-quiet =
    let b : Bounds fresh_model = bounds_of fresh_model fresh-sound in
    let first = reply-tick fresh_model fresh-sound in
    let second = reply-tick (model_ticked 1 fresh_model) (sound-of (model_ticked 1 fresh_model) (ticked-bounds 1 fresh_model b)) in
    let third = reply-tick (model_ticked 2 fresh_model) (sound-of (model_ticked 2 fresh_model) (ticked-bounds 2 fresh_model b)) in
    rw (first, second, third)

-- A line of these ticks tells the same.
second-fails-told : joined (ticked 3 3 0 awaiting).texts ≡ ascii " failed-flight@2"
second-fails-told = rw (ticks-singly 3 0 awaiting awaiting-sound (omega arith)) second-fails.0
