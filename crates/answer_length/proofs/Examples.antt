-- Lengths in plain numbers. Assumes nothing.
use Prim.Native.Nat.{ℕ, ◌+◌, ◌*◌, ◌≤◌}
use mathlib.Core.List.{[], ◌∷◌}
use mathlib.Core.Path.{◌≡◌, refl}
use mathlib.Core.Bool.{false}
use native.Mathlib.Omega.{arith}
use lib.IntN.{pos, negsuc}
use lib.ListN.{length, replicate, length-replicate, get_or-replicate}
use Rattle.numeral.specs.Digit.{digits, glyph}
use Rattle.numeral.specs.Place.{joined}
use Rattle.numeral.specs.Print.{width_from, decimal_width, decimal, ten_thousandths, four_decimals, nanoseconds}
use Rattle.device.specs.Event.{no_schedule}
use Rattle.device.specs.Model.{no_flight, no_temperature, fresh_with, fresh_model}
use Rattle.listing.specs.Listing.{sign, right_justified, line, lines, last_above}
use Rattle.line.specs.declared.Content.{Content}
use Rattle.numeral.specs.Ascii.{ascii}
use Rattle.wording.specs.Wording.{counted, listing_head, tick_reports, report_at}
use Rattle.item_state.specs.Log.{Log}
use Rattle.item_calls.specs.Lines.{WithFlash}
use Rattle.answer_text.specs.Texts.{is_listing, told_of_listing}
use Rattle.answer_length.specs.Longest.{longest, Small, Roomy}

-- A listing has 23 bytes for each difference, behind `listing 2`; 4,096 of them with a first line of 29 bytes are within the longest.
a-listing : length (joined (told_of_listing 8 0xFE (pos 65536 ∷ negsuc 0 ∷ []) 2 []).texts) ≡ 10 + 2 * 23
unfolding told_of_listing last_above listing_head counted lines line sign right_justified nanoseconds ten_thousandths four_decimals decimal decimal_width width_from digits glyph joined ascii
a-listing = refl

a-full-listing : 29 + 4096 * 23 ≤ longest (Content.Listing false 1)
unfolding longest is_listing
a-full-listing = omega arith

-- A stretch whose four things happen in one tick of ten digits has 112 bytes of them.
four-reports : length (joined (tick_reports record { started = record { 0 = 5 }; failed = record { 0 = 5 } } record { started = record { 0 = 5 }; failed = record { 0 = 5 } } 5 4000000000)) ≡ 112
unfolding tick_reports report_at decimal decimal_width width_from digits glyph joined ascii
four-reports = refl

-- The longest answer behind 49,152 bytes, and what else stands around it, fill the buffer.
the-buffer : 49152 + 20448 + longest (Content.Listing false 1) ≡ 163840
unfolding longest is_listing
the-buffer = refl

-- A state to which the law applies: a fresh model, with each buffer as large as the program has it.
abbrev log : Log
log = record { counts = replicate 22 0; answers = replicate 163840 0 }

abbrev state : WithFlash
state = record { model = fresh_model; flash = replicate 8192 255; log = log }

fresh-waits : (fresh_model.flight.schedule.wait.0 ≡ 0) × (fresh_model.temperature.schedule.wait.0 ≡ 0)
unfolding fresh_model fresh_with no_flight no_temperature no_schedule
fresh-waits = (refl, refl)

a-small-state : Small (replicate 512 0) state (replicate 4096 (pos 0))
a-small-state = record {
  numbers_few = rw length-replicate (omega arith);
  differences_few = rw length-replicate (omega arith);
  differences_fit = λ k h. rw (get_or-replicate 4096 k (pos 0) (pos 0) (rw (length-replicate 4096 (pos 0)) at h)) (omega arith);
  flight_wait = rw fresh-waits.0 (omega arith);
  temperature_wait = rw fresh-waits.1 (omega arith);
}

a-roomy-log : Roomy log
a-roomy-log = record { some = omega arith; used = omega arith; places = length-replicate {A = ℕ} 163840 0 }
