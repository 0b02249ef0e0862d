-- Answers in plain numbers and words, by themselves and on a page. Assumes nothing.
use Prim.Native.Nat.{ℕ}
use Prim.Native.String.{String}
use mathlib.Core.Bool.{true, false}
use mathlib.Core.List.{List, [], ◌∷◌, ◌++◌}
use mathlib.Core.Path.{◌≡◌, refl}
use lib.IntN.{pos, negsuc}
use Rattle.numeral.specs.Digit.{digits, glyph}
use Rattle.numeral.specs.Place.{overwrite, next_place, written, put_each, joined}
use Rattle.numeral.specs.Print.{width_from, decimal_width, decimal, signed_decimal, thousandths, ten_thousandths, four_decimals, nanoseconds, hex_bytes}
use Rattle.device.specs.declared.Model.{Model}
use Rattle.device.specs.Model.{is_sound}
use Rattle.device.specs.Call.{Call, verdict, refused as turned_away}
use Rattle.device.specs.Reply.{number_in, buffer_of, reply_by, reply, output_by, output}
use Rattle.thermometer.specs.Degrees.{degrees_by}
use Rattle.difference.specs.Difference.{signed_of}
use Rattle.quietest.specs.Quietest.{larger, smaller, extreme, spread, run_spread}
use Rattle.listing.specs.Listing.{sign, right_justified, line, lines, last_above}
use Rattle.line.specs.declared.Content.{Content}
use Rattle.numeral.specs.Ascii.{ascii}
use Rattle.wording.specs.Wording.{bus_answer, output_buffer, bus, counted, numbered, difference, difference_texts, record_texts, refusal_words, refusal_word, refusal, refused, probe, degrees, listing_head, quietest}
use Rattle.item_state.specs.Log.{Log, added, call_counted, refusals}
use Rattle.item_calls.specs.Lines.{start_moment, moved, ticked}
use Rattle.item_questions.specs.Answers.{differing}
use Rattle.item_analysis.specs.Kept.{kept_one, kept_each}
use Rattle.item_analysis.specs.Lines.{ItemKept, degrees_of, record_words}
use Rattle.answer_text.specs.Texts.{on_page, told_of_transaction, told_of_bus, told_of_head, end_texts, told_of_part, told_of_ticks, told_of_tick, told_of_at, told_of_expect, told_of_frames, told_of_probe, told_in_degrees, told_of_degrees, told_of_record, told_of_listing, told_of_place, recorded, analysis_told, is_listing}
use Rattle.refusal.specs.declared.Refusal.{Refusal}
use Rattle.refusal.specs.Number.{number}
use Rattle.std.specs.Prelude.{Ok, Err}

-- Where the answers end, the calls, the moment, the differences in the record, and the ticks that are left.
abbrev counts : ℕ → ℕ → ℕ → ℕ → ℕ → List ℕ
counts used calls moment kept left =
    used ∷ 0 ∷ 0 ∷ calls ∷ 0 ∷ 0 ∷ 0 ∷ 0 ∷ 0 ∷ moment ∷ kept ∷ 0 ∷ 0 ∷ 0 ∷ 0 ∷ 0 ∷ 0 ∷ 0 ∷ 0 ∷ 0 ∷ 0 ∷ left ∷ []

abbrev log : List ℕ → String → Log
log counts text = record { counts = counts; answers = ascii text }

abbrev item : Log → ItemKept
item l = record { differences = pos 0 ∷ pos 0 ∷ pos 0 ∷ []; probes = []; log = l }

-- `record 5 -1` into an empty record: its text, and two differences more; the first count stays.
a-record : (m : Model) (text : String)
    → let told = analysis_told (Content.Record 2) (5 ∷ 4294967295 ∷ []) m (item (log (counts 3 0 0 0 0) text)) in
    (joined told.texts ≡ ascii "record 5 -1\n") × (told.counts ≡ counts 3 0 0 2 0)
unfolding analysis_told told_of_record record_words record_texts difference_texts difference signed_decimal decimal decimal_width width_from digits glyph kept_each kept_one signed_of joined ascii
a-record m text = (refl, refl)

-- On the page it stands behind the three bytes before it, and the answers end behind it.
on-a-page : (m : Model)
    → let l = log (counts 3 0 0 0 0) "ab\n.............." in
    on_page (analysis_told (Content.Record 2) (5 ∷ 4294967295 ∷ []) m (item l)) l ≡ log (counts 15 0 0 2 0) "ab\nrecord 5 -1\n.."
unfolding on_page analysis_told told_of_record record_words record_texts difference_texts difference signed_decimal decimal decimal_width width_from digits glyph kept_each kept_one signed_of ascii overwrite next_place written put_each
on-a-page m = refl

-- `tick 7`: a call more, and seven ticks are left; a line that is under way does not begin again.
ticks-begin : (told_of_head (numbered (ascii "tick ") 7) 7 (moved 7 (counts 3 0 0 0 0)) (counts 3 0 0 0 0)
    ≡ record { texts = ascii "tick " ∷ ascii "7" ∷ []; counts = counts 3 1 7 0 7 })
    × (told_of_head (numbered (ascii "tick ") 7) 7 (moved 7 (counts 3 1 7 0 2)) (counts 3 1 7 0 2)
    ≡ record { texts = []; counts = counts 3 1 7 0 2 })
unfolding told_of_head numbered moved added call_counted decimal decimal_width width_from digits glyph ascii
ticks-begin = (refl, refl)

-- The line ends with its last tick.
ticks-end : (end_texts 0 ≡ ascii "\n" ∷ []) × (end_texts 2 ≡ [])
unfolding end_texts ascii
ticks-end = (refl, refl)

-- Two differences from capture FEh on in the old form; from FFh on the last capture is above FFh.
a-listing : (joined (told_of_listing 2 0xFE (pos 65536 ∷ negsuc 0 ∷ []) 2 (counts 3 0 0 2 0)).texts
    ≡ ascii "listing 2\nFE      250.0000\nFF -      0.0038\n")
    × (joined (told_of_listing 2 0xFF (pos 65536 ∷ negsuc 0 ∷ []) 2 (counts 3 0 0 2 0)).texts ≡ ascii "listing no 20 capture number\n")
unfolding told_of_listing last_above listing_head counted lines line sign right_justified nanoseconds ten_thousandths four_decimals refused refusal refusal_word refusal_words decimal decimal_width width_from digits glyph joined ascii
a-listing = (refl, refl)

-- ---- calls, questions, and what is kept

-- The calls, the refusals, the expectations, those that differ, and the entries of the probe table.
abbrev tallied : ℕ → ℕ → ℕ → ℕ → ℕ → List ℕ
tallied calls refused wanted differ entries = 20 ∷ 21 ∷ 22 ∷ calls ∷ refused ∷ 25 ∷ 26 ∷ wanted ∷ differ ∷ 29 ∷ 30 ∷ entries ∷ 32 ∷ []

-- A transaction that is refused with number 2, and a buffer of two bytes: they are EEh before it and after it.
refused-bus : (m : Model) (flash answers : List ℕ) → verdict m (Call.transaction (0x91 ∷ []) (0xEE ∷ 0xEE ∷ []) flash) ≡ turned_away Refusal.Opcode
    → let told = told_of_bus (0x91 ∷ []) 2 record { model = m; flash = flash; log = record { counts = tallied 8 3 5 6 1; answers = answers } } in
    (joined told.texts ≡ ascii "bus no 2 opcode out EEEE\n") × (told.counts ≡ tallied 9 4 5 6 1)
unfolding told_of_bus told_of_transaction reply reply_by output output_by buffer_of refusals number_in start_moment call_counted added bus bus_answer output_buffer refusal refusal_word refusal_words hex_bytes decimal decimal_width width_from digits glyph joined ascii
refused-bus m flash answers e = (rw e refl, rw e refl)

-- `at 7` where seven ticks have passed: a call, and no tick is left.
at_once : (m : Model) → (joined (told_of_at 7 m (counts 3 0 7 0 0)).texts ≡ ascii "at 7\n") × ((told_of_at 7 m (counts 3 0 7 0 0)).counts ≡ counts 3 1 7 0 0)
unfolding told_of_at told_of_head told_of_part end_texts ticked numbered call_counted added decimal decimal_width width_from digits glyph joined ascii
at_once m = (refl, refl)

-- `tick 7` and `at 7` where two ticks have passed: their words, what seven ticks report, and five with two before them; each is a call.
seven-ticks : (m : Model) → (told_of_tick 7 m (counts 3 0 2 0 0) ≡ record { texts = ascii "tick " ∷ ascii "7" ∷ ((ticked 7 7 0 m).texts ++ (ascii "\n" ∷ [])); counts = counts 3 1 9 0 0 })
    × (told_of_at 7 m (counts 3 0 2 0 0) ≡ record { texts = ascii "at " ∷ ascii "7" ∷ ((ticked 5 5 2 m).texts ++ (ascii "\n" ∷ [])); counts = counts 3 1 7 0 0 })
unfolding told_of_tick told_of_ticks told_of_at told_of_head told_of_part end_texts numbered moved call_counted added decimal decimal_width width_from digits glyph ascii
seven-ticks m = (refl, refl)

-- Of 2,000,000 ticks left of 3,000,000 a part has 1,048,576, and the line does not end with it; of two left of seven it has both.
parts-of-ticks : (m : Model) → (told_of_part 3000000 m (counts 3 1 0 0 2000000) ≡ record { texts = (ticked 1048576 1048576 1000000 m).texts ++ []; counts = counts 3 1 0 0 951424 })
    × (told_of_part 7 m (counts 3 1 0 0 2) ≡ record { texts = (ticked 2 2 5 m).texts ++ (ascii "\n" ∷ []); counts = counts 3 1 0 0 0 })
unfolding told_of_part end_texts ascii
parts-of-ticks m = (refl, refl)

-- Of three words expected two differ.
an-expectation : (m : Model) → differing m 0xE2 (1 ∷ 2 ∷ 3 ∷ []) ≡ 2 → (told_of_expect m 0xE2 (1 ∷ 2 ∷ 3 ∷ []) (tallied 8 3 5 6 1)).counts ≡ tallied 8 3 8 8 1
unfolding told_of_expect added
an-expectation m e = rw e refl

-- an unsound model, which no item has
no_frames : (m : Model) → is_sound m ≡ false → (joined (told_of_frames m (tallied 8 3 5 6 1)).texts ≡ ascii "frames no 0 record\n") × ((told_of_frames m (tallied 8 3 5 6 1)).counts ≡ tallied 9 4 5 6 1)
unfolding told_of_frames call_counted added refused refusal refusal_word refusal_words decimal decimal_width width_from digits glyph joined ascii
no_frames m e = (rw e refl, rw e refl)

-- `probe 300 7` behind one entry
a-probe : (joined (told_of_probe (300 ∷ 7 ∷ []) (5 ∷ 0 ∷ 0 ∷ 0 ∷ []) (tallied 8 3 5 6 1)).texts ≡ ascii "probe 3\n")
    × ((told_of_probe (300 ∷ 7 ∷ []) (5 ∷ 0 ∷ 0 ∷ 0 ∷ []) (tallied 8 3 5 6 1)).counts ≡ tallied 8 3 5 6 3)
unfolding told_of_probe kept_each kept_one probe counted decimal decimal_width width_from digits glyph joined ascii
a-probe = (refl, refl)

-- A temperature, and one that is off the table: each is a call, and the second is refused.
a-temperature : (joined (told_in_degrees (Ok 21500) (tallied 8 3 5 6 1)).texts ≡ ascii "degrees 21.500\n") × ((told_in_degrees (Ok 21500) (tallied 8 3 5 6 1)).counts ≡ tallied 9 3 5 6 1)
    × (joined (told_in_degrees (Err Refusal.OffTable) (tallied 8 3 5 6 1)).texts ≡ ascii "degrees no 13 off the table\n") × ((told_in_degrees (Err Refusal.OffTable) (tallied 8 3 5 6 1)).counts ≡ tallied 9 4 5 6 1)
unfolding told_in_degrees call_counted added degrees thousandths refused refusal refusal_word refusal_words decimal decimal_width width_from digits glyph joined ascii
a-temperature = (refl, refl, refl, refl)

-- The line's two numbers, by the one entry that the table has; a line with one number is none.
own-table : (a b : ℕ) → (told_of_degrees (a ∷ b ∷ []) (100000 ∷ 7 ∷ []) (tallied 8 3 5 6 1) ≡ told_in_degrees (degrees_by (100000 ∷ []) a b) (tallied 8 3 5 6 1))
    × (told_of_degrees (a ∷ []) (100000 ∷ 7 ∷ []) (tallied 8 3 5 6 1) ≡ record { texts = []; counts = tallied 8 3 5 6 1 })
unfolding told_of_degrees degrees_of
own-table a b = (refl, refl)

-- Of three places of the record's buffer two are used.
two-recorded : recorded (pos 5 ∷ pos 6 ∷ pos 7 ∷ []) (counts 3 1 0 2 0) ≡ pos 5 ∷ pos 6 ∷ []
two-recorded = refl

-- A run of two from the second difference on, and a width that is refused
a-run : (joined (told_of_place (Ok 1) (pos 5 ∷ pos 9 ∷ pos 7 ∷ []) 2 (tallied 8 3 5 6 1)).texts ≡ ascii "quietest 1 2\n") × ((told_of_place (Ok 1) (pos 5 ∷ pos 9 ∷ pos 7 ∷ []) 2 (tallied 8 3 5 6 1)).counts ≡ tallied 9 3 5 6 1)
    × (joined (told_of_place (Err Refusal.Width) [] 2 (tallied 8 3 5 6 1)).texts ≡ ascii "quietest no 18 width\n") × ((told_of_place (Err Refusal.Width) [] 2 (tallied 8 3 5 6 1)).counts ≡ tallied 9 4 5 6 1)
unfolding told_of_place run_spread spread extreme larger smaller call_counted added quietest counted refused refusal refusal_word refusal_words decimal decimal_width width_from digits glyph joined ascii
a-run = (refl, refl, refl, refl)

-- A listing is a call, and one that is refused a refusal.
listing-counts : ((told_of_listing 2 0xFE (pos 1 ∷ pos 2 ∷ []) 2 (tallied 8 3 5 6 1)).counts ≡ tallied 9 3 5 6 1) × ((told_of_listing 2 0xFF (pos 1 ∷ pos 2 ∷ []) 2 (tallied 8 3 5 6 1)).counts ≡ tallied 9 4 5 6 1)
unfolding told_of_listing last_above call_counted added
listing-counts = (refl, refl)

-- `listing` alone is a listing.
listings : (is_listing Content.Nothing ≡ false) × (is_listing Content.TooLong ≡ false) × (is_listing Content.UnknownWord ≡ false) × (is_listing Content.BadNumber ≡ false)
    × (is_listing Content.WrongCount ≡ false) × (is_listing Content.Item ≡ false) × (is_listing (Content.Bus 1) ≡ false) × (is_listing (Content.BusOut 2 1) ≡ false)
    × (is_listing (Content.Tick 5) ≡ false) × (is_listing (Content.Flight 1 1) ≡ false) × (is_listing (Content.Temperature 4) ≡ false) × (is_listing Content.Int ≡ false)
    × (is_listing Content.Awaited ≡ false) × (is_listing Content.Regs ≡ false) × (is_listing (Content.Expect 176 1) ≡ false) × (is_listing Content.Show ≡ false)
    × (is_listing (Content.Set 56 1) ≡ false) × (is_listing (Content.At 5) ≡ false) × (is_listing (Content.Stretch 5) ≡ false) × (is_listing Content.Frames ≡ false)
    × (is_listing (Content.Probe 1) ≡ false) × (is_listing Content.Degrees ≡ false) × (is_listing (Content.Record 1) ≡ false) × (is_listing (Content.Listing false 1) ≡ true)
    × (is_listing (Content.Quietest 1) ≡ false)
unfolding is_listing
listings =
    (refl, refl, refl, refl, refl, refl, refl, refl, refl, refl, refl, refl, refl, refl, refl, refl, refl, refl, refl, refl, refl, refl, refl, refl, refl)
