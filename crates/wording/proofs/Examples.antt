-- Answers in plain bytes, the text of each beside it. Assumes nothing.
use Prim.Native.Nat.{ℕ}
use mathlib.Core.Bool.{Bool, true, false}
use mathlib.Core.List.{[], ◌∷◌, ◌++◌}
use mathlib.Core.Path.{◌≡◌, refl}
use Rattle.numeral.specs.Digit.{digits, glyph}
use Rattle.numeral.specs.Place.{joined}
use Rattle.numeral.specs.Print.{hex_bytes, width_from, decimal_width, decimal, signed_decimal, thousandths}
use Rattle.device.specs.declared.Report.{Report}
use Rattle.device.specs.declared.StretchReport.{StretchReport}
use Rattle.device.specs.declared.Answer.TheVariants.{Refused, Accepted, Ticked, Stretched, Good, Failed}
use Rattle.line.specs.declared.Content.{Content}
use Rattle.numeral.specs.Ascii.{ascii}
use Rattle.wording.specs.Wording.{refusal_words, refusal_word, refusal, started, bus_answer, output_buffer, bus, set}
use Rattle.wording.specs.Wording.{delivery_answer, delivery, reported_where, kind_reports, quiet, ticked, single}
use Rattle.wording.specs.Wording.{report_at, tick_reports, sooner, next_named, later_named, named, stretched, head, pair}
use Rattle.wording.specs.Wording.{numbered, stretch, listing_head, place, expected as expected_texts, left_out, item_name}
use Rattle.wording.specs.Wording.{tick_head, at_head, reports_at, flight_kind, temperature_kind, interrupt_texts, awaited_texts, blank_word, word_texts, row_texts}
use Rattle.wording.specs.Wording.{byte_texts, frame_texts, frame_lines, frames_head, frames_refused, degrees_refused, difference_texts, record_texts, listing_refused, quietest_refused}
use Rattle.wording.specs.Wording.{counted, probe, degrees, refused, difference, quietest, why, fault, calls, faults}
use Rattle.refusal.specs.declared.Refusal.{Refusal}
use Rattle.refusal.specs.Number.{number}

-- of one tick: failed, started
abbrev report : Bool → Bool → Report
report failed started = record { started = started; failed = failed }

-- of a stretch: the tick of a failure, the tick of a start
abbrev ticks : ℕ → ℕ → StretchReport
ticks failed started = record { started = record { 0 = started }; failed = record { 0 = failed } }

-- `bus ok flight+temperature out EE0A`
bus-ok : joined (bus (Accepted true true) (0xEE ∷ 0x0A ∷ [])) ≡ 98 ∷ 117 ∷ 115 ∷ 32 ∷ 111 ∷ 107 ∷ 32 ∷ 102 ∷ 108 ∷ 105 ∷ 103 ∷ 104 ∷ 116 ∷ 43 ∷ 116 ∷ 101 ∷ 109 ∷ 112 ∷ 101 ∷ 114 ∷ 97 ∷ 116 ∷ 117 ∷ 114 ∷ 101 ∷ 32 ∷ 111 ∷ 117 ∷ 116 ∷ 32 ∷ 69 ∷ 69 ∷ 48 ∷ 65 ∷ 10 ∷ []
unfolding joined bus bus_answer started output_buffer hex_bytes digits glyph ascii
bus-ok = refl

-- `bus ok -`
bus-quiet : joined (bus (Accepted false false) []) ≡ 98 ∷ 117 ∷ 115 ∷ 32 ∷ 111 ∷ 107 ∷ 32 ∷ 45 ∷ 10 ∷ []
unfolding joined bus bus_answer started output_buffer ascii
bus-quiet = refl

-- `set no 6 busy`
set-refused : joined (set (Refused Refusal.Busy)) ≡ 115 ∷ 101 ∷ 116 ∷ 32 ∷ 110 ∷ 111 ∷ 32 ∷ 54 ∷ 32 ∷ 98 ∷ 117 ∷ 115 ∷ 121 ∷ 10 ∷ []
unfolding joined set bus_answer refusal refusal_word refusal_words decimal decimal_width width_from digits glyph ascii
set-refused = refl

-- `flight no 10 not awaited`
flight-refused : joined (delivery (ascii "flight") (Refused Refusal.NotAwaited)) ≡ 102 ∷ 108 ∷ 105 ∷ 103 ∷ 104 ∷ 116 ∷ 32 ∷ 110 ∷ 111 ∷ 32 ∷ 49 ∷ 48 ∷ 32 ∷ 110 ∷ 111 ∷ 116 ∷ 32 ∷ 97 ∷ 119 ∷ 97 ∷ 105 ∷ 116 ∷ 101 ∷ 100 ∷ 10 ∷ []
unfolding joined delivery delivery_answer refusal refusal_word refusal_words decimal decimal_width width_from digits glyph ascii
flight-refused = refl

-- `temperature good`
temperature-good : joined (delivery (ascii "temperature") Good) ≡ 116 ∷ 101 ∷ 109 ∷ 112 ∷ 101 ∷ 114 ∷ 97 ∷ 116 ∷ 117 ∷ 114 ∷ 101 ∷ 32 ∷ 103 ∷ 111 ∷ 111 ∷ 100 ∷ 10 ∷ []
unfolding joined delivery delivery_answer ascii
temperature-good = refl

-- `flight failed`
flight-failed : joined (delivery (ascii "flight") Failed) ≡ 102 ∷ 108 ∷ 105 ∷ 103 ∷ 104 ∷ 116 ∷ 32 ∷ 102 ∷ 97 ∷ 105 ∷ 108 ∷ 101 ∷ 100 ∷ 10 ∷ []
unfolding joined delivery delivery_answer ascii
flight-failed = refl

-- `tick 1`
tick-quiet : joined (single (Ticked (report false false) (report false false))) ≡ 116 ∷ 105 ∷ 99 ∷ 107 ∷ 32 ∷ 49 ∷ 10 ∷ []
unfolding joined single quiet ascii
tick-quiet = refl

-- `tick 1 failed-flight@1 started-flight@1 started-temperature@1`
tick-told : joined (single (Ticked (report true true) (report false true))) ≡ 116 ∷ 105 ∷ 99 ∷ 107 ∷ 32 ∷ 49 ∷ 32 ∷ 102 ∷ 97 ∷ 105 ∷ 108 ∷ 101 ∷ 100 ∷ 45 ∷ 102 ∷ 108 ∷ 105 ∷ 103 ∷ 104 ∷ 116 ∷ 64 ∷ 49 ∷ 32 ∷ 115 ∷ 116 ∷ 97 ∷ 114 ∷ 116 ∷ 101 ∷ 100 ∷ 45 ∷ 102 ∷ 108 ∷ 105 ∷ 103 ∷ 104 ∷ 116 ∷ 64 ∷ 49 ∷ 32 ∷ 115 ∷ 116 ∷ 97 ∷ 114 ∷ 116 ∷ 101 ∷ 100 ∷ 45 ∷ 116 ∷ 101 ∷ 109 ∷ 112 ∷ 101 ∷ 114 ∷ 97 ∷ 116 ∷ 117 ∷ 114 ∷ 101 ∷ 64 ∷ 49 ∷ 10 ∷ []
unfolding joined single quiet ticked kind_reports reported_where ascii
tick-told = refl

-- ` 9000 failed-flight@70 failed-temperature@70 started-flight@8000 started-temperature@8192`
stretch-told : joined (stretched (Stretched (ticks 70 8000) (ticks 70 8192)) 9000) ≡ 32 ∷ 57 ∷ 48 ∷ 48 ∷ 48 ∷ 32 ∷ 102 ∷ 97 ∷ 105 ∷ 108 ∷ 101 ∷ 100 ∷ 45 ∷ 102 ∷ 108 ∷ 105 ∷ 103 ∷ 104 ∷ 116 ∷ 64 ∷ 55 ∷ 48 ∷ 32 ∷ 102 ∷ 97 ∷ 105 ∷ 108 ∷ 101 ∷ 100 ∷ 45 ∷ 116 ∷ 101 ∷ 109 ∷ 112 ∷ 101 ∷ 114 ∷ 97 ∷ 116 ∷ 117 ∷ 114 ∷ 101 ∷ 64 ∷ 55 ∷ 48 ∷ 32 ∷ 115 ∷ 116 ∷ 97 ∷ 114 ∷ 116 ∷ 101 ∷ 100 ∷ 45 ∷ 102 ∷ 108 ∷ 105 ∷ 103 ∷ 104 ∷ 116 ∷ 64 ∷ 56 ∷ 48 ∷ 48 ∷ 48 ∷ 32 ∷ 115 ∷ 116 ∷ 97 ∷ 114 ∷ 116 ∷ 101 ∷ 100 ∷ 45 ∷ 116 ∷ 101 ∷ 109 ∷ 112 ∷ 101 ∷ 114 ∷ 97 ∷ 116 ∷ 117 ∷ 114 ∷ 101 ∷ 64 ∷ 56 ∷ 49 ∷ 57 ∷ 50 ∷ []
unfolding joined stretched named later_named next_named sooner tick_reports report_at decimal decimal_width width_from digits glyph ascii
stretch-told = refl

-- ` started-flight@105 failed-flight@130`
ticks-after-others : joined (named (ticks 30 5) (ticks 0 0) 100) ≡ 32 ∷ 115 ∷ 116 ∷ 97 ∷ 114 ∷ 116 ∷ 101 ∷ 100 ∷ 45 ∷ 102 ∷ 108 ∷ 105 ∷ 103 ∷ 104 ∷ 116 ∷ 64 ∷ 49 ∷ 48 ∷ 53 ∷ 32 ∷ 102 ∷ 97 ∷ 105 ∷ 108 ∷ 101 ∷ 100 ∷ 45 ∷ 102 ∷ 108 ∷ 105 ∷ 103 ∷ 104 ∷ 116 ∷ 64 ∷ 49 ∷ 51 ∷ 48 ∷ []
unfolding joined named later_named next_named sooner tick_reports report_at decimal decimal_width width_from digits glyph ascii
ticks-after-others = refl

-- ` no 12 span`
span : joined (stretched (Refused Refusal.Span) 5) ≡ 32 ∷ 110 ∷ 111 ∷ 32 ∷ 49 ∷ 50 ∷ 32 ∷ 115 ∷ 112 ∷ 97 ∷ 110 ∷ []
unfolding joined stretched refusal refusal_word refusal_words decimal decimal_width width_from digits glyph ascii
span = refl

-- `expect E2 ok`
expected : joined (head 0xE2 0) ≡ 101 ∷ 120 ∷ 112 ∷ 101 ∷ 99 ∷ 116 ∷ 32 ∷ 69 ∷ 50 ∷ 32 ∷ 111 ∷ 107 ∷ []
unfolding joined head digits glyph ascii
expected = refl

-- `expect E2 differs E3:1432/1433`
unexpected : joined (head 0xE2 1 ++ pair 0xE3 0x1432 0x1433) ≡ 101 ∷ 120 ∷ 112 ∷ 101 ∷ 99 ∷ 116 ∷ 32 ∷ 69 ∷ 50 ∷ 32 ∷ 100 ∷ 105 ∷ 102 ∷ 102 ∷ 101 ∷ 114 ∷ 115 ∷ 32 ∷ 69 ∷ 51 ∷ 58 ∷ 49 ∷ 52 ∷ 51 ∷ 50 ∷ 47 ∷ 49 ∷ 52 ∷ 51 ∷ 51 ∷ []
unfolding joined head pair digits glyph ascii
unexpected = refl

-- nothing where a word is as expected
as-expected : joined (pair 0xE2 0xFFFE 0xFFFE) ≡ []
unfolding joined pair
as-expected = refl

-- `line 12: past`
past : joined (fault 12 (Content.At 5)) ≡ 108 ∷ 105 ∷ 110 ∷ 101 ∷ 32 ∷ 49 ∷ 50 ∷ 58 ∷ 32 ∷ 112 ∷ 97 ∷ 115 ∷ 116 ∷ 10 ∷ []
unfolding joined fault why decimal decimal_width width_from digits glyph ascii
past = refl

-- `line 7: wrong count`
wrong-count : joined (fault 7 Content.WrongCount) ≡ 108 ∷ 105 ∷ 110 ∷ 101 ∷ 32 ∷ 55 ∷ 58 ∷ 32 ∷ 119 ∷ 114 ∷ 111 ∷ 110 ∷ 103 ∷ 32 ∷ 99 ∷ 111 ∷ 117 ∷ 110 ∷ 116 ∷ 10 ∷ []
unfolding joined fault why decimal decimal_width width_from digits glyph ascii
wrong-count = refl

-- `line 900: no room`
no_room : joined (fault 900 (Content.Record 3)) ≡ 108 ∷ 105 ∷ 110 ∷ 101 ∷ 32 ∷ 57 ∷ 48 ∷ 48 ∷ 58 ∷ 32 ∷ 110 ∷ 111 ∷ 32 ∷ 114 ∷ 111 ∷ 111 ∷ 109 ∷ 10 ∷ []
unfolding joined fault why decimal decimal_width width_from digits glyph ascii
no_room = refl

-- `probe 3`
probes : joined (probe 3) ≡ 112 ∷ 114 ∷ 111 ∷ 98 ∷ 101 ∷ 32 ∷ 51 ∷ 10 ∷ []
unfolding joined probe counted decimal decimal_width width_from digits glyph ascii
probes = refl

-- `degrees 21.500`
temperature : joined (degrees 21500) ≡ 100 ∷ 101 ∷ 103 ∷ 114 ∷ 101 ∷ 101 ∷ 115 ∷ 32 ∷ 50 ∷ 49 ∷ 46 ∷ 53 ∷ 48 ∷ 48 ∷ 10 ∷ []
unfolding joined degrees thousandths decimal decimal_width width_from digits glyph ascii
temperature = refl

-- `degrees no 13 off the table`
off-the-table : joined (refused (ascii "degrees") 13) ≡ 100 ∷ 101 ∷ 103 ∷ 114 ∷ 101 ∷ 101 ∷ 115 ∷ 32 ∷ 110 ∷ 111 ∷ 32 ∷ 49 ∷ 51 ∷ 32 ∷ 111 ∷ 102 ∷ 102 ∷ 32 ∷ 116 ∷ 104 ∷ 101 ∷ 32 ∷ 116 ∷ 97 ∷ 98 ∷ 108 ∷ 101 ∷ 10 ∷ []
unfolding joined refused refusal refusal_word refusal_words decimal decimal_width width_from digits glyph ascii
off-the-table = refl

-- `degrees no 14 bad table`
bad-table : joined (refused (ascii "degrees") 14) ≡ 100 ∷ 101 ∷ 103 ∷ 114 ∷ 101 ∷ 101 ∷ 115 ∷ 32 ∷ 110 ∷ 111 ∷ 32 ∷ 49 ∷ 52 ∷ 32 ∷ 98 ∷ 97 ∷ 100 ∷ 32 ∷ 116 ∷ 97 ∷ 98 ∷ 108 ∷ 101 ∷ 10 ∷ []
unfolding joined refused refusal refusal_word refusal_words decimal decimal_width width_from digits glyph ascii
bad-table = refl

-- ` -480`
recorded : joined (difference 0xFFFFFE20) ≡ 32 ∷ 45 ∷ 52 ∷ 56 ∷ 48 ∷ []
unfolding joined difference signed_decimal decimal decimal_width width_from digits glyph ascii
recorded = refl

-- `listing no 20 capture number`
capture-number : joined (refused (ascii "listing") 20) ≡ 108 ∷ 105 ∷ 115 ∷ 116 ∷ 105 ∷ 110 ∷ 103 ∷ 32 ∷ 110 ∷ 111 ∷ 32 ∷ 50 ∷ 48 ∷ 32 ∷ 99 ∷ 97 ∷ 112 ∷ 116 ∷ 117 ∷ 114 ∷ 101 ∷ 32 ∷ 110 ∷ 117 ∷ 109 ∷ 98 ∷ 101 ∷ 114 ∷ 10 ∷ []
unfolding joined refused refusal refusal_word refusal_words decimal decimal_width width_from digits glyph ascii
capture-number = refl

-- `quietest 2 17`
run : joined (quietest 2 17) ≡ 113 ∷ 117 ∷ 105 ∷ 101 ∷ 116 ∷ 101 ∷ 115 ∷ 116 ∷ 32 ∷ 50 ∷ 32 ∷ 49 ∷ 55 ∷ 10 ∷ []
unfolding joined quietest counted decimal decimal_width width_from digits glyph ascii
run = refl

-- `quietest no 18 width`
width : joined (refused (ascii "quietest") 18) ≡ 113 ∷ 117 ∷ 105 ∷ 101 ∷ 116 ∷ 101 ∷ 115 ∷ 116 ∷ 32 ∷ 110 ∷ 111 ∷ 32 ∷ 49 ∷ 56 ∷ 32 ∷ 119 ∷ 105 ∷ 100 ∷ 116 ∷ 104 ∷ 10 ∷ []
unfolding joined refused refusal refusal_word refusal_words decimal decimal_width width_from digits glyph ascii
width = refl

-- `end 8 calls, 2 refused, 1 unannounced, 3 bad lines, 4 expectations, 0 differ`
last_line : joined (calls 8 2 1 ++ faults 3 4 0) ≡ 101 ∷ 110 ∷ 100 ∷ 32 ∷ 56 ∷ 32 ∷ 99 ∷ 97 ∷ 108 ∷ 108 ∷ 115 ∷ 44 ∷ 32 ∷ 50 ∷ 32 ∷ 114 ∷ 101 ∷ 102 ∷ 117 ∷ 115 ∷ 101 ∷ 100 ∷ 44 ∷ 32 ∷ 49 ∷ 32 ∷ 117 ∷ 110 ∷ 97 ∷ 110 ∷ 110 ∷ 111 ∷ 117 ∷ 110 ∷ 99 ∷ 101 ∷ 100 ∷ 44 ∷ 32 ∷ 51 ∷ 32 ∷ 98 ∷ 97 ∷ 100 ∷ 32 ∷ 108 ∷ 105 ∷ 110 ∷ 101 ∷ 115 ∷ 44 ∷ 32 ∷ 52 ∷ 32 ∷ 101 ∷ 120 ∷ 112 ∷ 101 ∷ 99 ∷ 116 ∷ 97 ∷ 116 ∷ 105 ∷ 111 ∷ 110 ∷ 115 ∷ 44 ∷ 32 ∷ 48 ∷ 32 ∷ 100 ∷ 105 ∷ 102 ∷ 102 ∷ 101 ∷ 114 ∷ 10 ∷ []
unfolding joined calls faults counted decimal decimal_width width_from digits glyph ascii
last_line = refl

-- What stands around an answer.
around : (joined (place (ascii "a.item") 12) ≡ ascii "a.item:12: ") × (joined (expected_texts (ascii "ok -")) ≡ ascii " expected ok -")
    × (joined (item_name (ascii "item one")) ≡ ascii " (item one)\n")
unfolding joined place expected_texts item_name counted decimal decimal_width width_from digits glyph ascii
around = (refl, refl, refl)

-- ` ..`
rest : joined left_out ≡ 32 ∷ 46 ∷ 46 ∷ []
unfolding joined left_out ascii
rest = refl

-- The first words of `tick`, `at`, `stretch` and `listing`.
heads : (joined (numbered (ascii "tick ") 70000) ≡ ascii "tick 70000") × (joined (stretch (Refused Refusal.Span) 0) ≡ ascii "stretch no 12 span\n")
    × (joined (listing_head 3) ≡ ascii "listing 3\n")
unfolding joined numbered stretch stretched listing_head counted refusal refusal_word refusal_words decimal decimal_width width_from digits glyph ascii
heads = (refl, refl, refl)

-- ---- in words

-- the words of 0 to 21, and of any number past them
words-of-refusals : (refusal_word 0 ≡ "record") × (refusal_word 1 ≡ "no frame") × (refusal_word 2 ≡ "opcode") × (refusal_word 3 ≡ "frame length") × (refusal_word 4 ≡ "address")
    × (refusal_word 5 ≡ "short output") × (refusal_word 6 ≡ "busy") × (refusal_word 7 ≡ "calendar") × (refusal_word 8 ≡ "not initialised") × (refusal_word 9 ≡ "set-up")
    × (refusal_word 10 ≡ "not awaited") × (refusal_word 11 ≡ "word count") × (refusal_word 12 ≡ "span") × (refusal_word 13 ≡ "off the table") × (refusal_word 14 ≡ "bad table")
    × (refusal_word 15 ≡ "supply off") × (refusal_word 16 ≡ "flash address") × (refusal_word 17 ≡ "not erased") × (refusal_word 18 ≡ "width") × (refusal_word 19 ≡ "short buffer")
    × (refusal_word 20 ≡ "capture number") × (refusal_word 21 ≡ "short output") × (refusal_word 22 ≡ "unknown") × (refusal_word 99 ≡ "unknown")
unfolding refusal_word refusal_words
words-of-refusals =
    (refl, refl, refl, refl, refl, refl, refl, refl, refl, refl, refl, refl, refl, refl, refl, refl, refl, refl, refl, refl, refl, refl, refl, refl)

-- Each thing that a single tick can report, by itself and with the others.
single-ticks : (joined (single (Ticked (report true false) (report false false))) ≡ ascii "tick 1 failed-flight@1\n")
    × (joined (single (Ticked (report false true) (report false false))) ≡ ascii "tick 1 started-flight@1\n")
    × (joined (single (Ticked (report false false) (report true false))) ≡ ascii "tick 1 failed-temperature@1\n")
    × (joined (single (Ticked (report false false) (report false true))) ≡ ascii "tick 1 started-temperature@1\n")
    × (joined (single (Ticked (report true true) (report true true))) ≡ ascii "tick 1 failed-flight@1 started-flight@1 failed-temperature@1 started-temperature@1\n")
unfolding joined single quiet ticked kind_reports reported_where ascii
single-ticks = (refl, refl, refl, refl, refl)

-- whether a tick is quiet, of each of its four
quiet-exactly : (quiet (report false false) (report false false) ≡ true) × (quiet (report false true) (report false false) ≡ false)
    × (quiet (report true false) (report false false) ≡ false) × (quiet (report false false) (report false true) ≡ false)
    × (quiet (report false false) (report true false) ≡ false)
unfolding quiet
quiet-exactly = (refl, refl, refl, refl, refl)

-- a stretch that names its first ticks, one that names none, and four ticks one after the other, whatever their kind
named-ticks : (joined (named (ticks 0 1) (ticks 0 2) 0) ≡ ascii " started-flight@1 started-temperature@2") × (joined (named (ticks 0 0) (ticks 0 0) 0) ≡ [])
    × (joined (named (ticks 7 5) (ticks 3 9) 10) ≡ ascii " failed-temperature@13 started-flight@15 failed-flight@17 started-temperature@19")
    × (joined (named (ticks 4 4) (ticks 4 4) 0) ≡ ascii " failed-flight@4 started-flight@4 failed-temperature@4 started-temperature@4")
unfolding joined named later_named tick_reports report_at next_named sooner decimal decimal_width width_from digits glyph ascii
named-ticks = (refl, refl, refl, refl)

-- the six texts of bad lines
reasons : (why Content.TooLong ≡ ": too long\n") × (why Content.UnknownWord ≡ ": unknown word\n") × (why Content.BadNumber ≡ ": bad number\n")
    × (why Content.WrongCount ≡ ": wrong count\n") × (why (Content.At 5) ≡ ": past\n") × (why (Content.Probe 1) ≡ ": no room\n") × (why (Content.Record 1) ≡ ": no room\n")
unfolding why
reasons = (refl, refl, refl, refl, refl, refl, refl)

-- `int`, `awaited` and a row of `regs`
questions : (joined (interrupt_texts 0) ≡ ascii "int no\n") × (joined (interrupt_texts 1) ≡ ascii "int yes\n") × (joined (awaited_texts 1 0) ≡ ascii "awaited 1 0\n")
    × (joined (row_texts 0xF8 (0 ∷ 0x1A ∷ 0xFFFF ∷ 7 ∷ 0x100C ∷ 0 ∷ 0 ∷ 0x8000 ∷ [])) ≡ ascii "F8 0000 001A FFFF 0007 100C 0000 0000 8000\n")
unfolding joined row_texts word_texts blank_word decimal decimal_width width_from digits glyph ascii
questions = (refl, refl, refl, refl)

-- `frames`, with two frames and refused, and `record`, with two differences and with none
frames-and-differences : (joined (frames_head 2 ++ frame_lines ((0x38 ∷ 0x10 ∷ 0x0A ∷ []) ∷ (0x42 ∷ 2 ∷ 0 ∷ []) ∷ [])) ≡ ascii "frames 2\nframe 38 10 0A\nframe 42 02 00\n")
    × (joined (frames_refused 0) ≡ ascii "frames no 0 record\n") × (joined (record_texts (0xFFFFFE20 ∷ 7 ∷ [])) ≡ ascii "record -480 7\n") × (joined (record_texts []) ≡ ascii "record\n")
unfolding joined frame_lines frame_texts byte_texts record_texts difference_texts difference counted refused refusal refusal_word refusal_words signed_decimal decimal decimal_width width_from digits glyph ascii
frames-and-differences = (refl, refl, refl, refl)

-- the first words of lines, what ticks report, and refusals
first-words : (joined (tick_head 70000) ≡ ascii "tick 70000") × (joined (at_head 262244) ≡ ascii "at 262244") × (joined (delivery flight_kind Good) ≡ ascii "flight good\n")
    × (joined (delivery temperature_kind Failed) ≡ ascii "temperature failed\n") × (joined (degrees_refused 13) ≡ ascii "degrees no 13 off the table\n")
    × (joined (listing_refused 20) ≡ ascii "listing no 20 capture number\n") × (joined (quietest_refused 18) ≡ ascii "quietest no 18 width\n")
    × (joined (reports_at true true true true 9) ≡ ascii " failed-flight@9 started-flight@9 failed-temperature@9 started-temperature@9")
unfolding joined numbered report_at delivery delivery_answer refused refusal refusal_word refusal_words decimal decimal_width width_from digits glyph ascii
first-words = (refl, refl, refl, refl, refl, refl, refl, refl)
