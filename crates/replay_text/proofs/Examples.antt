-- Replays in plain words and numbers. Assumes nothing.
use Prim.Native.Nat.{ℕ}
use mathlib.Core.Bool.{true, false}
use mathlib.Core.List.{List, [], ◌∷◌, ◌++◌}
use mathlib.Core.Path.{◌≡◌, refl}
use lib.IntN.{ℤ, pos}
use lib.ListN.{take, replicate}
use Rattle.numeral.specs.Digit.{digits, digit_of, glyph, are_digits, value_of}
use Rattle.numeral.specs.Place.{overwrite, next_place, written, joined}
use Rattle.numeral.specs.Print.{width_from, decimal_width, decimal}
use Rattle.numeral.specs.Read.{read_decimal, value_in}
use Rattle.device.specs.declared.Model.{Model}
use Rattle.device.specs.Event.{no_schedule, is_awaited, starts_left, begins, fails, left_after, wait_after, started_after, begins_group, settled_after, good_after, tick_schedule}
use Rattle.device.specs.Model.{no_flight, no_temperature, fresh_with, fresh_model}
use Rattle.device.specs.Question.{awaited_told}
use Rattle.device.specs.Stretch.{schedule_ticked, last_tick, stretch_report}
use Rattle.device.specs.StretchSteps.{progress}
use Rattle.device.proofs.Replies.{reply-stretch}
use Rattle.device.proofs.Sound.{fresh-sound}
use Rattle.line.specs.declared.Content.{Content}
use Rattle.line.specs.Words.{is_blank, ended, words_after, words, same_bytes}
use Rattle.line.specs.Mark.{takes_mark, before_mark, behind_mark, is_mark}
use Rattle.line.specs.Line.{alone, numbered as numbered_line, decimal_with, decimal_call, keyword_of, keyword_reading, later_reading, words_reading, words_expected, content_length, line_reading, line_expected}
use Rattle.line_buffer.specs.Lines.{has_line, with_first, lines_in, rest_in, last_line, text_lines, each_line}
use Rattle.numeral.specs.Ascii.{ascii}
use Rattle.wording.specs.Wording.{line_feed, numbered, counted, calls, faults, next_named, sooner, why, fault, place}
use Rattle.item_state.specs.Log.{added, call_counted}
use Rattle.item_state.specs.Told.{told_value}
use Rattle.item_calls.specs.Lines.{moved, ticked, onward, stretch_reports, call_line, timed_line, beside}
use Rattle.item_questions.specs.Answers.{awaited, question_line}
use Rattle.item_analysis.specs.Lines.{analysis_line}
use Rattle.item_checks.specs.Fault.{is_past_or_full, is_fault, left_of}
use Rattle.item_checks.specs.Open.{line_counted, is_item}
use Rattle.item_checks.specs.Close.{place_of, expected_of, refusal_counted, is_announced, briefly, trouble, tail}
use Rattle.answer_text.specs.Texts.{call_told, question_told, analysis_told}
use Rattle.answer_text.specs.Line.{line_told, line_left}
use Rattle.session.specs.Line.{line_done}
use Rattle.session.specs.Ends.{names_begun, counts_begun, last_texts}
use Rattle.line_text.specs.Text.{head_told, begun_told, fault_told, item_told, names_after, judged_text, judged_counts, closed_counts, looked_text, closed_text}
use Rattle.line_text.specs.Text.{shown_answer, told_text, told_counts}
use Rattle.replay_text.specs.Replay.{TickLine, tick_lines, ticks_told, ticks_done, told_by, done_by, opening, own_whole, done_whole, Page, content_page, page_line, first_page, last_page, last_text, replay_text}

-- The calls, the bad lines, the moment, and 1 in a check.
abbrev counts : ℕ → ℕ → ℕ → ℕ → List ℕ
counts calls bad moment check =
    0 ∷ 0 ∷ 0 ∷ calls ∷ 0 ∷ 0 ∷ bad ∷ 0 ∷ 0 ∷ moment ∷ 0 ∷ 0 ∷ 0 ∷ 0 ∷ check ∷ 0 ∷ 0 ∷ 0 ∷ 0 ∷ 0 ∷ 0 ∷ 0 ∷ []

-- ---- lines of ticks

-- `tick 5` runs five ticks, counted from 1.
five-ticks : tick_lines (Content.Tick 5) (counts 0 0 3 0)
    ≡ record { head = ascii "tick " ∷ ascii "5" ∷ []; ticks = 5; before = 0; counts = counts 0 0 8 0 } ∷ []
unfolding tick_lines numbered moved added decimal decimal_width width_from digits glyph ascii
five-ticks = refl

-- `tick 1` is told as a single tick.
one-tick : tick_lines (Content.Tick 1) (counts 0 0 3 0) ≡ []
unfolding tick_lines
one-tick = refl

-- `at 7` where three ticks have passed runs four, counted from the fourth on.
at-seven : tick_lines (Content.At 7) (counts 0 0 3 0)
    ≡ record { head = ascii "at " ∷ ascii "7" ∷ []; ticks = 4; before = 3; counts = counts 0 0 7 0 } ∷ []
unfolding tick_lines numbered decimal decimal_width width_from digits glyph ascii
at-seven = refl

-- `int` is no such line.
no-ticks : tick_lines Content.Int (counts 0 0 3 0) ≡ []
unfolding tick_lines
no-ticks = refl

-- Five ticks of a fresh model report nothing.
quiet-ticks : (ticked 5 5 0 fresh_model).texts ≡ []
unfolding ticked onward stretch_reports progress fresh_model fresh_with no_flight no_temperature no_schedule stretch_report last_tick schedule_ticked tick_schedule starts_left begins begins_group fails left_after wait_after started_after settled_after good_after next_named sooner
quiet-ticks = rw (reply-stretch fresh_model fresh-sound 5)

-- So `tick 5` on it tells no more than its own words, and is a call.
abbrev five_ticks : TickLine
five_ticks = record { head = ascii "tick " ∷ ascii "5" ∷ []; ticks = 5; before = 0; counts = counts 0 0 8 0 }

five-told : (joined (ticks_told five_ticks fresh_model).texts ≡ ascii "tick 5\n") × ((ticks_told five_ticks fresh_model).counts ≡ counts 1 0 8 0)
unfolding ticks_told call_counted added joined ascii
five-told = (rw quiet-ticks, refl)

-- ---- the first page

-- Of the file `f`: its name's one byte, and in a check 1 in place 14.
first-counts : ((first_page (ascii "f") false).replay.state.log.counts
    ≡ 0 ∷ 0 ∷ 0 ∷ 0 ∷ 0 ∷ 0 ∷ 0 ∷ 0 ∷ 0 ∷ 0 ∷ 0 ∷ 0 ∷ 0 ∷ 0 ∷ 0 ∷ 0 ∷ 1 ∷ 0 ∷ 0 ∷ 0 ∷ 0 ∷ 0 ∷ [])
    × ((first_page (ascii "f") true).replay.state.log.counts
    ≡ 0 ∷ 0 ∷ 0 ∷ 0 ∷ 0 ∷ 0 ∷ 0 ∷ 0 ∷ 0 ∷ 0 ∷ 0 ∷ 0 ∷ 0 ∷ 0 ∷ 1 ∷ 0 ∷ 1 ∷ 0 ∷ 0 ∷ 0 ∷ 0 ∷ 0 ∷ [])
unfolding first_page counts_begun next_place ascii
first-counts = (refl, refl)

first-name : take 2 (first_page (ascii "f") false).replay.names ≡ 102 ∷ 0 ∷ []
unfolding first_page names_begun written overwrite ascii
first-name = refl

-- ---- the last line

last_line_lem : last_text (counts 1 2 3 0) ≡ ascii "end 1 calls, 0 refused, 0 unannounced, 2 bad lines, 0 expectations, 0 differ\n"
unfolding last_text last_texts calls faults counted decimal decimal_width width_from digits glyph joined ascii
last_line_lem = refl

checked-last : last_text (counts 1 2 3 1) ≡ []
unfolding last_text
checked-last = refl

-- ---- whole lines, and a whole text

-- A fresh model awaits nothing.
fresh-awaited : awaited fresh_model ≡ ascii "awaited " ∷ ascii "0" ∷ ascii " " ∷ ascii "0" ∷ line_feed ∷ []
unfolding awaited awaited_told is_awaited told_value fresh_model fresh_with no_flight no_temperature no_schedule decimal decimal_width width_from digits glyph ascii
fresh-awaited = rw fresh-sound

-- What is kept beside the model, the text and the counts.
module _ (flash : List ℕ) (differences : List ℤ) (probes numbers names : List ℕ) where
  abbrev page : Model → List ℕ → List ℕ → Page
  page model text counts = record {
    text = text;
    numbers = numbers;
    replay = record {
      state = record {
        model = model;
        flash = flash;
        differences = differences;
        probes = probes;
        log = record { counts = counts; answers = [] };
      };
      names = names;
    };
  }

  -- The calls, the lines, the bad ones, those before this line, and the moment.
  abbrev line_counts : ℕ → ℕ → ℕ → ℕ → ℕ → List ℕ
  line_counts calls lines bad before moment =
      0 ∷ 0 ∷ lines ∷ calls ∷ 0 ∷ 0 ∷ bad ∷ 0 ∷ 0 ∷ moment ∷ 0 ∷ 0 ∷ 0 ∷ 0 ∷ 0 ∷ 0 ∷ 0 ∷ 0 ∷ before ∷ 0 ∷ 0 ∷ 0 ∷ []

  -- `x`: the text of a bad line behind all that is written, and no more than that is counted.
  unknown-word : (m : Model) (text : List ℕ)
      → page_line (ascii "x") (page m text (line_counts 0 0 0 0 0)) ≡ page m (text ++ ascii "line 1: unknown word\n") (line_counts 0 1 1 0 0)
  unfolding page_line content_page own_whole done_whole opening told_by done_by tick_lines told_text told_counts shown_answer line_reading words_reading content_length words words_after ended is_blank keyword_of same_bytes keyword_reading later_reading takes_mark before_mark behind_mark is_mark line_expected words_expected expected_of left_of is_fault fault_told fault why item_told names_after is_item line_told call_told question_told analysis_told line_done line_left call_line timed_line beside question_line analysis_line begun_told head_told line_counted added closed_text closed_counts judged_text judged_counts is_announced refusal_counted decimal decimal_width width_from digits glyph joined ascii
  unknown-word m text = refl

  -- `awaited` behind it
  awaited-line : (text : List ℕ)
      → page_line (ascii "awaited") (page fresh_model text (line_counts 0 1 1 0 0))
      ≡ page fresh_model (text ++ ascii "awaited 0 0\n") (line_counts 0 2 1 1 0)
  unfolding page_line content_page own_whole done_whole opening told_by done_by tick_lines told_text told_counts shown_answer line_reading words_reading content_length words words_after ended is_blank keyword_of same_bytes keyword_reading later_reading alone takes_mark before_mark behind_mark is_mark line_expected words_expected expected_of left_of is_fault is_past_or_full fault_told item_told names_after is_item line_told call_told question_told analysis_told line_done line_left call_line timed_line beside question_line analysis_line begun_told head_told line_counted added closed_text closed_counts judged_text judged_counts is_announced refusal_counted decimal decimal_width width_from digits glyph joined ascii
  awaited-line text = rw fresh-awaited

  -- `tick 5` behind that
  ticks-line : (before : ℕ) (text : List ℕ)
      → page_line (ascii "tick 5") (page fresh_model text (line_counts 0 2 1 before 0))
      ≡ page (ticked 5 5 0 fresh_model).model (text ++ ascii "tick 5\n") (line_counts 1 3 1 1 5)
  unfolding page_line content_page own_whole done_whole opening told_by done_by tick_lines ticks_told ticks_done told_text told_counts shown_answer line_reading words_reading content_length words words_after ended is_blank keyword_of same_bytes keyword_reading later_reading decimal_call decimal_with alone numbered_line read_decimal value_in value_of are_digits digit_of takes_mark before_mark behind_mark is_mark line_expected words_expected expected_of left_of is_fault is_past_or_full fault_told item_told names_after is_item line_told call_told question_told analysis_told line_done line_left call_line timed_line beside question_line analysis_line begun_told head_told line_counted added call_counted moved numbered closed_text closed_counts judged_text judged_counts is_announced refusal_counted decimal decimal_width width_from digits glyph joined ascii
  ticks-line before text = rw quiet-ticks

  -- `awaited` as the first line, a word that none has as the second, another as the second or the third, and `tick 5` behind that
  awaited-first : (text : List ℕ)
      → page_line (ascii "awaited") (page fresh_model text (line_counts 0 0 0 0 0))
      ≡ page fresh_model (text ++ ascii "awaited 0 0\n") (line_counts 0 1 0 0 0)
  unfolding page_line content_page own_whole done_whole opening told_by done_by tick_lines told_text told_counts shown_answer line_reading words_reading content_length words words_after ended is_blank keyword_of same_bytes keyword_reading later_reading alone takes_mark before_mark behind_mark is_mark line_expected words_expected expected_of left_of is_fault is_past_or_full fault_told item_told names_after is_item line_told call_told question_told analysis_told line_done line_left call_line timed_line beside question_line analysis_line begun_told head_told line_counted added closed_text closed_counts judged_text judged_counts is_announced refusal_counted decimal decimal_width width_from digits glyph joined ascii
  awaited-first text = rw fresh-awaited

  what-second : (m : Model) (text : List ℕ)
      → page_line (ascii "what") (page m text (line_counts 0 1 0 0 0)) ≡ page m (text ++ ascii "line 2: unknown word\n") (line_counts 0 2 1 0 0)
  unfolding page_line content_page own_whole done_whole opening told_by done_by tick_lines told_text told_counts shown_answer line_reading words_reading content_length words words_after ended is_blank keyword_of same_bytes keyword_reading later_reading takes_mark before_mark behind_mark is_mark line_expected words_expected expected_of left_of is_fault fault_told fault why item_told names_after is_item line_told call_told question_told analysis_told line_done line_left call_line timed_line beside question_line analysis_line begun_told head_told line_counted added closed_text closed_counts judged_text judged_counts is_announced refusal_counted decimal decimal_width width_from digits glyph joined ascii
  what-second m text = refl

  unknown-second : (m : Model) (text : List ℕ)
      → page_line (ascii "x") (page m text (line_counts 0 1 0 0 0)) ≡ page m (text ++ ascii "line 2: unknown word\n") (line_counts 0 2 1 0 0)
  unfolding page_line content_page own_whole done_whole opening told_by done_by tick_lines told_text told_counts shown_answer line_reading words_reading content_length words words_after ended is_blank keyword_of same_bytes keyword_reading later_reading takes_mark before_mark behind_mark is_mark line_expected words_expected expected_of left_of is_fault fault_told fault why item_told names_after is_item line_told call_told question_told analysis_told line_done line_left call_line timed_line beside question_line analysis_line begun_told head_told line_counted added closed_text closed_counts judged_text judged_counts is_announced refusal_counted decimal decimal_width width_from digits glyph joined ascii
  unknown-second m text = refl

  unknown-third : (m : Model) (text : List ℕ)
      → page_line (ascii "x") (page m text (line_counts 0 2 1 0 0)) ≡ page m (text ++ ascii "line 3: unknown word\n") (line_counts 0 3 2 1 0)
  unfolding page_line content_page own_whole done_whole opening told_by done_by tick_lines told_text told_counts shown_answer line_reading words_reading content_length words words_after ended is_blank keyword_of same_bytes keyword_reading later_reading takes_mark before_mark behind_mark is_mark line_expected words_expected expected_of left_of is_fault fault_told fault why item_told names_after is_item line_told call_told question_told analysis_told line_done line_left call_line timed_line beside question_line analysis_line begun_told head_told line_counted added closed_text closed_counts judged_text judged_counts is_announced refusal_counted decimal decimal_width width_from digits glyph joined ascii
  unknown-third m text = refl

  ticks-fourth : (text : List ℕ)
      → page_line (ascii "tick 5") (page fresh_model text (line_counts 0 3 2 1 0))
      ≡ page (ticked 5 5 0 fresh_model).model (text ++ ascii "tick 5\n") (line_counts 1 4 2 2 5)
  unfolding page_line content_page own_whole done_whole opening told_by done_by tick_lines ticks_told ticks_done told_text told_counts shown_answer line_reading words_reading content_length words words_after ended is_blank keyword_of same_bytes keyword_reading later_reading decimal_call decimal_with alone numbered_line read_decimal value_in value_of are_digits digit_of takes_mark before_mark behind_mark is_mark line_expected words_expected expected_of left_of is_fault is_past_or_full fault_told item_told names_after is_item line_told call_told question_told analysis_told line_done line_left call_line timed_line beside question_line analysis_line begun_told head_told line_counted added call_counted moved numbered closed_text closed_counts judged_text judged_counts is_announced refusal_counted decimal decimal_width width_from digits glyph joined ascii
  ticks-fourth text = rw quiet-ticks

-- In a check of the file `f`
module _ (flash : List ℕ) (differences : List ℤ) (probes numbers rest : List ℕ) where
  -- The lines, the bad ones, those before this line, and what needed a look before it
  abbrev check_counts : ℕ → ℕ → ℕ → ℕ → List ℕ
  check_counts lines bad before troubles =
      0 ∷ 0 ∷ lines ∷ 0 ∷ 0 ∷ 0 ∷ bad ∷ 0 ∷ 0 ∷ 0 ∷ 0 ∷ 0 ∷ 0 ∷ 0 ∷ 1 ∷ 0 ∷ 1 ∷ 0 ∷ before ∷ troubles ∷ 0 ∷ 0 ∷ []

  abbrev check_page : Model → List ℕ → List ℕ → Page
  check_page = page flash differences probes numbers (102 ∷ rest)

  what-checked : (m : Model) (text : List ℕ)
      → page_line (ascii "what") (check_page m text (check_counts 0 0 0 0)) ≡ check_page m (text ++ ascii "f:1: line 1: unknown word\n") (check_counts 1 1 0 0)
  unfolding page_line content_page own_whole done_whole opening told_by done_by tick_lines told_text told_counts shown_answer line_reading words_reading content_length words words_after ended is_blank keyword_of same_bytes keyword_reading later_reading takes_mark before_mark behind_mark is_mark line_expected words_expected expected_of left_of is_fault fault_told fault why item_told names_after is_item line_told call_told question_told analysis_told line_done line_left call_line timed_line beside question_line analysis_line begun_told head_told line_counted added closed_text closed_counts judged_text judged_counts is_announced refusal_counted looked_text trouble tail place_of briefly place counted decimal decimal_width width_from digits glyph joined ascii
  what-checked m text = refl

  unknown-checked : (m : Model) (text : List ℕ)
      → page_line (ascii "x") (check_page m text (check_counts 0 0 0 0)) ≡ check_page m (text ++ ascii "f:1: line 1: unknown word\n") (check_counts 1 1 0 0)
  unfolding page_line content_page own_whole done_whole opening told_by done_by tick_lines told_text told_counts shown_answer line_reading words_reading content_length words words_after ended is_blank keyword_of same_bytes keyword_reading later_reading takes_mark before_mark behind_mark is_mark line_expected words_expected expected_of left_of is_fault fault_told fault why item_told names_after is_item line_told call_told question_told analysis_told line_done line_left call_line timed_line beside question_line analysis_line begun_told head_told line_counted added closed_text closed_counts judged_text judged_counts is_announced refusal_counted looked_text trouble tail place_of briefly place counted decimal decimal_width width_from digits glyph joined ascii
  unknown-checked m text = refl

  second-checked : (m : Model) (text : List ℕ)
      → page_line (ascii "x") (check_page m text (check_counts 1 1 0 0)) ≡ check_page m (text ++ ascii "f:2: line 2: unknown word\n") (check_counts 2 2 1 1)
  unfolding page_line content_page own_whole done_whole opening told_by done_by tick_lines told_text told_counts shown_answer line_reading words_reading content_length words words_after ended is_blank keyword_of same_bytes keyword_reading later_reading takes_mark before_mark behind_mark is_mark line_expected words_expected expected_of left_of is_fault fault_told fault why item_told names_after is_item line_told call_told question_told analysis_told line_done line_left call_line timed_line beside question_line analysis_line begun_told head_told line_counted added closed_text closed_counts judged_text judged_counts is_announced refusal_counted looked_text trouble tail place_of briefly place counted decimal decimal_width width_from digits glyph joined ascii
  second-checked m text = refl

-- A text of these three lines.
three-lines : replay_text [] false (ascii "x\nawaited\ntick 5\n")
    ≡ ascii "line 1: unknown word\nawaited 0 0\ntick 5\nend 1 calls, 0 refused, 0 unannounced, 1 bad lines, 0 expectations, 0 differ\n"
unfolding replay_text last_page text_lines lines_in with_first rest_in has_line last_line each_line first_page counts_begun next_place last_text last_texts calls faults counted decimal decimal_width width_from digits glyph joined ascii
three-lines =
    let flash = replicate {A = ℕ} 8192 0xFF in
    let differences = replicate {A = ℤ} 4096 (pos 0) in
    let probes = replicate {A = ℕ} 1024 0 in
    let numbers = replicate {A = ℕ} 512 0 in
    let names = names_begun (replicate 5120 0) [] in
    rw (unknown-word flash differences probes numbers names fresh_model [], awaited-line flash differences probes numbers names (ascii "line 1: unknown word\n"), ticks-line flash differences probes numbers names 1 (ascii "line 1: unknown word\nawaited 0 0\n"))

-- A text with the bad line `what` in it, and the text without it: `tick 5` is answered alike, the bad line `x` has another number, and the
-- last line one bad line less.
bad-line-there : (replay_text [] false (ascii "awaited\nwhat\nx\ntick 5\n")
    ≡ ascii "awaited 0 0\nline 2: unknown word\nline 3: unknown word\ntick 5\nend 1 calls, 0 refused, 0 unannounced, 2 bad lines, 0 expectations, 0 differ\n")
    × (replay_text [] false (ascii "awaited\nx\ntick 5\n")
    ≡ ascii "awaited 0 0\nline 2: unknown word\ntick 5\nend 1 calls, 0 refused, 0 unannounced, 1 bad lines, 0 expectations, 0 differ\n")
unfolding replay_text last_page text_lines lines_in with_first rest_in has_line last_line each_line first_page counts_begun next_place last_text last_texts calls faults counted decimal decimal_width width_from digits glyph joined ascii
bad-line-there =
    let flash = replicate {A = ℕ} 8192 0xFF in
    let differences = replicate {A = ℤ} 4096 (pos 0) in
    let probes = replicate {A = ℕ} 1024 0 in
    let numbers = replicate {A = ℕ} 512 0 in
    let names = names_begun (replicate 5120 0) [] in
    let one = ascii "awaited 0 0\n" in
    let two = ascii "awaited 0 0\nline 2: unknown word\n" in
    let three = ascii "awaited 0 0\nline 2: unknown word\nline 3: unknown word\n" in
    rw (awaited-first flash differences probes numbers names []) (
      rw (what-second flash differences probes numbers names fresh_model one, unknown-third flash differences probes numbers names fresh_model two, ticks-fourth flash differences probes numbers names three),
      rw (unknown-second flash differences probes numbers names fresh_model one, ticks-line flash differences probes numbers names 0 two),
    )

-- In a check the heads have other numbers too, and there is no last line.
bad-line-checked : (replay_text (ascii "f") true (ascii "what\nx\n") ≡ ascii "f:1: line 1: unknown word\nf:2: line 2: unknown word\n")
    × (replay_text (ascii "f") true (ascii "x\n") ≡ ascii "f:1: line 1: unknown word\n")
unfolding replay_text last_page text_lines lines_in with_first rest_in has_line last_line each_line first_page names_begun written overwrite counts_begun next_place last_text ascii
bad-line-checked =
    let flash = replicate {A = ℕ} 8192 0xFF in
    let differences = replicate {A = ℤ} 4096 (pos 0) in
    let probes = replicate {A = ℕ} 1024 0 in
    let numbers = replicate {A = ℕ} 512 0 in
    let rest = replicate {A = ℕ} 5119 0 in (
      rw (what-checked flash differences probes numbers rest fresh_model [], second-checked flash differences probes numbers rest fresh_model (ascii "f:1: line 1: unknown word\n")),
      rw (unknown-checked flash differences probes numbers rest fresh_model []),
    )
