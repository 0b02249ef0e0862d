-- Lines from their bytes on, in plain numbers. Assumes nothing.
use mathlib.Core.Bool.{true, false}
use mathlib.Core.List.{List, [], ◌∷◌}
use mathlib.Core.Path.{◌≡◌, refl}
use Prim.Native.Nat.{ℕ}
use lib.IntN.{ℤ}
use Rattle.numeral.specs.Digit.{digits, glyph}
use Rattle.numeral.specs.Place.{overwrite, next_place, written, put_each}
use Rattle.numeral.specs.Print.{width_from, decimal_width, decimal}
use Rattle.line.specs.Words.{is_blank, ended, words_after, words, same_bytes}
use Rattle.line.specs.Mark.{takes_mark, before_mark, behind_mark, is_mark}
use Rattle.line.specs.Line.{keyword_of, keyword_reading, later_reading, words_reading, words_expected, content_length, line_reading, line_expected}
use Rattle.line_buffer.specs.Lines.{has_line, line_of, behind_line}
use Rattle.numeral.specs.Ascii.{ascii}
use Rattle.wording.specs.Wording.{why, fault}
use Rattle.item_state.specs.Log.{added, said}
use Rattle.device.specs.declared.Model.{Model}
use Rattle.item_calls.specs.Lines.{call_line, timed_line, beside}
use Rattle.item_questions.specs.Answers.{question_line}
use Rattle.item_analysis.specs.Lines.{analysis_line}
use Rattle.answer_text.specs.Line.{line_left}
use Rattle.item_checks.specs.Fault.{is_past_or_full, is_fault, left_of, fault_said, fault_log}
use Rattle.item_checks.specs.Open.{line_counted, headed, begun, is_item, named, opened}
use Rattle.item_checks.specs.Close.{expected_of, kept_briefly, judged_log, is_announced, refusal_counted, closed}
use Rattle.session.specs.Line.{Replay, line_done, line_begun, line_ended, content_answered, line_answered}
use Rattle.session.specs.Feed.{has_room, left_behind, line_fed, fed}

-- Where the answers end, the lines that were read, the bad ones, those before this line, and the ticks that are left.
abbrev counts : ℕ → ℕ → ℕ → ℕ → ℕ → List ℕ
counts used lines bad before left =
    used ∷ 0 ∷ lines ∷ 0 ∷ 0 ∷ 0 ∷ bad ∷ 0 ∷ 0 ∷ 0 ∷ 0 ∷ 0 ∷ 0 ∷ 0 ∷ 0 ∷ 0 ∷ 0 ∷ 0 ∷ before ∷ 0 ∷ 0 ∷ left ∷ []

-- Another line can be answered up to place 49,152, and not behind a part of a line.
room : (has_room (counts 49152 0 0 0 0) ≡ true) × (has_room (counts 49153 0 0 0 0) ≡ false) × (has_room (counts 0 0 0 0 1) ≡ false)
unfolding has_room
room = (refl, refl, refl)

-- `a`, a line feed, `b`: what is left behind the line, and of one that is under way.
left : (left_behind (97 ∷ 10 ∷ 98 ∷ []) (counts 0 0 0 0 0) ≡ 98 ∷ []) × (left_behind (97 ∷ 10 ∷ 98 ∷ []) (counts 0 0 0 0 7) ≡ 97 ∷ 10 ∷ 98 ∷ [])
unfolding left_behind behind_line
left = (refl, refl)

module _ (model : Model) (flash : List ℕ) (differences : List ℤ) (probes : List ℕ) where
  abbrev kept : List ℕ → List ℕ → Replay
  kept c answers = record {
    state = record {
      model = model;
      flash = flash;
      differences = differences;
      probes = probes;
      log = record { counts = c; answers = answers };
    };
    names = [];
  }

  -- A line without a word is counted, and answers nothing.
  no_word : line_answered (32 ∷ []) [] (kept (counts 0 4 0 0 0) []) ≡ kept (counts 0 5 0 0 0) []
  unfolding line_answered line_reading words_reading content_length words words_after ended is_blank line_expected words_expected expected_of content_answered line_begun opened begun line_counted headed added left_of is_fault is_past_or_full fault_log named is_item line_done line_left call_line timed_line beside question_line analysis_line line_ended kept_briefly closed judged_log is_announced refusal_counted
  no_word = refl

  -- The same in bytes that were read: two lines, and the start of a third.
  two-lines : fed 3 record { replay = kept (counts 0 4 0 0 0) []; numbers = []; left = 10 ∷ 32 ∷ 10 ∷ 98 ∷ [] }
      ≡ record { replay = kept (counts 0 6 0 0 0) []; numbers = []; left = 98 ∷ [] }
  unfolding fed line_fed has_line line_of behind_line has_room left_behind line_answered line_reading words_reading content_length words words_after ended is_blank line_expected words_expected expected_of content_answered line_begun opened begun line_counted headed added left_of is_fault is_past_or_full fault_log named is_item line_done line_left call_line timed_line beside question_line analysis_line line_ended kept_briefly closed judged_log is_announced refusal_counted
  two-lines = refl

  -- `x`, the fifth line, where one byte stands in the answers: it is told as a bad one behind it, and counted.
  unknown-word : line_answered (ascii "x") [] (kept (counts 1 4 0 0 0) (ascii "_.........................."))
      ≡ kept (22 ∷ 0 ∷ 5 ∷ 0 ∷ 0 ∷ 0 ∷ 1 ∷ 0 ∷ 0 ∷ 0 ∷ 0 ∷ 0 ∷ 1 ∷ 0 ∷ 0 ∷ 0 ∷ 0 ∷ 0 ∷ 0 ∷ 0 ∷ 1 ∷ 0 ∷ []) (ascii "_line 5: unknown word\n.....")
  unfolding ascii line_answered line_reading words_reading content_length words words_after ended is_blank keyword_of same_bytes keyword_reading later_reading takes_mark before_mark behind_mark is_mark line_expected words_expected expected_of content_answered line_begun opened begun line_counted headed added left_of is_fault is_past_or_full fault_log fault_said said fault why decimal decimal_width width_from digits glyph put_each written next_place overwrite named is_item line_done line_left call_line timed_line beside question_line analysis_line line_ended kept_briefly closed judged_log is_announced refusal_counted
  unknown-word = refl
