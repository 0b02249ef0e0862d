-- The texts of some lines, in plain words. Assumes nothing.
use Prim.Native.Nat.{ℕ, ◌≤◌}
use mathlib.Core.List.{List, [], ◌∷◌, ◌++◌}
use mathlib.Core.Path.{◌≡◌, refl}
use native.Mathlib.Bridge.{le_by_compare, IsLe}
use lib.IntN.{ℤ}
use lib.ListN.{length, take}
use Rattle.numeral.specs.Digit.{digits, glyph}
use Rattle.numeral.specs.Place.{joined}
use Rattle.numeral.specs.Print.{width_from, decimal_width, decimal}
use Rattle.listing.proofs.Meaning.{Fit}
use Rattle.line.specs.declared.Content.{Content}
use Rattle.line.specs.Words.{is_blank, ended, words_after, words}
use Rattle.line.specs.Line.{content_length}
use Rattle.line.specs.Spaced.{blanked, spaced}
use Rattle.numeral.specs.Ascii.{ascii}
use Rattle.wording.specs.Wording.{why, fault, place, counted, expected}
use Rattle.item_state.specs.Log.{added}
use Rattle.device.specs.declared.Model.{Model}
use Rattle.item_calls.specs.Lines.{item_counts}
use Rattle.item_checks.specs.Fault.{is_past_or_full, is_fault, left_of}
use Rattle.item_checks.specs.Open.{line_counted, is_item}
use Rattle.item_checks.specs.Close.{line_words, place_of, starts_with, begins_with, refusal_counted, briefly, trouble, tail, is_announced}
use Rattle.item_checks.proofs.Briefly.{briefly-long}
use Rattle.answer_text.specs.Texts.{call_told, question_told, analysis_told}
use Rattle.answer_text.specs.Line.{line_told}
use Rattle.session.specs.Line.{Replay}
use Rattle.line_text.specs.Text.{head_told, begun_told, fault_told, item_told, names_after, own_told, differing_text, judged_text, judged_counts, shown_answer, closed_counts, looked_text, closed_text, told_text, line_text, elsewhere}
use Rattle.line_text.proofs.Text.{Whole}

-- Four lines were read before; in a check the count 14 is 1, and the file's name has one byte.
abbrev counts : ℕ → List ℕ
counts check = 0 ∷ 0 ∷ 4 ∷ 0 ∷ 0 ∷ 0 ∷ 0 ∷ 0 ∷ 0 ∷ 0 ∷ 0 ∷ 0 ∷ 0 ∷ 0 ∷ check ∷ 0 ∷ 1 ∷ 0 ∷ 0 ∷ 0 ∷ 0 ∷ 0 ∷ []

module _ (model : Model) (flash : List ℕ) (differences : List ℤ) (probes answers : List ℕ) where
  abbrev kept : ℕ → Replay
  kept check = record {
    state = record {
      model = model;
      flash = flash;
      differences = differences;
      probes = probes;
      log = record { counts = counts check; answers = answers };
    };
    names = ascii "f";
  }

  -- `x`, the fifth line, whatever stands in the buffer; and the same in a check of the file `f`.
  unknown-word : line_text Content.UnknownWord [] (ascii "x") [] (kept 0) ≡ ascii "line 5: unknown word\n"
  unfolding ascii line_text told_text shown_answer briefly closed_text closed_counts judged_text judged_counts is_announced refusal_counted own_told left_of is_fault fault_told fault why decimal decimal_width width_from digits glyph item_told is_item line_told call_told question_told analysis_told begun_told head_told line_counted added joined
  unknown-word = refl

  checked-word : line_text Content.UnknownWord [] (ascii "x") [] (kept 1) ≡ ascii "f:5: line 5: unknown word\n"
  unfolding ascii line_text told_text shown_answer briefly closed_text looked_text place_of trouble tail names_after closed_counts judged_text judged_counts is_announced refusal_counted own_told left_of is_fault fault_told fault why decimal decimal_width width_from digits glyph item_told is_item line_told call_told question_told analysis_told begun_told head_told place counted line_counted added joined
  checked-word = refl

  -- `item A => B`: what differs stands in the answer's first line.
  differing-item : line_text Content.Item (ascii "B" ∷ []) (ascii "item A") [] (kept 0) ≡ ascii "item A expected B\n"
  unfolding ascii line_text told_text shown_answer briefly closed_text closed_counts judged_text differing_text expected begins_with starts_with place_of judged_counts is_announced refusal_counted own_told left_of is_fault is_past_or_full fault_told item_told is_item line_words content_length words words_after ended is_blank spaced blanked line_told call_told item_counts question_told analysis_told begun_told head_told line_counted added joined
  differing-item = refl

  -- Of an item that needs no look a check writes nothing.
  checked-item : line_text Content.Item [] (ascii "item A") [] (kept 1) ≡ []
  unfolding ascii line_text told_text shown_answer briefly closed_text looked_text trouble closed_counts judged_text judged_counts is_announced refusal_counted own_told left_of is_fault is_past_or_full fault_told item_told is_item line_told call_told item_counts question_told analysis_told begun_told head_told line_counted added
  checked-item = refl

-- Of an answer of 2,052 bytes and more a check shows the first 2,048 and ` ..`; without one it is shown whole.
long-answer : (answer : List ℕ) → 2052 ≤ length answer → (shown_answer (counts 1) answer ≡ take 2048 answer ++ ascii " ..") × (shown_answer (counts 0) answer ≡ answer)
unfolding shown_answer ascii
long-answer answer long = (briefly-long answer long, refl)

-- What is asked of what was kept holds of a buffer of 27 bytes.
short-buffer : (model : Model) (flash : List ℕ) (differences : List ℤ) (probes : List ℕ) → Fit differences
    → Whole Content.UnknownWord [] (ascii "x") [] (kept model flash differences probes (ascii "...........................") 0)
unfolding IsLe ascii tail closed_counts judged_counts is_announced refusal_counted own_told left_of is_fault fault_told fault why decimal decimal_width width_from digits glyph item_told is_item line_told call_told question_told analysis_told begun_told head_told line_counted added joined
short-buffer model flash differences probes fit = record {
  counts = refl;
  room = le_by_compare 22 27 tt;
  small = le_by_compare 27 18446744073709551615 tt;
  fit = fit;
  before = refl;
  after = refl;
}

-- ---- counts

abbrev counted-up : List ℕ
counted-up = 100 ∷ 101 ∷ 102 ∷ 103 ∷ 104 ∷ 105 ∷ 106 ∷ 107 ∷ 108 ∷ 109 ∷ 110 ∷ 111 ∷ 112 ∷ 113 ∷ 114 ∷ 115 ∷ 116 ∷ 117 ∷ 118 ∷ 119 ∷ 120 ∷ 121 ∷ []

-- the four places of the buffer
four-places : elsewhere 1 2 3 4 counted-up ≡ 1 ∷ 101 ∷ 102 ∷ 103 ∷ 104 ∷ 105 ∷ 106 ∷ 107 ∷ 108 ∷ 109 ∷ 110 ∷ 111 ∷ 2 ∷ 3 ∷ 114 ∷ 115 ∷ 116 ∷ 117 ∷ 118 ∷ 119 ∷ 4 ∷ 121 ∷ []
four-places = refl
