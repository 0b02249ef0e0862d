-- The words of an answer, held one after the other against those that are expected. Assumes nothing.
use Rattle.std.specs.Prelude.{ℕ, ◌≤◌, Bool, List, [], ◌∷◌, ◌++◌, ◌≡◌, ltb, length, drop}
use Prim.Native.String.{String}
use Rattle.unit.specs.Choice.{pick, either, negate}
use Rattle.numeral.specs.Ascii.{ascii}
use Rattle.numeral.specs.Print.{decimal}
use Rattle.device.specs.declared.Model.{Model}
use Rattle.device.specs.declared.Report.{Report}
use Rattle.text.specs.Text.{Text, words, begin_with}
use Rattle.text_code.specs.OwnWords.{between}
use Rattle.item_answer.specs.Answer.{ticked}
use Rattle.item_ticks_code.specs.declared.Held.{Held}

-- The words of s that are still expected.
unfoldable pub still_expected : Text → Held → List Text
still_expected s h = pick (ltb h.start h.end) (between h.start h.end s ∷ words (drop h.end s)) []

-- Whether the answer differs, if these are its words to come.
unfoldable pub differs_by : Text → Held → List Text → Bool
differs_by s h ws = either h.differs (negate (begin_with (still_expected s h) ws))

-- The words of s from the place `at` on are expected, and one has differed before, or none.
pub record ExpectedFrom (s : Text) (at : ℕ) (differs : Bool) (r : Held) : Type 0 where
  pub within : r.end ≤ length s
  pub rule : (ws : List Text) → differs_by s r ws ≡ either differs (negate (begin_with (words (drop at s)) ws))

-- After h, these words were held against those expected: `seen` puts them before those to come.
pub record HeldAgainst (s : Text) (h : Held) (seen : List Text → List Text) (r : Held) : Type 0 where
  pub within : r.end ≤ length s
  pub rule : (ws : List Text) → differs_by s r ws ≡ differs_by s h (seen ws)

-- A word, where it is there, before others.
abbrev pub word_where : Bool → Text → List Text → List Text
word_where there w ws = pick there (w ∷ ws) ws

-- `WHAT@I`
abbrev pub report_word : String → ℕ → Text
report_word what i = ascii what ++ ascii "@" ++ decimal i

-- The words of tick i, before others.
unfoldable pub report_words : Report → Report → ℕ → List Text → List Text
report_words flight temperature i ws =
    word_where flight.failed (report_word "failed-flight" i)
    (word_where flight.started (report_word "started-flight" i)
    (word_where temperature.failed (report_word "failed-temperature" i)
    (word_where temperature.started (report_word "started-temperature" i) ws)))

-- Whether the answer of n ticks, the first of them tick i, does not begin with the words of s after its keyword.
unfoldable pub ticks_differ : String → ℕ → ℕ → ℕ → Model → Text → Bool
ticks_differ keyword number n i m s =
    negate (begin_with (words s) (drop 1 (words (ascii keyword ++ ascii " " ++ decimal number ++ (ticked n i m).reports))))

-- The answers of `tick` and of `at` differ alike.
pub record Judged (number n i : ℕ) (m : Model) (s : Text) (r : Bool) : Type 0 where
  pub tick : r ≡ ticks_differ "tick" number n i m s
  pub at : r ≡ ticks_differ "at" number n i m s
