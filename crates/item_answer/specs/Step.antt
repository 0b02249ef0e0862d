-- One line of a replay: its answer as text, the item after it, and what it adds to the counts of the last line. What stands in quotation
-- marks is that of the description of items. Assumes nothing.
use Rattle.std.specs.Prelude.{ℕ, ◌+◌, ◌*◌, Bool, false, List, [], ◌∷◌, ◌++◌, ltb, length, drop}
use Prim.Native.String.{String}
use Rattle.unit.specs.Choice.{both, negate}
use Rattle.numeral.specs.Ascii.{ascii}
use Rattle.numeral.specs.Digit.{digits}
use Rattle.device.specs.Reply.{flag}
use Rattle.text.specs.Text.{Text, text_where, ended, ended_each, spaced, words, is, begin_with}
use Rattle.item_page.specs.Page.{page}
use Rattle.item_line.specs.Line.{Fault, Expected, unmarked, marked, Wanted, Line}
use Rattle.item_line.specs.Reading.{line_of}
use Rattle.item_answer.specs.Words.{registers, differences, verdict, fault_line}
use Rattle.item_answer.specs.Answer.{Item, fresh_item, Told, Result, told, fault, read_call, read_words, transacted, call_result, ask_told, keep_result}

-- The counts of the last line, `end C calls, R refused, U unannounced, B bad lines, E expectations, X differ`.
pub record Tally : Type 0 where
  pub calls : ℕ
  pub refused : ℕ
  pub unannounced : ℕ
  pub bad : ℕ
  pub expectations : ℕ
  pub differ : ℕ

abbrev pub no_tally : Tally
no_tally = record { calls = 0; refused = 0; unannounced = 0; bad = 0; expectations = 0; differ = 0 }

-- What a line writes, the item after it, and what it adds to the counts.
pub record Step : Type 0 where
  pub text : Text
  pub item : Item
  pub adds : Tally

-- A line that adds nothing to the counts.
abbrev pub uncounted : Text → Item → Step
uncounted text i = record { text = text; item = i; adds = no_tally }

-- "A line that is none of these is no call: the model stays as it was"
unfoldable pub bad_step : ℕ → Fault → Item → Step
bad_step number f i = record {
  text = ended (fault_line number f);
  item = i;
  adds = record { calls = 0; refused = 0; unannounced = 0; bad = 1; expectations = 0; differ = 0 };
}

-- ---- `expect` and `read`

-- "E the words of `expect` and `read` lines but those that are `xxxx`"
unfoldable pub expectations : List Wanted → ℕ
expectations [] = 0
expectations (w ∷ ws) = flag (negate (is "xxxx" w)) + expectations ws

-- "`expect A ok`, or `expect A differs` with ` AT:HAS/WANTED` for each word that differs"; `read` counts as a call, and is not refused
unfoldable pub compared_step : String → ℕ → ℕ → List ℕ → List Wanted → Item → Step
compared_step keyword calls a has wanted i =
    let differing = differences a has wanted in record {
      text = ended (ascii keyword ++ ascii " " ++ digits 16 2 a ++ verdict differing);
      item = i;
      adds = record {
        calls = calls;
        refused = 0;
        unannounced = 0;
        bad = 0;
        expectations = expectations wanted;
        differ = length differing;
      };
    }

-- ---- `=>`

-- Whether the answer agrees with the words behind the line's `=>`; no where it has none: "the words of the answer's first line, without its own first word, must begin
-- with them"
unfoldable pub agrees : Expected → Text → Bool
agrees unmarked line = false
agrees (marked xs) line = begin_with xs (drop 1 (words line))

-- whether it does not agree with them; no where the line has no `=>`
unfoldable pub disagrees : Expected → Text → Bool
disagrees unmarked line = false
disagrees (marked xs) line = negate (begin_with xs (drop 1 (words line)))

-- "that line of the answer is followed by ` expected ` and those words"
unfoldable pub expected_text : Expected → Text
expected_text unmarked = []
expected_text (marked xs) = ascii " expected " ++ spaced xs

-- "the `=>` that have a word after them"
unfoldable pub expects : Expected → Bool
expects unmarked = false
expects (marked xs) = ltb 0 (length xs)

-- An answer held against what its line expects; `calls` is 1 for a call. "A refusal whose line ends with a `=>` that agrees is announced."
unfoldable pub told_step : ℕ → Expected → Told → Step
told_step calls x a = record {
  text = ended (a.line ++ text_where (disagrees x a.line) (expected_text x)) ++ a.further;
  item = a.item;
  adds = record {
    calls = calls;
    refused = flag a.refused;
    unannounced = flag (both a.refused (negate (agrees x a.line)));
    bad = 0;
    expectations = flag (expects x);
    differ = flag (disagrees x a.line);
  };
}

unfoldable pub result_step : ℕ → ℕ → Expected → Result → Item → Step
result_step number calls x (told a) i = told_step calls x a
result_step number calls x (fault f) i = bad_step number f i

-- ---- every line

-- The line of this number, by what it says: of `item` "a fresh model", answered by "the line's words, parted by one blank".
unfoldable pub line_step : ℕ → Line → Item → Step
line_step number Line.silent i = uncounted [] i
line_step number (Line.bad f) i = bad_step number f i
line_step number (Line.item name) i = uncounted (ended (spaced (ascii "item" ∷ name))) fresh_item
line_step number Line.show i = uncounted (ended_each (page i.model)) i
line_step number (Line.expect a ws) i = compared_step "expect" 0 a (registers i.model a (length ws)) ws i
line_step number (Line.read a ws) i =
    compared_step "read" 1 a (read_words i a (length ws)) ws (transacted i (read_call i a (length ws)))
line_step number (Line.call c x) i = result_step number 1 x (call_result c i) i
line_step number (Line.ask a x) i = told_step 0 x (ask_told a i)
line_step number (Line.keep k x) i = result_step number 0 x (keep_result k i) i

-- The line of this number, by its bytes without the line feed.
unfoldable pub step : ℕ → Text → Item → Step
step number bytes i = line_step number (line_of bytes) i

-- ---- the outcome of a line

-- What a program that goes through the lines wants to know of each. `announced` is of a refusal alone.
pub record Outcome : Type 0 where
  pub answered : Bool
  pub refused : Bool
  pub announced : Bool
  pub differs : Bool
  pub bad : Bool

unfoldable pub outcome : Step → Outcome
outcome s = record {
  answered = ltb 0 (length s.text);
  refused = ltb 0 s.adds.refused;
  announced = ltb s.adds.unannounced s.adds.refused;
  differs = ltb 0 s.adds.differ;
  bad = ltb 0 s.adds.bad;
}

-- The same as a byte: bits 0 to 4 in this order.
unfoldable pub outcome_bits : Outcome → ℕ
outcome_bits o = flag o.answered + 2 * flag o.refused + 4 * flag o.announced + 8 * flag o.differs + 16 * flag o.bad
