-- Lines in plain numbers and words. Assumes nothing.
use Prim.Native.Nat.{ℕ}
use mathlib.Core.Bool.{true, false}
use mathlib.Core.List.{List, [], ◌∷◌, ◌++◌}
use mathlib.Core.Path.{◌≡◌, refl}
use Prim.Native.String.{String}
use lib.ListN.{replicate}
use Rattle.numeral.specs.Digit.{glyph, digits}
use Rattle.numeral.specs.Print.{width_from, decimal_width, decimal}
use Rattle.numeral.specs.Place.{overwrite, next_place, written, put_each, joined}
use Rattle.line.specs.declared.Content.{Content}
use Rattle.line.specs.Line.{content_length}
use Rattle.line.specs.Words.{is_blank, ended, words_after, words}
use Rattle.line.specs.Spaced.{blanked, spaced}
use Rattle.numeral.specs.Ascii.{ascii}
use Rattle.wording.specs.Wording.{counted, why, fault, place, expected, item_name}
use Rattle.item_state.specs.Log.{Log, added, said}
use Rattle.item_checks.specs.Fault.{at_least_one, is_past_or_full, is_fault, left_of, fault_said, fault_log}
use Rattle.item_checks.specs.Close.{line_words, place_of, first_end, starts_with, begins_with, wanted_in, within, inserted, compared, expected_from, is_not_bad, judged_log, is_announced, refusal_counted, trouble, tail, shortened, looked, closed}
use Rattle.item_checks.specs.Open.{line_counted, headed, begun, is_item, item_named, named, opened}

-- The moment, the differences in the record, and the entries of the probe table.
abbrev counts : ℕ → ℕ → ℕ → List ℕ
counts moment kept probes = 0 ∷ 0 ∷ 0 ∷ 0 ∷ 0 ∷ 0 ∷ 0 ∷ 0 ∷ 0 ∷ moment ∷ kept ∷ probes ∷ []

-- `at 5` is a call until the fifth tick has passed.
past : (is_fault (Content.At 5) (counts 5 0 0) ≡ false) × (is_fault (Content.At 5) (counts 6 0 0) ≡ true)
unfolding is_fault is_past_or_full
past = (refl, refl)

-- 1,024 entries fit an empty table, and none a full one.
table : (is_fault (Content.Probe 1024) (counts 0 0 0) ≡ false) × (is_fault (Content.Probe 1) (counts 0 0 1024) ≡ true)
unfolding is_fault is_past_or_full
table = (refl, refl)

-- 4,096 differences fit an empty record; one without numbers takes one place.
record-full : (is_fault (Content.Record 4096) (counts 0 0 0) ≡ false) × (is_fault (Content.Record 0) (counts 0 4095 0) ≡ false)
    × (is_fault (Content.Record 0) (counts 0 4096 0) ≡ true)
unfolding is_fault is_past_or_full at_least_one
record-full = (refl, refl, refl)

bad-lines : (is_fault Content.TooLong (counts 0 0 0) ≡ true) × (is_fault Content.UnknownWord (counts 0 0 0) ≡ true)
    × (is_fault Content.BadNumber (counts 0 0 0) ≡ true) × (is_fault Content.WrongCount (counts 0 0 0) ≡ true)
    × (is_fault Content.Nothing (counts 0 0 0) ≡ false)
unfolding is_fault is_past_or_full
bad-lines = (refl, refl, refl, refl, refl)

-- ---- what stands behind an answer

-- Where the answers end, the calls that were refused, those not announced, the expectations, those that differ; and the answers.
abbrev log : ℕ → ℕ → ℕ → ℕ → ℕ → String → Log
log used refused alone wanted differ text =
    record {
      counts = used ∷ 0 ∷ 1 ∷ 1 ∷ refused ∷ alone ∷ 0 ∷ wanted ∷ differ ∷ 0 ∷ 0 ∷ 0 ∷ 0 ∷ 0 ∷ 0 ∷ 0 ∷ 0 ∷ 0 ∷ 0 ∷ 0 ∷ 0 ∷ 0 ∷ [];
      answers = ascii text;
    }

-- `tick 1` is answered as expected, and the answer stays; so it does without an expectation.
ticked : (closed (expected_from (ascii "tick 1 => 1") 9) [] (log 7 0 0 0 0 "tick 1\n...........") ≡ log 7 0 0 1 0 "tick 1\n...........")
    × (closed (expected_from (ascii "tick 1") 0) [] (log 7 0 0 0 0 "tick 1\n...........") ≡ log 7 0 0 0 0 "tick 1\n...........")
unfolding ascii line_words place_of first_end starts_with begins_with wanted_in within inserted compared expected_from judged_log is_announced refusal_counted closed content_length is_blank ended words_after words blanked spaced joined added
ticked = (refl, refl)

-- A delivery that nothing awaits: what was expected stands in the answer, the expectation differs, the refusal is not announced.
not-awaited : closed (expected_from (ascii "flight 1 / => good") 13) [] (log 25 1 0 0 0 "flight no 10 not awaited\n......................") ≡ log 39 1 1 1 1 "flight no 10 not awaited expected good\n........"
unfolding ascii line_words place_of first_end starts_with begins_with wanted_in within inserted compared expected_from judged_log is_announced refusal_counted closed content_length is_blank ended words_after words blanked spaced joined added expected
not-awaited = refl

-- The same refusal announced: `=> no`, `=> no 10` and `=>` are what it begins with, and `=> no 1` is not.
announced-no : (begins_with (ascii "no") (ascii "flight no 10 not awaited\n") ≡ true) × (begins_with (ascii "no 10") (ascii "flight no 10 not awaited\n") ≡ true)
    × (begins_with [] (ascii "flight no 10 not awaited\n") ≡ true) × (begins_with (ascii "no 1") (ascii "flight no 10 not awaited\n") ≡ false)
unfolding ascii begins_with starts_with place_of
announced-no = (refl, refl, refl, refl)

-- ---- in a check

-- The same numbers, where what is written of the line starts, and where its answer starts behind the head.
abbrev checked : ℕ → ℕ → ℕ → ℕ → ℕ → String → Log
checked used wanted differ start body text =
    record {
      counts = used ∷ 0 ∷ 3 ∷ 1 ∷ 0 ∷ 0 ∷ 0 ∷ wanted ∷ differ ∷ 0 ∷ 0 ∷ 0 ∷ start ∷ 0 ∷ 1 ∷ 0 ∷ 1 ∷ 0 ∷ 0 ∷ 0 ∷ body ∷ 0 ∷ [];
      answers = ascii text;
    }

-- Of a line without trouble nothing is written; of another its first line is.
in-check : (closed (expected_from (ascii "int") 0) (ascii "a") (checked 14 0 0 1 6 "_a:3: int yes\n..............") ≡ checked 1 0 0 1 6 "_a:3: int yes\n..............")
    × (closed (expected_from (ascii "int => no") 6) (ascii "a") (checked 14 0 0 1 6 "_a:3: int yes\n..............") ≡ checked 26 1 1 1 6 "_a:3: int yes expected no\n..")
unfolding ascii line_words place_of first_end starts_with begins_with wanted_in within inserted compared expected_from judged_log is_announced refusal_counted trouble tail shortened looked closed content_length is_blank ended words_after words blanked spaced joined added expected overwrite next_place written put_each
in-check = (refl, refl)

-- ---- what stands before an answer

-- Of a fresh file named `a`, whether it is checked; then the lines, where the answers end, the bad lines, where the answer starts.
abbrev file : ℕ → ℕ → ℕ → ℕ → ℕ → String → Log
file check lines used bad body text =
    record {
      counts = used ∷ 0 ∷ lines ∷ 0 ∷ 0 ∷ 0 ∷ bad ∷ 0 ∷ 0 ∷ 0 ∷ 0 ∷ 0 ∷ 0 ∷ 0 ∷ check ∷ 0 ∷ 1 ∷ 0 ∷ 0 ∷ 0 ∷ body ∷ 0 ∷ [];
      answers = ascii text;
    }

-- A bad line is told by its number, and nothing is left of it; a call is left as it is, with a head in a check.
before : (opened Content.UnknownWord (ascii "foo") (ascii "a") (file 0 0 0 0 0 "........................")
    ≡ record { content = Content.Nothing; names = ascii "a"; log = file 0 1 21 1 0 "line 1: unknown word\n..." })
    × (opened Content.Int (ascii "int") (ascii "a") (file 0 0 0 0 0 "...........") ≡ record { content = Content.Int; names = ascii "a"; log = file 0 1 0 0 0 "..........." })
    × (opened Content.Int (ascii "int") (ascii "a") (file 1 0 0 0 0 "...........") ≡ record { content = Content.Int; names = ascii "a"; log = file 1 1 5 0 5 "a:1: ......" })
unfolding ascii line_counted headed begun is_item named opened left_of fault_log fault_said is_fault is_past_or_full trouble place counted fault why decimal decimal_width width_from digits glyph overwrite next_place written put_each said added
before = (refl, refl, refl)

-- ---- tables

-- Of the lines that can be read, `item` alone names an item.
items-named : (is_item Content.Nothing ≡ false) × (is_item Content.TooLong ≡ false) × (is_item Content.UnknownWord ≡ false) × (is_item Content.BadNumber ≡ false)
    × (is_item Content.WrongCount ≡ false) × (is_item Content.Item ≡ true) × (is_item (Content.Bus 1) ≡ false) × (is_item (Content.BusOut 2 1) ≡ false)
    × (is_item (Content.Tick 5) ≡ false) × (is_item (Content.Flight 1 1) ≡ false) × (is_item (Content.Temperature 4) ≡ false) × (is_item Content.Int ≡ false)
    × (is_item Content.Awaited ≡ false) × (is_item Content.Regs ≡ false) × (is_item (Content.Expect 176 1) ≡ false) × (is_item Content.Show ≡ false)
    × (is_item (Content.Set 56 1) ≡ false) × (is_item (Content.At 5) ≡ false) × (is_item (Content.Stretch 5) ≡ false) × (is_item Content.Frames ≡ false)
    × (is_item (Content.Probe 1) ≡ false) × (is_item Content.Degrees ≡ false) × (is_item (Content.Record 1) ≡ false) × (is_item (Content.Listing false 1) ≡ false)
    × (is_item (Content.Quietest 1) ≡ false)
unfolding is_item
items-named =
    (refl, refl, refl, refl, refl, refl, refl, refl, refl, refl, refl, refl, refl, refl, refl, refl, refl, refl, refl, refl, refl, refl, refl, refl, refl)

-- Lines that can't be read are bad, and of the others none is on an item that has just begun.
bad-at-once : (is_fault Content.Nothing (counts 0 0 0) ≡ false) × (is_fault Content.TooLong (counts 0 0 0) ≡ true) × (is_fault Content.UnknownWord (counts 0 0 0) ≡ true)
    × (is_fault Content.BadNumber (counts 0 0 0) ≡ true) × (is_fault Content.WrongCount (counts 0 0 0) ≡ true) × (is_fault Content.Item (counts 0 0 0) ≡ false)
    × (is_fault (Content.Bus 1) (counts 0 0 0) ≡ false) × (is_fault (Content.BusOut 2 1) (counts 0 0 0) ≡ false) × (is_fault (Content.Tick 5) (counts 0 0 0) ≡ false)
    × (is_fault (Content.Flight 1 1) (counts 0 0 0) ≡ false) × (is_fault (Content.Temperature 4) (counts 0 0 0) ≡ false) × (is_fault Content.Int (counts 0 0 0) ≡ false)
    × (is_fault Content.Awaited (counts 0 0 0) ≡ false) × (is_fault Content.Regs (counts 0 0 0) ≡ false) × (is_fault (Content.Expect 176 1) (counts 0 0 0) ≡ false)
    × (is_fault Content.Show (counts 0 0 0) ≡ false) × (is_fault (Content.Set 56 1) (counts 0 0 0) ≡ false) × (is_fault (Content.At 5) (counts 0 0 0) ≡ false)
    × (is_fault (Content.Stretch 5) (counts 0 0 0) ≡ false) × (is_fault Content.Frames (counts 0 0 0) ≡ false) × (is_fault (Content.Probe 1) (counts 0 0 0) ≡ false)
    × (is_fault Content.Degrees (counts 0 0 0) ≡ false) × (is_fault (Content.Record 1) (counts 0 0 0) ≡ false) × (is_fault (Content.Listing false 1) (counts 0 0 0) ≡ false)
    × (is_fault (Content.Quietest 1) (counts 0 0 0) ≡ false)
unfolding is_fault is_past_or_full at_least_one
bad-at-once =
    (refl, refl, refl, refl, refl, refl, refl, refl, refl, refl, refl, refl, refl, refl, refl, refl, refl, refl, refl, refl, refl, refl, refl, refl, refl)

-- ---- counts

abbrev counted-up : List ℕ
counted-up = 100 ∷ 101 ∷ 102 ∷ 103 ∷ 104 ∷ 105 ∷ 106 ∷ 107 ∷ 108 ∷ 109 ∷ 110 ∷ 111 ∷ 112 ∷ 113 ∷ 114 ∷ 115 ∷ 116 ∷ 117 ∷ 118 ∷ 119 ∷ 120 ∷ 121 ∷ []

-- A line more; kept are where the answers end, the refusals and the bad lines.
line-more : line_counted counted-up ≡ 100 ∷ 101 ∷ 103 ∷ 103 ∷ 104 ∷ 105 ∷ 106 ∷ 107 ∷ 108 ∷ 109 ∷ 110 ∷ 111 ∷ 100 ∷ 113 ∷ 114 ∷ 115 ∷ 116 ∷ 104 ∷ 106 ∷ 119 ∷ 120 ∷ 121 ∷ []
unfolding line_counted added
line-more = refl

-- What needs a look: 105 refusals that nothing announces, 106 bad lines, 108 expectations that differ.
looks : trouble counted-up ≡ 319
unfolding trouble
looks = refl

-- the first blank, and the end where there is none
first-blank : (place_of 32 (ascii "ab c d") ≡ 2) × (place_of 32 (ascii "ab") ≡ 2) × (place_of 32 [] ≡ 0)
unfolding place_of ascii
first-blank = (refl, refl, refl)

-- Only what came to need a look with this line is shown: one expectation differed before it, and none more does.
none_more : looked (ascii "a") record {
  counts = 14 ∷ 0 ∷ 3 ∷ 1 ∷ 0 ∷ 0 ∷ 0 ∷ 1 ∷ 1 ∷ 0 ∷ 0 ∷ 0 ∷ 1 ∷ 0 ∷ 1 ∷ 0 ∷ 1 ∷ 0 ∷ 0 ∷ 1 ∷ 6 ∷ 0 ∷ [];
  answers = ascii "_a:3: int yes\n";
}
    ≡ record {
      counts = 1 ∷ 0 ∷ 3 ∷ 1 ∷ 0 ∷ 0 ∷ 0 ∷ 1 ∷ 1 ∷ 0 ∷ 0 ∷ 0 ∷ 1 ∷ 0 ∷ 1 ∷ 0 ∷ 1 ∷ 0 ∷ 0 ∷ 1 ∷ 6 ∷ 0 ∷ [];
      answers = ascii "_a:3: int yes\n";
    }
unfolding looked trouble
none_more = refl

-- A line is bad where there are more bad lines than before it: none more when it has just been counted.
bad-or-not : (is_not_bad (line_counted counted-up) ≡ true) × (is_not_bad counted-up ≡ false)
unfolding line_counted added
bad-or-not = (refl, refl)

-- ---- names

-- `item A`: the name stands from the place 4,096 on, and ends at 4,102; a line that needs a look ends with it.
abbrev names : String → List ℕ
names text = replicate 4096 46 ++ ascii text

item-kept : item_named (ascii "item A\r") (names "........") (file 0 3 1 0 0 "_.......")
    ≡ record {
      names = names "item A..";
      log = record { counts = 8 ∷ 0 ∷ 3 ∷ 0 ∷ 0 ∷ 0 ∷ 0 ∷ 0 ∷ 0 ∷ 0 ∷ 0 ∷ 0 ∷ 0 ∷ 0 ∷ 0 ∷ 4102 ∷ 1 ∷ 0 ∷ 0 ∷ 0 ∷ 0 ∷ 0 ∷ []; answers = ascii "_item A\n" };
    }
unfolding item_named line_words content_length words words_after ended is_blank spaced blanked said put_each written next_place overwrite ascii
item-kept = refl

item-told : joined (tail (names "item A..") (0 ∷ 0 ∷ 0 ∷ 0 ∷ 0 ∷ 0 ∷ 0 ∷ 0 ∷ 0 ∷ 0 ∷ 0 ∷ 0 ∷ 0 ∷ 0 ∷ 1 ∷ 4102 ∷ [])) ≡ ascii " (item A)\n"
unfolding tail item_name joined ascii
item-told = refl
