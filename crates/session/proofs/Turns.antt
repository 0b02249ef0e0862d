-- What is written and read between two turns of a replay, its begin and its end, in plain numbers. Assumes nothing.
use Prim.Native.Nat.{ℕ}
use mathlib.Core.Bool.{true, false}
use mathlib.Core.List.{List, [], ◌∷◌, ◌++◌}
use mathlib.Core.Path.{◌≡◌, refl}
use native.Mathlib.Omega.{arith}
use lib.ListN.{drop, replicate}
use Rattle.std.specs.Prelude.{Result, Ok, Err}
use Rattle.numeral.specs.Digit.{digits, glyph}
use Rattle.numeral.specs.Place.{overwrite, next_place, written, put_each, joined}
use Rattle.numeral.specs.Print.{width_from, decimal_width, decimal}
use Rattle.line_buffer.specs.Lines.{has_line}
use Rattle.numeral.specs.Ascii.{ascii}
use Rattle.wording.specs.Wording.{counted, calls, faults}
use Rattle.item_state.specs.Log.{said}
use Rattle.session.specs.Flush.{is_long, written_to, written_now, kept_to, after_writing, line_ending}
use Rattle.session.specs.Input.{state_after, bytes_after, goes_on, was_whole, over_from, WentOn}
use Rattle.session.specs.Ends.{names_begun, counts_begun, last_texts, last_said, outcome_of}

-- Where the answers end, up to where they are written, 1 in a check, where the line's own answer starts, and the ticks that are left.
abbrev counts : ℕ → ℕ → ℕ → ℕ → ℕ → List ℕ
counts used up check body left =
    used ∷ 0 ∷ 0 ∷ 0 ∷ 0 ∷ 0 ∷ 0 ∷ 0 ∷ 0 ∷ 0 ∷ 0 ∷ 0 ∷ 0 ∷ up ∷ check ∷ 0 ∷ 0 ∷ 0 ∷ 0 ∷ 0 ∷ body ∷ left ∷ []

-- ---- answers are written

-- An answer that starts at place 0 or 30 is long past 16,384 bytes, and none is in a check.
long : (is_long (counts 16384 0 0 0 7) ≡ false) × (is_long (counts 16385 0 0 0 7) ≡ true) × (is_long (counts 16414 0 0 30 7) ≡ false)
    × (is_long (counts 16415 0 0 30 7) ≡ true) × (is_long (counts 16415 0 1 30 7) ≡ false)
unfolding is_long
long = (refl, refl, refl, refl, refl)

-- No line is under way; one is, with a short answer; with a long one.
up_to : (written_to (counts 5 0 0 2 0) ≡ 5) × (written_to (counts 5 1 0 2 7) ≡ 1) × (written_to (counts 16415 1 0 30 7) ≡ 16415)
unfolding written_to is_long
up_to = (refl, refl, refl)

-- `abcd`, of which `a` is written: `bc` where the answers end behind `c`, nothing of a short answer under way, and all of a long one.
bytes : (written_now record { counts = counts 3 1 0 0 0; answers = ascii "abcd" } ≡ ascii "bc")
    × (written_now record { counts = counts 3 1 0 0 7; answers = ascii "abcd" } ≡ [])
    × (written_now record { counts = counts 16385 1 0 0 7; answers = ascii "abcd" } ≡ ascii "bcd")
unfolding written_now written_to is_long ascii
bytes = (refl, refl, refl)

-- Of an answer that starts at place 30.
start-kept : kept_to (counts 16415 0 0 30 7) ≡ 2078
unfolding kept_to
start-kept = refl

-- Behind that: no line is under way; one is, with a short answer, with a long one, and with one as long in a check.
behind : (after_writing (counts 5 1 0 2 0) ≡ counts 0 0 0 2 0) × (after_writing (counts 5 1 0 2 7) ≡ counts 5 1 0 2 7)
    × (after_writing (counts 16415 1 0 30 7) ≡ counts 2078 2078 0 30 7) × (after_writing (counts 16415 0 1 30 7) ≡ counts 16415 0 1 30 7)
unfolding after_writing is_long kept_to
behind = (refl, refl, refl, refl)

-- ---- the input

-- No bytes, `a`, `ab`.
last_line : (line_ending [] ≡ []) × (line_ending (97 ∷ []) ≡ 97 ∷ 10 ∷ []) × (line_ending (97 ∷ 98 ∷ []) ≡ 97 ∷ 98 ∷ 10 ∷ [])
unfolding line_ending
last_line = (refl, refl, refl)

-- A replay is over at the end of its file, or breaks off where the file can't be read. Till then it goes on.
ended : (over_from 1 ≡ 3) × (over_from 2 ≡ 4) × (goes_on 2 ≡ true) × (goes_on 3 ≡ false) × (was_whole 1 ≡ false) × (was_whole 3 ≡ true) × (was_whole 4 ≡ false)
unfolding over_from goes_on was_whole
ended = (refl, refl, refl, refl, refl, refl, refl)

-- `a`, a line feed, `b` are left: they are answered next, and nothing is read.
line-next : (next : ℕ) (answered : List ℕ) → WentOn (97 ∷ 10 ∷ 98 ∷ []) 0 next answered → (next ≡ 0) × (answered ≡ 97 ∷ 10 ∷ 98 ∷ [])
unfolding has_line
line-next next answered w = w.line refl

-- `b` is left: what is read stands behind it; at the file's end it gets a line feed.
read_behind : (answered : List ℕ) → WentOn (98 ∷ []) 0 0 answered → answered ≡ 98 ∷ drop 1 answered
unfolding has_line
read_behind answered w = (w.read refl refl).more refl

ended-behind : (answered : List ℕ) → WentOn (98 ∷ []) 0 1 answered → answered ≡ 98 ∷ 10 ∷ []
unfolding has_line line_ending
ended-behind answered w = (w.read refl refl).ended refl

-- Where the file can't be read on, `b` is left out; where it was at its end before, the replay is over.
failed-behind : (answered : List ℕ) → WentOn (98 ∷ []) 0 2 answered → answered ≡ []
unfolding has_line
failed-behind answered w = (w.read refl refl).failed refl

over-behind : (next : ℕ) (answered : List ℕ) → WentOn (98 ∷ []) 1 next answered → (next ≡ 3) × (answered ≡ [])
unfolding has_line over_from
over-behind next answered w = w.over refl (λ e. absurd (omega arith))

-- Of 1,003 bytes without a line feed 1,002 are held.
too_long : (answered : List ℕ) → WentOn (replicate 1003 97) 0 1 answered → answered ≡ replicate 1002 97 ++ (10 ∷ [])
unfolding has_line line_ending
too_long answered w = (w.read refl refl).ended refl

-- ---- the begin and the end

-- `ab` is the file's name.
name : names_begun (0 ∷ 0 ∷ 0 ∷ []) (97 ∷ 98 ∷ []) ≡ 97 ∷ 98 ∷ 0 ∷ []
unfolding names_begun written overwrite
name = refl

-- Its end stands in place 16, and a check in place 14.
begun : (counts_begun (0 ∷ 0 ∷ 0 ∷ []) (97 ∷ 98 ∷ []) false (counts 0 0 0 0 0) ≡ 0 ∷ 0 ∷ 0 ∷ 0 ∷ 0 ∷ 0 ∷ 0 ∷ 0 ∷ 0 ∷ 0 ∷ 0 ∷ 0 ∷ 0 ∷ 0 ∷ 0 ∷ 0 ∷ 2 ∷ 0 ∷ 0 ∷ 0 ∷ 0 ∷ 0 ∷ [])
    × (counts_begun (0 ∷ 0 ∷ 0 ∷ []) (97 ∷ 98 ∷ []) true (counts 0 0 0 0 0) ≡ 0 ∷ 0 ∷ 0 ∷ 0 ∷ 0 ∷ 0 ∷ 0 ∷ 0 ∷ 0 ∷ 0 ∷ 0 ∷ 0 ∷ 0 ∷ 0 ∷ 1 ∷ 0 ∷ 2 ∷ 0 ∷ 0 ∷ 0 ∷ 0 ∷ 0 ∷ [])
unfolding counts_begun next_place
begun = (refl, refl)

-- One byte of answers, nine calls, eight refusals, seven of them not announced, six bad lines, five expectations, four that differ.
abbrev told : ℕ → ℕ → List ℕ
told used check = used ∷ 0 ∷ 0 ∷ 9 ∷ 8 ∷ 7 ∷ 6 ∷ 5 ∷ 4 ∷ 0 ∷ 0 ∷ 0 ∷ 0 ∷ 0 ∷ check ∷ 0 ∷ 0 ∷ 0 ∷ 0 ∷ 0 ∷ 0 ∷ 0 ∷ []

last-words : joined (last_texts (told 1 0)) ≡ ascii "end 9 calls, 8 refused, 7 unannounced, 6 bad lines, 5 expectations, 4 differ\n"
unfolding last_texts joined calls faults counted decimal decimal_width width_from digits glyph ascii
last-words = refl

-- Behind the byte, where the input was read to its end; not where it was not, and not in a check.
whole-last : last_said true record { counts = told 1 0; answers = ascii "_............................................................................." }
    ≡ record { counts = told 78 0; answers = ascii "_end 9 calls, 8 refused, 7 unannounced, 6 bad lines, 5 expectations, 4 differ\n" }
unfolding last_said said put_each written next_place overwrite last_texts calls faults counted decimal decimal_width width_from digits glyph ascii
whole-last = refl

none_last : (answers : List ℕ) → (last_said false record { counts = told 1 0; answers = answers } ≡ record { counts = told 1 0; answers = answers })
    × (last_said true record { counts = told 1 1; answers = answers } ≡ record { counts = told 1 1; answers = answers })
unfolding last_said
none_last answers = (refl, refl)

-- What is handed back.
handed-back : outcome_of true (told 1 0) ≡ record { whole = true; unannounced = 7; bad = 6; expected = 5; differ = 4 }
unfolding outcome_of
handed-back = refl

-- ---- what the operating system tells of a read

-- So many bytes, or the number of a failure.
abbrev read : ℕ → Result ℕ ℕ
read n = Ok n

abbrev unread : ℕ → Result ℕ ℕ
unread e = Err e

-- It can't be read; it is at its end; five bytes were put into the buffer.
told-state : (state_after (unread 0) ≡ 2) × (state_after (read 0) ≡ 1) × (state_after (read 5) ≡ 0)
unfolding state_after
told-state = (refl, refl, refl)

-- Behind one byte that is held: nothing; a line feed, where some are held; the byte that was read, and no more than the buffer has.
told-bytes : (bytes_after (unread 0) 1 (ascii "abc") ≡ [])
    × (bytes_after (read 0) 1 (ascii "abc") ≡ ascii "a\n")
    × (bytes_after (read 0) 0 (ascii "abc") ≡ [])
    × (bytes_after (read 1) 1 (ascii "abc") ≡ ascii "ab")
    × (bytes_after (read 9) 1 (ascii "abc") ≡ ascii "abc")
unfolding bytes_after line_ending ascii
told-bytes = (refl, refl, refl, refl, refl)
