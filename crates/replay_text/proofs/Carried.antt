-- Which lines are read with a `=>`: "any line but `item`, `show` and `expect` may end with `=>`". Assumes nothing.
use Prim.Native.Nat.{ℕ, ◌-◌}
use mathlib.Core.Bool.{Bool, true, false, cond, false≢true, true≢false}
use mathlib.Core.List.{List, [], ◌∷◌}
use mathlib.Core.Path.{◌≡◌, refl, sym, ◌∙◌}
use native.Mathlib.Omega.{arith}
use lib.Dec.{ltb, eqb}
use lib.ListN.{get_or, take, drop}
use Rattle.unit.proofs.Cases.{by-test}
use Rattle.numeral.specs.Ascii.{ascii}
use Rattle.numeral.specs.Read.{read_hex, read_decimal}
use Rattle.line.specs.declared.Content.{Content}
use Rattle.line.specs.declared.Content.TheVariants.{Bus, BusOut}
use Rattle.line.specs.declared.Counted.{Counted}
use Rattle.line.specs.declared.Keyword.{Keyword}
use Rattle.line.specs.declared.Tally.{Tally}
use Rattle.line.specs.declared.Tally.TheVariants.{Wrong, All}
use Rattle.line.specs.Mark.{takes_mark, before_mark}
use Rattle.line.specs.Words.{words, same_bytes}
use Rattle.line.specs.Numbers.{tallied}
use Rattle.line.specs.Line.{Reading, byte_form, bytes_call, bytes_reading, is_out, out_reading, bus_reading, alone, numbered, decimal_with, decimal_call, flight_call, flight_reading, temperature_call, temperature_reading, set_call, set_words, set_from, set_reading, probe_call, probe_reading, degrees_call, degrees_reading, record_call, record_reading, hex_with, hex_call, listing_call, later_reading, keyword_of, keyword_reading, words_reading, words_expected, content_length, line_reading, line_expected}
use Rattle.item_checks.specs.Close.{expected_of}
use Rattle.std.specs.Prelude.{Option, Some, None}

-- a line of another sort than these: no word, too long, `item`, `expect`, `show`
unfoldable pub is_carried : Content → Bool
is_carried Content.Nothing = false
is_carried Content.TooLong = false
is_carried Content.UnknownWord = true
is_carried Content.BadNumber = true
is_carried Content.WrongCount = true
is_carried Content.Item = false
is_carried (Content.Bus n) = true
is_carried (Content.BusOut size n) = true
is_carried (Content.Tick n) = true
is_carried (Content.Flight up down) = true
is_carried (Content.Temperature n) = true
is_carried Content.Int = true
is_carried Content.Awaited = true
is_carried Content.Regs = true
is_carried (Content.Expect a n) = false
is_carried Content.Show = false
is_carried (Content.Set a n) = true
is_carried (Content.At t) = true
is_carried (Content.Stretch n) = true
is_carried Content.Frames = true
is_carried (Content.Probe n) = true
is_carried Content.Degrees = true
is_carried (Content.Record n) = true
is_carried (Content.Listing old first) = true
is_carried (Content.Quietest n) = true

abbrev Carried : Content → Type 0
Carried c = is_carried c ≡ true

abbrev CarriedLine : Reading → Type 0
CarriedLine r = is_carried r.content ≡ true

cond-is : {A : Type 0} (P : A → Type 0) (t : Bool) {x y : A} → P x → P y → P (cond t x y)
cond-is P true one other = one
cond-is P false one other = other

-- ---- the lines of each word

bytes-carried : (content : ℕ → Content) → ((n : ℕ) → Carried (content n)) → (t : Tally) → Carried (bytes_call content t)
unfolding bytes_call is_carried
bytes-carried content h Wrong = refl
bytes-carried content h (All n k u) = cond-is Carried (ltb 200 n) refl (h n)

out-carried : (r : Option ℕ) (l : List ℕ) (ws : List (List ℕ)) → CarriedLine (out_reading r l ws)
unfolding out_reading bytes_reading is_carried
out-carried None l ws = refl
out-carried (Some b) l ws = bytes-carried (BusOut b) (λ n. refl) (tallied byte_form 0 0 0 l ws).tally

bus-carried : (l : List ℕ) (ws : List (List ℕ)) → CarriedLine (bus_reading l ws)
unfolding bus_reading bytes_reading is_carried
bus-carried l [] = bytes-carried Bus (λ n. refl) (tallied byte_form 0 0 0 l []).tally
bus-carried l (w ∷ ws) =
    cond-is CarriedLine (is_out w) (out-carried (read_decimal 200 (drop 4 w)) l ws) (bytes-carried Bus (λ n. refl) (tallied byte_form 0 0 0 l (w ∷ ws)).tally)

flight-carried : (t : Tally) → Carried (flight_call t)
unfolding flight_call is_carried
flight-carried Wrong = refl
flight-carried (All n k u) =
    cond-is Carried (eqb k 1) (cond-is Carried (ltb 16 u) refl (cond-is Carried (ltb 16 (n - u)) refl refl)) refl

temperature-carried : (t : Tally) → Carried (temperature_call t)
unfolding temperature_call is_carried
temperature-carried Wrong = refl
temperature-carried (All n k u) = cond-is Carried (ltb 16 n) refl refl

set-carried : (a : ℕ) (t : Tally) → Carried (set_call a t)
unfolding set_call is_carried
set-carried a Wrong = refl
set-carried a (All n k u) = cond-is Carried (ltb n 1) refl (cond-is Carried (ltb 99 n) refl refl)

set-from-carried : (r : Option ℕ) (l : List ℕ) (ws : List (List ℕ)) → CarriedLine (set_from r l ws)
unfolding set_from set_words is_carried
set-from-carried None l ws = refl
set-from-carried (Some a) l ws = cond-is CarriedLine (ltb a 48) refl (cond-is CarriedLine (ltb 67 a) refl (set-carried a _))

set-reading-carried : (l : List ℕ) (ws : List (List ℕ)) → CarriedLine (set_reading l ws)
unfolding set_reading is_carried
set-reading-carried l [] = refl
set-reading-carried l (w ∷ ws) = set-from-carried (read_hex 2 2 w) l ws

probe-carried : (t : Tally) → Carried (probe_call t)
unfolding probe_call is_carried
probe-carried Wrong = refl
probe-carried (All n k u) = cond-is Carried (ltb n 1) refl refl

degrees-carried : (t : Tally) → Carried (degrees_call t)
unfolding degrees_call is_carried
degrees-carried Wrong = refl
degrees-carried (All n k u) = cond-is Carried (eqb n 2) refl refl

record-carried : (t : Tally) → Carried (record_call t)
unfolding record_call is_carried
record-carried Wrong = refl
record-carried (All n k u) = refl

alone-carried : (c : Content) → Carried c → (ws : List (List ℕ)) → Carried (alone c ws)
unfolding alone is_carried
alone-carried c h [] = h
alone-carried c h (w ∷ ws) = refl

numbered-carried : (k : Counted) (n : ℕ) → Carried (numbered k n)
unfolding numbered is_carried
numbered-carried Counted.Tick n = refl
numbered-carried Counted.At n = refl
numbered-carried Counted.Stretch n = refl
numbered-carried Counted.Quietest n = refl

decimal-with-carried : (k : Counted) (r : Option ℕ) (ws : List (List ℕ)) → Carried (decimal_with k r ws)
unfolding decimal_with is_carried
decimal-with-carried k None ws = refl
decimal-with-carried k (Some n) ws = alone-carried (numbered k n) (numbered-carried k n) ws

decimal-carried : (k : Counted) (ws : List (List ℕ)) → Carried (decimal_call k ws)
unfolding decimal_call is_carried
decimal-carried k [] = refl
decimal-carried k (w ∷ ws) = decimal-with-carried k (read_decimal 4294967295 w) ws

hex-with-carried : (old : Bool) (r : Option ℕ) (ws : List (List ℕ)) → Carried (hex_with old r ws)
unfolding hex_with is_carried
hex-with-carried old None ws = refl
hex-with-carried old (Some n) ws = alone-carried (Content.Listing old n) refl ws

hex-carried : (old : Bool) (ws : List (List ℕ)) → Carried (hex_call old ws)
unfolding hex_call is_carried
hex-carried old [] = refl
hex-carried old (w ∷ ws) = hex-with-carried old (read_hex 1 8 w) ws

listing-carried : (ws : List (List ℕ)) → Carried (listing_call ws)
unfolding listing_call is_carried
listing-carried [] = refl
listing-carried (w ∷ ws) = cond-is Carried (same_bytes w (ascii "old")) (hex-carried true ws) (hex-carried false (w ∷ ws))

later-carried : (k : Keyword) (l : List ℕ) (ws : List (List ℕ)) → CarriedLine (later_reading k l ws)
unfolding later_reading probe_reading degrees_reading record_reading is_carried
later-carried Keyword.Set l ws = set-reading-carried l ws
later-carried Keyword.At l ws = decimal-carried Counted.At ws
later-carried Keyword.Stretch l ws = decimal-carried Counted.Stretch ws
later-carried Keyword.Frames l ws = alone-carried Content.Frames refl ws
later-carried Keyword.Probe l ws = probe-carried _
later-carried Keyword.Degrees l ws = degrees-carried _
later-carried Keyword.Record l ws = record-carried _
later-carried Keyword.Listing l ws = listing-carried ws
later-carried Keyword.Quietest l ws = decimal-carried Counted.Quietest ws
later-carried Keyword.Item l ws = refl
later-carried Keyword.Bus l ws = refl
later-carried Keyword.Tick l ws = refl
later-carried Keyword.Flight l ws = refl
later-carried Keyword.Temperature l ws = refl
later-carried Keyword.Int l ws = refl
later-carried Keyword.Awaited l ws = refl
later-carried Keyword.Regs l ws = refl
later-carried Keyword.Expect l ws = refl
later-carried Keyword.Show l ws = refl
later-carried Keyword.Unknown l ws = refl

-- A word whose lines may carry `=>` has lines of the other sorts.
keyword-carried : (k : Keyword) → takes_mark k ≡ true → (l : List ℕ) (ws : List (List ℕ)) → CarriedLine (keyword_reading k l ws)
unfolding takes_mark keyword_reading flight_reading temperature_reading is_carried
keyword-carried Keyword.Item takes l ws = absurd (false≢true takes)
keyword-carried Keyword.Bus takes l ws = bus-carried l ws
keyword-carried Keyword.Tick takes l ws = decimal-carried Counted.Tick ws
keyword-carried Keyword.Flight takes l ws = flight-carried _
keyword-carried Keyword.Temperature takes l ws = temperature-carried _
keyword-carried Keyword.Int takes l ws = alone-carried Content.Int refl ws
keyword-carried Keyword.Awaited takes l ws = alone-carried Content.Awaited refl ws
keyword-carried Keyword.Regs takes l ws = alone-carried Content.Regs refl ws
keyword-carried Keyword.Expect takes l ws = absurd (false≢true takes)
keyword-carried Keyword.Show takes l ws = absurd (false≢true takes)
keyword-carried Keyword.Set takes l ws = later-carried Keyword.Set l ws
keyword-carried Keyword.At takes l ws = later-carried Keyword.At l ws
keyword-carried Keyword.Stretch takes l ws = later-carried Keyword.Stretch l ws
keyword-carried Keyword.Frames takes l ws = later-carried Keyword.Frames l ws
keyword-carried Keyword.Probe takes l ws = later-carried Keyword.Probe l ws
keyword-carried Keyword.Degrees takes l ws = later-carried Keyword.Degrees l ws
keyword-carried Keyword.Record takes l ws = later-carried Keyword.Record l ws
keyword-carried Keyword.Listing takes l ws = later-carried Keyword.Listing l ws
keyword-carried Keyword.Quietest takes l ws = later-carried Keyword.Quietest l ws
keyword-carried Keyword.Unknown takes l ws = later-carried Keyword.Unknown l ws

-- ---- a line

none-some : {A : Type 0} (x : List (List ℕ)) → ◌≡◌ {A = List (List (List ℕ))} [] (x ∷ []) → A
none-some x e = let z : ◌≡◌ {A = ℕ} 0 1 = cc in absurd (omega (arith, z))

words-carried : (l : List ℕ) (ws given : List (List ℕ)) → words_expected ws ≡ given ∷ [] → CarriedLine (words_reading l ws)
unfolding words_expected words_reading
words-carried l [] given e = none-some given e
words-carried l (w ∷ ws) given e =
    by-test (eqb (get_or w 0 0) 35) (λ t. none-some given (rw t at e))
    (λ t.
    by-test (takes_mark (keyword_of w)) (λ takes. rw (t, takes) (keyword-carried (keyword_of w) takes l (before_mark ws)))
    (λ none. none-some given (rw (t, none) at e)))

-- A line that has `=>` is of the sorts that may carry it,
pub line-carried : (l line : List ℕ) (given : List (List ℕ)) → line_expected line ≡ given ∷ [] → is_carried (line_reading l line).content ≡ true
unfolding line_expected line_reading
line-carried l line given e =
    by-test (ltb 1000 (content_length line)) (λ t. none-some given (rw t at e))
    (λ t. rw t (words-carried l (words (take (content_length line) line)) given (rw t at e)))

words-unmarked : (l : List ℕ) (ws : List (List ℕ)) → is_carried (words_reading l ws).content ≡ false → words_expected ws ≡ []
unfolding words_expected words_reading
words-unmarked l [] e = refl
words-unmarked l (w ∷ ws) e =
    by-test (eqb (get_or w 0 0) 35) (λ t. rw t)
    (λ t.
    by-test (takes_mark (keyword_of w)) (λ takes. absurd (true≢false (sym (keyword-carried (keyword_of w) takes l (before_mark ws)) ∙ (rw (t, takes) at e))))
    (λ none. rw (t, none)))

-- and one of another sort has none.
pub line-unmarked : (l line : List ℕ) → is_carried (line_reading l line).content ≡ false → expected_of line ≡ []
unfolding expected_of line_expected line_reading
line-unmarked l line e =
    by-test (ltb 1000 (content_length line)) (λ t. rw t) (λ t. rw (t, words-unmarked l (words (take (content_length line) line)) (rw t at e)))
