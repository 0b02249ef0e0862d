-- A line of ticks reads as itself whatever numbers were read before it, and its ticks are bounded. Assumes nothing.
use Prim.Native.Nat.{ℕ, ◌-◌, ◌≤◌}
use mathlib.Core.Path.{◌≡◌, refl, subst}
use mathlib.Core.Bool.{Bool, true, false, cond, true≢false, false≢true}
use mathlib.Core.List.{List, [], ◌∷◌}
use lib.Dec.{ltb, eqb}
use lib.ListN.{get_or, take, drop}
use Rattle.numeral.specs.Ascii.{ascii}
use Rattle.numeral.specs.Read.{read_hex, read_decimal}
use Rattle.numeral.proofs.DigitLaws.{decimal-at-most}
use Rattle.line.specs.declared.Content.{Content}
use Rattle.line.specs.declared.Content.TheVariants.{Bus, BusOut}
use Rattle.line.specs.declared.Counted.{Counted}
use Rattle.line.specs.declared.Keyword.{Keyword}
use Rattle.line.specs.declared.Tally.{Tally}
use Rattle.line.specs.declared.Tally.TheVariants.{Wrong, All}
use Rattle.line.specs.Mark.{takes_mark, call_words}
use Rattle.line.specs.Words.{words, same_bytes}
use Rattle.line.specs.Numbers.{tallied}
use Rattle.line.specs.Line.{Reading, reading, byte_form, bytes_call, bytes_reading, is_out, out_reading, bus_reading, item_call, alone, numbered, decimal_with, decimal_call, flight_call, flight_reading, temperature_call, temperature_reading, expect_call, expect_words, expect_from, expect_reading, set_call, set_words, set_from, set_reading, probe_call, probe_reading, degrees_call, degrees_reading, record_call, record_reading, hex_with, hex_call, listing_call, later_reading, keyword_of, keyword_reading, words_reading, content_length, line_reading}
use Rattle.std.specs.Prelude.{Option, Some, None}

-- `tick N` and `at T`
unfoldable pub is_ticks : Content → Bool
is_ticks Content.Nothing = false
is_ticks Content.TooLong = false
is_ticks Content.UnknownWord = false
is_ticks Content.BadNumber = false
is_ticks Content.WrongCount = false
is_ticks Content.Item = false
is_ticks (Content.Bus n) = false
is_ticks (Content.BusOut size n) = false
is_ticks (Content.Tick n) = true
is_ticks (Content.Flight up down) = false
is_ticks (Content.Temperature n) = false
is_ticks Content.Int = false
is_ticks Content.Awaited = false
is_ticks Content.Regs = false
is_ticks (Content.Expect a n) = false
is_ticks Content.Show = false
is_ticks (Content.Set a n) = false
is_ticks (Content.At t) = true
is_ticks (Content.Stretch n) = false
is_ticks Content.Frames = false
is_ticks (Content.Probe n) = false
is_ticks Content.Degrees = false
is_ticks (Content.Record n) = false
is_ticks (Content.Listing old first) = false
is_ticks (Content.Quietest n) = false

cond_cases : {A : Type 0} (P : A → Type 0) (t : Bool) {x y : A} → (t ≡ true → P x) → (t ≡ false → P y) → P (cond t x y)
cond_cases P true one other = one refl
cond_cases P false one other = other refl

-- ---- lines of a list of numbers are no lines of ticks

abbrev Other : Content → Type 0
Other c = is_ticks c ≡ false

abbrev OtherLine : Reading → Type 0
OtherLine r = is_ticks r.content ≡ false

bytes-other : (content : ℕ → Content) → ((n : ℕ) → Other (content n)) → (t : Tally) → Other (bytes_call content t)
unfolding bytes_call is_ticks
bytes-other content h Wrong = refl
bytes-other content h (All n k u) = cond_cases Other (ltb 200 n) (λ _. refl) (λ _. h n)

out-other : (r : Option ℕ) (l : List ℕ) (ws : List (List ℕ)) → OtherLine (out_reading r l ws)
unfolding out_reading bytes_reading is_ticks
out-other None l ws = refl
out-other (Some b) l ws = bytes-other (BusOut b) (λ n. refl) (tallied byte_form 0 0 0 l ws).tally

bus-other : (l : List ℕ) (ws : List (List ℕ)) → OtherLine (bus_reading l ws)
unfolding bus_reading bytes_reading is_ticks
bus-other l [] = bytes-other Bus (λ n. refl) _
bus-other l (w ∷ ws) =
    cond_cases OtherLine (is_out w) (λ _. out-other (read_decimal 200 (drop 4 w)) l ws) (λ _. bytes-other Bus (λ n. refl) _)

flight-other : (t : Tally) → Other (flight_call t)
unfolding flight_call is_ticks
flight-other Wrong = refl
flight-other (All n k u) =
    cond_cases Other (eqb k 1)
    (λ _. cond_cases Other (ltb 16 u) (λ _. refl) (λ _. cond_cases Other (ltb 16 (n - u)) (λ _. refl) (λ _. refl))) (λ _. refl)

temperature-other : (t : Tally) → Other (temperature_call t)
unfolding temperature_call is_ticks
temperature-other Wrong = refl
temperature-other (All n k u) = cond_cases Other (ltb 16 n) (λ _. refl) (λ _. refl)

expect-other : (a : ℕ) (t : Tally) → Other (expect_call a t)
unfolding expect_call is_ticks
expect-other a Wrong = refl
expect-other a (All n k u) =
    cond_cases Other (ltb n 1) (λ _. refl) (λ _. cond_cases Other (ltb (256 - a) n) (λ _. refl) (λ _. refl))

expect-from-other : (r : Option ℕ) (l : List ℕ) (ws : List (List ℕ)) → OtherLine (expect_from r l ws)
unfolding expect_from expect_words is_ticks
expect-from-other None l ws = refl
expect-from-other (Some a) l ws =
    cond_cases OtherLine (ltb a 176) (λ _. refl) (λ _. cond_cases OtherLine (ltb 255 a) (λ _. refl) (λ _. expect-other a _))

expect-reading-other : (l : List ℕ) (ws : List (List ℕ)) → OtherLine (expect_reading l ws)
unfolding expect_reading is_ticks
expect-reading-other l [] = refl
expect-reading-other l (w ∷ ws) = expect-from-other (read_hex 2 2 w) l ws

set_other : (a : ℕ) (t : Tally) → Other (set_call a t)
unfolding set_call is_ticks
set_other a Wrong = refl
set_other a (All n k u) = cond_cases Other (ltb n 1) (λ _. refl) (λ _. cond_cases Other (ltb 99 n) (λ _. refl) (λ _. refl))

set-from-other : (r : Option ℕ) (l : List ℕ) (ws : List (List ℕ)) → OtherLine (set_from r l ws)
unfolding set_from set_words is_ticks
set-from-other None l ws = refl
set-from-other (Some a) l ws =
    cond_cases OtherLine (ltb a 48) (λ _. refl) (λ _. cond_cases OtherLine (ltb 67 a) (λ _. refl) (λ _. set_other a _))

set-reading-other : (l : List ℕ) (ws : List (List ℕ)) → OtherLine (set_reading l ws)
unfolding set_reading is_ticks
set-reading-other l [] = refl
set-reading-other l (w ∷ ws) = set-from-other (read_hex 2 2 w) l ws

probe-other : (t : Tally) → Other (probe_call t)
unfolding probe_call is_ticks
probe-other Wrong = refl
probe-other (All n k u) = cond_cases Other (ltb n 1) (λ _. refl) (λ _. refl)

degrees-other : (t : Tally) → Other (degrees_call t)
unfolding degrees_call is_ticks
degrees-other Wrong = refl
degrees-other (All n k u) = cond_cases Other (eqb n 2) (λ _. refl) (λ _. refl)

record-other : (t : Tally) → Other (record_call t)
unfolding record_call is_ticks
record-other Wrong = refl
record-other (All n k u) = refl

-- ---- read again

-- Two readings of the same words, behind the numbers l and behind l': where the first is of ticks, both are alike and leave these numbers.
abbrev Again : List ℕ → List ℕ → Reading → Reading → Type 0
Again l l' r r' = is_ticks r.content ≡ true → (r.numbers ≡ l) × (r'.content ≡ r.content) × (r'.numbers ≡ l')

module _ (l l' : List ℕ) where
  no-ticks : (r r' : Reading) → OtherLine r → Again l l' r r'
  no-ticks r r' other = λ e. absurd (false≢true (rw other at e))

  later-again : (k : Keyword) (ws : List (List ℕ)) → Again l l' (later_reading k l ws) (later_reading k l' ws)
  unfolding later_reading probe_reading degrees_reading record_reading
  later-again Keyword.Set ws = no-ticks _ _ (set-reading-other l ws)
  later-again Keyword.At ws = λ _. (refl, refl, refl)
  later-again Keyword.Stretch ws = λ _. (refl, refl, refl)
  later-again Keyword.Frames ws = λ _. (refl, refl, refl)
  later-again Keyword.Probe ws = no-ticks (later_reading Keyword.Probe l ws) _ (probe-other _)
  later-again Keyword.Degrees ws = no-ticks (later_reading Keyword.Degrees l ws) _ (degrees-other _)
  later-again Keyword.Record ws = no-ticks (later_reading Keyword.Record l ws) _ (record-other _)
  later-again Keyword.Listing ws = λ _. (refl, refl, refl)
  later-again Keyword.Quietest ws = λ _. (refl, refl, refl)
  later-again Keyword.Item ws = λ _. (refl, refl, refl)
  later-again Keyword.Bus ws = λ _. (refl, refl, refl)
  later-again Keyword.Tick ws = λ _. (refl, refl, refl)
  later-again Keyword.Flight ws = λ _. (refl, refl, refl)
  later-again Keyword.Temperature ws = λ _. (refl, refl, refl)
  later-again Keyword.Int ws = λ _. (refl, refl, refl)
  later-again Keyword.Awaited ws = λ _. (refl, refl, refl)
  later-again Keyword.Regs ws = λ _. (refl, refl, refl)
  later-again Keyword.Expect ws = λ _. (refl, refl, refl)
  later-again Keyword.Show ws = λ _. (refl, refl, refl)
  later-again Keyword.Unknown ws = λ _. (refl, refl, refl)

  keyword-again : (k : Keyword) (ws : List (List ℕ)) → Again l l' (keyword_reading k l ws) (keyword_reading k l' ws)
  unfolding keyword_reading flight_reading temperature_reading
  keyword-again Keyword.Item ws = λ _. (refl, refl, refl)
  keyword-again Keyword.Bus ws = no-ticks _ _ (bus-other l ws)
  keyword-again Keyword.Tick ws = λ _. (refl, refl, refl)
  keyword-again Keyword.Flight ws = no-ticks (keyword_reading Keyword.Flight l ws) _ (flight-other _)
  keyword-again Keyword.Temperature ws = no-ticks (keyword_reading Keyword.Temperature l ws) _ (temperature-other _)
  keyword-again Keyword.Int ws = λ _. (refl, refl, refl)
  keyword-again Keyword.Awaited ws = λ _. (refl, refl, refl)
  keyword-again Keyword.Regs ws = λ _. (refl, refl, refl)
  keyword-again Keyword.Expect ws = no-ticks _ _ (expect-reading-other l ws)
  keyword-again Keyword.Show ws = λ _. (refl, refl, refl)
  keyword-again Keyword.Set ws = later-again Keyword.Set ws
  keyword-again Keyword.At ws = later-again Keyword.At ws
  keyword-again Keyword.Stretch ws = later-again Keyword.Stretch ws
  keyword-again Keyword.Frames ws = later-again Keyword.Frames ws
  keyword-again Keyword.Probe ws = later-again Keyword.Probe ws
  keyword-again Keyword.Degrees ws = later-again Keyword.Degrees ws
  keyword-again Keyword.Record ws = later-again Keyword.Record ws
  keyword-again Keyword.Listing ws = later-again Keyword.Listing ws
  keyword-again Keyword.Quietest ws = later-again Keyword.Quietest ws
  keyword-again Keyword.Unknown ws = later-again Keyword.Unknown ws

  words-again : (ws : List (List ℕ)) → Again l l' (words_reading l ws) (words_reading l' ws)
  unfolding words_reading
  words-again [] = λ _. (refl, refl, refl)
  words-again (w ∷ ws) = go (eqb (get_or w 0 0) 35) (keyword-again (keyword_of w) (call_words (takes_mark (keyword_of w)) ws))
    where
      go : (t : Bool) {r r' : Reading} → Again l l' r r' → Again l l' (cond t (reading Content.Nothing l) r) (cond t (reading Content.Nothing l') r')
      go true again = λ _. (refl, refl, refl)
      go false again = again

-- A line of ticks leaves the numbers that were read before it, and reads as itself behind any others.
pub ticks-again : (l l' cs : List ℕ) → is_ticks (line_reading l cs).content ≡ true
    → ((line_reading l cs).numbers ≡ l) × ((line_reading l' cs).content ≡ (line_reading l cs).content) × ((line_reading l' cs).numbers ≡ l')
unfolding line_reading
ticks-again l l' cs = go (ltb 1000 (content_length cs)) (words-again l l' (words (take (content_length cs) cs)))
  where
    go : (t : Bool) {r r' : Reading} → Again l l' r r' → Again l l' (cond t (reading Content.TooLong l) r) (cond t (reading Content.TooLong l') r')
    go true again = λ _. (refl, refl, refl)
    go false again = again

-- ---- "decimal, 0 to 4,294,967,295"

abbrev pub TicksBounded : Content → Type 0
TicksBounded Content.Nothing = Unit
TicksBounded Content.TooLong = Unit
TicksBounded Content.UnknownWord = Unit
TicksBounded Content.BadNumber = Unit
TicksBounded Content.WrongCount = Unit
TicksBounded Content.Item = Unit
TicksBounded (Content.Bus n) = Unit
TicksBounded (Content.BusOut size n) = Unit
TicksBounded (Content.Tick n) = n ≤ 4294967295
TicksBounded (Content.Flight up down) = Unit
TicksBounded (Content.Temperature n) = Unit
TicksBounded Content.Int = Unit
TicksBounded Content.Awaited = Unit
TicksBounded Content.Regs = Unit
TicksBounded (Content.Expect a n) = Unit
TicksBounded Content.Show = Unit
TicksBounded (Content.Set a n) = Unit
TicksBounded (Content.At t) = t ≤ 4294967295
TicksBounded (Content.Stretch n) = Unit
TicksBounded Content.Frames = Unit
TicksBounded (Content.Probe n) = Unit
TicksBounded Content.Degrees = Unit
TicksBounded (Content.Record n) = Unit
TicksBounded (Content.Listing old first) = Unit
TicksBounded (Content.Quietest n) = Unit

other-bounded : (c : Content) → Other c → TicksBounded c
unfolding is_ticks
other-bounded Content.Nothing e = tt
other-bounded Content.TooLong e = tt
other-bounded Content.UnknownWord e = tt
other-bounded Content.BadNumber e = tt
other-bounded Content.WrongCount e = tt
other-bounded Content.Item e = tt
other-bounded (Content.Bus n) e = tt
other-bounded (Content.BusOut size n) e = tt
other-bounded (Content.Tick n) e = absurd (true≢false e)
other-bounded (Content.Flight up down) e = tt
other-bounded (Content.Temperature n) e = tt
other-bounded Content.Int e = tt
other-bounded Content.Awaited e = tt
other-bounded Content.Regs e = tt
other-bounded (Content.Expect a n) e = tt
other-bounded Content.Show e = tt
other-bounded (Content.Set a n) e = tt
other-bounded (Content.At t) e = absurd (true≢false e)
other-bounded (Content.Stretch n) e = tt
other-bounded Content.Frames e = tt
other-bounded (Content.Probe n) e = tt
other-bounded Content.Degrees e = tt
other-bounded (Content.Record n) e = tt
other-bounded (Content.Listing old first) e = tt
other-bounded (Content.Quietest n) e = tt

abbrev Within : Reading → Type 0
Within r = TicksBounded r.content

alone-bounded : (c : Content) → TicksBounded c → (ws : List (List ℕ)) → TicksBounded (alone c ws)
unfolding alone
alone-bounded c h [] = h
alone-bounded c h (w ∷ ws) = tt

item-bounded : (ws : List (List ℕ)) → TicksBounded (item_call ws)
unfolding item_call
item-bounded [] = tt
item-bounded (w ∷ ws) = tt

numbered-bounded : (k : Counted) (n : ℕ) → n ≤ 4294967295 → TicksBounded (numbered k n)
unfolding numbered
numbered-bounded Counted.Tick n h = h
numbered-bounded Counted.At n h = h
numbered-bounded Counted.Stretch n h = tt
numbered-bounded Counted.Quietest n h = tt

decimal-with-bounded : (k : Counted) (r : Option ℕ) → ((n : ℕ) → r ≡ Some n → n ≤ 4294967295) → (ws : List (List ℕ))
    → TicksBounded (decimal_with k r ws)
unfolding decimal_with
decimal-with-bounded k None h ws = tt
decimal-with-bounded k (Some n) h ws = alone-bounded (numbered k n) (numbered-bounded k n (h n refl)) ws

decimal-bounded : (k : Counted) (ws : List (List ℕ)) → TicksBounded (decimal_call k ws)
unfolding decimal_call
decimal-bounded k [] = tt
decimal-bounded k (w ∷ ws) =
    decimal-with-bounded k (read_decimal 4294967295 w) (λ n e. decimal-at-most 4294967295 w n e) ws

hex-with-bounded : (old : Bool) (r : Option ℕ) (ws : List (List ℕ)) → TicksBounded (hex_with old r ws)
unfolding hex_with
hex-with-bounded old None ws = tt
hex-with-bounded old (Some n) ws = alone-bounded (Content.Listing old n) tt ws

hex-bounded : (old : Bool) (ws : List (List ℕ)) → TicksBounded (hex_call old ws)
unfolding hex_call
hex-bounded old [] = tt
hex-bounded old (w ∷ ws) = hex-with-bounded old _ ws

listing-bounded : (ws : List (List ℕ)) → TicksBounded (listing_call ws)
unfolding listing_call
listing-bounded [] = tt
listing-bounded (w ∷ ws) =
    cond_cases TicksBounded (same_bytes w (ascii "old")) (λ _. hex-bounded true ws) (λ _. hex-bounded false (w ∷ ws))

later-bounded : (k : Keyword) (l : List ℕ) (ws : List (List ℕ)) → Within (later_reading k l ws)
unfolding later_reading probe_reading degrees_reading record_reading
later-bounded Keyword.Set l ws = other-bounded _ (set-reading-other l ws)
later-bounded Keyword.At l ws = decimal-bounded Counted.At ws
later-bounded Keyword.Stretch l ws = decimal-bounded Counted.Stretch ws
later-bounded Keyword.Frames l ws = alone-bounded Content.Frames tt ws
later-bounded Keyword.Probe l ws = other-bounded _ (probe-other _)
later-bounded Keyword.Degrees l ws = other-bounded _ (degrees-other _)
later-bounded Keyword.Record l ws = other-bounded _ (record-other _)
later-bounded Keyword.Listing l ws = listing-bounded ws
later-bounded Keyword.Quietest l ws = decimal-bounded Counted.Quietest ws
later-bounded Keyword.Item l ws = tt
later-bounded Keyword.Bus l ws = tt
later-bounded Keyword.Tick l ws = tt
later-bounded Keyword.Flight l ws = tt
later-bounded Keyword.Temperature l ws = tt
later-bounded Keyword.Int l ws = tt
later-bounded Keyword.Awaited l ws = tt
later-bounded Keyword.Regs l ws = tt
later-bounded Keyword.Expect l ws = tt
later-bounded Keyword.Show l ws = tt
later-bounded Keyword.Unknown l ws = tt

keyword-bounded : (k : Keyword) (l : List ℕ) (ws : List (List ℕ)) → Within (keyword_reading k l ws)
unfolding keyword_reading flight_reading temperature_reading
keyword-bounded Keyword.Item l ws = item-bounded ws
keyword-bounded Keyword.Bus l ws = other-bounded _ (bus-other l ws)
keyword-bounded Keyword.Tick l ws = decimal-bounded Counted.Tick ws
keyword-bounded Keyword.Flight l ws = other-bounded _ (flight-other _)
keyword-bounded Keyword.Temperature l ws = other-bounded _ (temperature-other _)
keyword-bounded Keyword.Int l ws = alone-bounded Content.Int tt ws
keyword-bounded Keyword.Awaited l ws = alone-bounded Content.Awaited tt ws
keyword-bounded Keyword.Regs l ws = alone-bounded Content.Regs tt ws
keyword-bounded Keyword.Expect l ws = other-bounded _ (expect-reading-other l ws)
keyword-bounded Keyword.Show l ws = alone-bounded Content.Show tt ws
keyword-bounded Keyword.Set l ws = later-bounded Keyword.Set l ws
keyword-bounded Keyword.At l ws = later-bounded Keyword.At l ws
keyword-bounded Keyword.Stretch l ws = later-bounded Keyword.Stretch l ws
keyword-bounded Keyword.Frames l ws = later-bounded Keyword.Frames l ws
keyword-bounded Keyword.Probe l ws = later-bounded Keyword.Probe l ws
keyword-bounded Keyword.Degrees l ws = later-bounded Keyword.Degrees l ws
keyword-bounded Keyword.Record l ws = later-bounded Keyword.Record l ws
keyword-bounded Keyword.Listing l ws = later-bounded Keyword.Listing l ws
keyword-bounded Keyword.Quietest l ws = later-bounded Keyword.Quietest l ws
keyword-bounded Keyword.Unknown l ws = later-bounded Keyword.Unknown l ws

words-bounded : (l : List ℕ) (ws : List (List ℕ)) → Within (words_reading l ws)
unfolding words_reading
words-bounded l [] = tt
words-bounded l (w ∷ ws) =
    cond_cases Within (eqb (get_or w 0 0) 35) (λ _. tt) (λ _. keyword-bounded (keyword_of w) l (call_words (takes_mark (keyword_of w)) ws))

pub ticks-bounded : (l cs : List ℕ) → TicksBounded (line_reading l cs).content
unfolding line_reading
ticks-bounded l cs =
    cond_cases Within (ltb 1000 (content_length cs)) (λ _. tt) (λ _. words-bounded l (words (take (content_length cs) cs)))

pub tick-bounded : (l cs : List ℕ) (n : ℕ) → (line_reading l cs).content ≡ Content.Tick n → n ≤ 4294967295
tick-bounded l cs n e = subst TicksBounded e (ticks-bounded l cs)

pub at-bounded : (l cs : List ℕ) (t : ℕ) → (line_reading l cs).content ≡ Content.At t → t ≤ 4294967295
at-bounded l cs t e = subst TicksBounded e (ticks-bounded l cs)
