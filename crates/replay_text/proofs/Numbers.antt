-- What a line holds, and the numbers that its call takes, go by no number that was read before. Assumes nothing.
use Prim.Native.Nat.{ℕ, zero, suc, ◌+◌, ◌-◌, ◌≤◌, ◌<◌}
use mathlib.Core.Path.{◌≡◌, refl, sym, ap, ◌∙◌}
use mathlib.Core.Bool.{Bool, true, false, cond}
use mathlib.Core.List.{List, [], ◌∷◌}
use native.Mathlib.Omega.{arith}
use native.Mathlib.Decide.{dec_lt}
use lib.Dec.{ltb, leb, eqb}
use lib.ListN.{length, get_or, set, take, drop, length-set, get_or-eq_default}
use lib.Seq.{get_or-set_same, get_or-set_other}
use borrow.Author.Tests.{ltb-false, leb-true, eqb-true}
use Rattle.numeral.specs.Ascii.{ascii}
use Rattle.unit.proofs.Cases.{by_eqb}
use Rattle.numeral.specs.Read.{read_hex, read_decimal}
use Rattle.line.specs.declared.Content.{Content}
use Rattle.line.specs.declared.Content.TheVariants.{Bus, BusOut}
use Rattle.line.specs.declared.Counted.{Counted}
use Rattle.line.specs.declared.Form.{Form}
use Rattle.line.specs.declared.Keyword.{Keyword}
use Rattle.line.specs.declared.ListWord.{ListWord}
use Rattle.line.specs.declared.ListWord.TheVariants.{Slash, Past, Word}
use Rattle.line.specs.declared.Tally.{Tally}
use Rattle.line.specs.declared.Tally.TheVariants.{Wrong, All}
use Rattle.line.specs.Mark.{takes_mark, call_words}
use Rattle.line.specs.Words.{words, same_bytes}
use Rattle.line.specs.Numbers.{is_slash, list_word, of_number, on_list_word, Outcome, tallied}
use Rattle.line.specs.Decimals.{decimal_of, on_number, listed}
use Rattle.line.specs.Line.{Reading, reading, read_by, every, byte_form, bytes_call, bytes_reading, is_out, out_reading, bus_reading, item_call, alone, numbered, decimal_with, decimal_call, flight_call, flight_reading, temperature_call, temperature_reading, expect_form, expect_call, expect_words, expect_from, expect_reading, set_form, set_call, set_words, set_from, set_reading, probe_call, probe_reading, pair_form, degrees_call, degrees_reading, record_call, record_reading, hex_with, hex_call, listing_call, word_form, later_reading, keyword_of, keyword_reading, words_reading, content_length, line_reading}
use Rattle.std.specs.Prelude.{Option, Some, None}

-- How many numbers a line's call takes, from the first on.
unfoldable pub used_of : Content → ℕ
used_of Content.Nothing = 0
used_of Content.TooLong = 0
used_of Content.UnknownWord = 0
used_of Content.BadNumber = 0
used_of Content.WrongCount = 0
used_of Content.Item = 0
used_of (Content.Bus n) = n
used_of (Content.BusOut size n) = n
used_of (Content.Tick n) = 0
used_of (Content.Flight up down) = up + down
used_of (Content.Temperature n) = n
used_of Content.Int = 0
used_of Content.Awaited = 0
used_of Content.Regs = 0
used_of (Content.Expect a n) = n
used_of Content.Show = 0
used_of (Content.Set a n) = n
used_of (Content.At t) = 0
used_of (Content.Stretch n) = 0
used_of Content.Frames = 0
used_of (Content.Probe n) = n
used_of Content.Degrees = 2
used_of (Content.Record n) = n
used_of (Content.Listing old first) = 0
used_of (Content.Quietest n) = 0

-- Numbers that are alike as far as a call takes them.
pub record SameNumbers (content : Content) (l l' : List ℕ) : Type 0 where
  pub long : length l ≡ length l'
  pub each : (i : ℕ) → i < used_of content → get_or l i 0 ≡ get_or l' i 0

-- ---- lists of numbers

cond_cases : {A : Type 0} (P : A → Type 0) (t : Bool) {x y : A} → (t ≡ true → P x) → (t ≡ false → P y) → P (cond t x y)
cond_cases P true one other = one refl
cond_cases P false one other = other refl

-- a number that a list has stored: words past those that it can have are not looked into
abbrev InTally : Tally → (ℕ → Type 0) → ℕ → Type 0
InTally Wrong looked i = ⊥
InTally (All n k u) looked i = (i < n) × looked i

abbrev below : ℕ → ℕ → Type 0
below n i = i < n

abbrev all : ℕ → Type 0
all i = Unit

-- The numbers before the first slash are some of all.
abbrev Ordered : Tally → Type 0
Ordered Wrong = Unit
Ordered (All n k u) = u ≤ n

record SameOutcome (size : ℕ) (looked : ℕ → Type 0) (o o' : Outcome) : Type 0 where
  tally : o.tally ≡ o'.tally
  ordered : Ordered o.tally
  kept : length o.numbers ≡ size
  long : length o.numbers ≡ length o'.numbers
  each : (i : ℕ) → InTally o.tally looked i → get_or o.numbers i 0 ≡ get_or o'.numbers i 0

past-behind : (f : Form) (n : ℕ) (w : List ℕ) → list_word f n w ≡ Past → f.looked ≤ n
unfolding list_word
past-behind f n w = go (is_slash f.slash w) (leb f.looked n) refl (read_hex f.least f.most w)
  where
    go : (t b : Bool) → leb f.looked n ≡ b → (r : Option ℕ) → cond t Slash (cond b Past (of_number r)) ≡ Past → f.looked ≤ n
    go true b h r e = let z : ◌≡◌ {A = ℕ} 0 1 = cc in absurd (omega arith)
    go false true h r e = leb-true f.looked n h
    go false false h (Some v) e = let z : ◌≡◌ {A = ℕ} 0 1 = cc in absurd (omega arith)
    go false false h None e = let z : ◌≡◌ {A = ℕ} 0 1 = cc in absurd (omega arith)

-- A number more in both.
stored-alike : (l l' : List ℕ) (n v : ℕ) (looked : ℕ → Type 0) → length l ≡ length l' → ((i : ℕ) → i < n → looked i → get_or l i 0 ≡ get_or l' i 0)
    → (i : ℕ) → i < n + 1 → looked i → get_or (set l n v) i 0 ≡ get_or (set l' n v) i 0
stored-alike l l' n v looked long each i low high = by_eqb i n (λ e _. same e (dec_lt n (length l))) (λ other _. apart other)
  where
    apart : (i ≡ n → ⊥) → get_or (set l n v) i 0 ≡ get_or (set l' n v) i 0
    apart other =
        get_or-set_other l n i v 0 other ∙ (each i (omega (arith, other)) high ∙ sym (get_or-set_other l' n i v 0 other))

    same : i ≡ n → Dec (n < length l) → get_or (set l n v) i 0 ≡ get_or (set l' n v) i 0
    same e (yes p) = rw e (get_or-set_same l n v 0 p ∙ sym (get_or-set_same l' n v 0 (omega (arith, long))))
    same e (no p) =
        let here : length (set l n v) ≤ i = rw length-set (omega arith) in
        let there : length (set l' n v) ≤ i = rw length-set (omega (arith, long)) in
        get_or-eq_default (set l n v) 0 here ∙ sym (get_or-eq_default (set l' n v) 0 there)

tallied-alike : (size : ℕ) (f : Form) (ws : List (List ℕ)) (n k u : ℕ) (l l' : List ℕ) → u ≤ n → length l ≡ size → length l ≡ length l'
    → ((i : ℕ) → i < n → i < f.looked → get_or l i 0 ≡ get_or l' i 0)
    → SameOutcome size (below f.looked) (tallied f n k u l ws) (tallied f n k u l' ws)
unfolding tallied
tallied-alike size f [] n k u l l' ordered kept long each =
    record { tally = refl; ordered = ordered; kept = kept; long = long; each = λ i h. each i h.0 h.1 }
tallied-alike size f (w ∷ ws) n k u l l' ordered kept long each = go (list_word f n w) refl (tallied-alike size f ws)
  where
    go : (x : ListWord) → list_word f n w ≡ x
        → ((n k u : ℕ) (l l' : List ℕ) → u ≤ n → length l ≡ size → length l ≡ length l' → ((i : ℕ) → i < n → i < f.looked → get_or l i 0 ≡ get_or l' i 0)
        → SameOutcome size (below f.looked) (tallied f n k u l ws) (tallied f n k u l' ws))
        → SameOutcome size (below f.looked)
        (on_list_word x (tallied f n (k + 1) (cond (eqb k 0) n u) l ws) (tallied f (n + 1) k u l ws) (λ v. tallied f (n + 1) k u (set l n v) ws) (record { tally = Wrong; numbers = l }))
        (on_list_word x (tallied f n (k + 1) (cond (eqb k 0) n u) l' ws) (tallied f (n + 1) k u l' ws) (λ v. tallied f (n + 1) k u (set l' n v) ws) (record { tally = Wrong; numbers = l' }))
    go Slash e rest = rest n (k + 1) (cond (eqb k 0) n u) l l' (cond_cases (λ (v : ℕ). v ≤ n) (eqb k 0) (λ _. omega arith) (λ _. ordered)) kept long each
    go Past e rest = rest (n + 1) k u l l' (omega (arith, ordered)) kept long (λ i low high. each i (omega (arith, past-behind f n w e)) high)
    go (Word v) e rest =
        rest (n + 1) k u (set l n v) (set l' n v) (omega (arith, ordered)) (length-set l n v ∙ kept) (rw (length-set l n v, length-set l' n v) long) (stored-alike l l' n v (below f.looked) long each)
    go ListWord.Wrong e rest = record { tally = refl; ordered = tt; kept = kept; long = long; each = λ i h. absurd h }

listed-alike : (size : ℕ) (signed : Bool) (ws : List (List ℕ)) (n : ℕ) (l l' : List ℕ) → length l ≡ size → length l ≡ length l'
    → ((i : ℕ) → i < n → all i → get_or l i 0 ≡ get_or l' i 0) → SameOutcome size all (listed signed n l ws) (listed signed n l' ws)
unfolding listed
listed-alike size signed [] n l l' kept long each =
    record { tally = refl; ordered = omega arith; kept = kept; long = long; each = λ i h. each i h.0 tt }
listed-alike size signed (w ∷ ws) n l l' kept long each =
    go (decimal_of signed w) (λ v. listed-alike size signed ws (n + 1) (set l n v) (set l' n v))
  where
    go : (x : Option ℕ)
        → ((v : ℕ) → length (set l n v) ≡ size → length (set l n v) ≡ length (set l' n v) → ((i : ℕ) → i < n + 1 → all i → get_or (set l n v) i 0 ≡ get_or (set l' n v) i 0)
        → SameOutcome size all (listed signed (n + 1) (set l n v) ws) (listed signed (n + 1) (set l' n v) ws))
        → SameOutcome size all (on_number x (λ v. listed signed (n + 1) (set l n v) ws) (record { tally = Wrong; numbers = l }))
        (on_number x (λ v. listed signed (n + 1) (set l' n v) ws) (record { tally = Wrong; numbers = l' }))
    go (Some v) rest = rest v (length-set l n v ∙ kept) (rw (length-set l n v, length-set l' n v) long) (stored-alike l l' n v all long each)
    go None rest = record { tally = refl; ordered = tt; kept = kept; long = long; each = λ i h. absurd h }

-- ---- what a line holds

pub record SameReading (size : ℕ) (r r' : Reading) : Type 0 where
  pub kept : length r.numbers ≡ size
  pub content : r.content ≡ r'.content
  pub numbers : SameNumbers r.content r.numbers r'.numbers

-- A call takes no more than its list has stored.
abbrev Within : (ℕ → Type 0) → (Tally → Content) → Type 0
Within looked f = (t : Tally) → Ordered t → (i : ℕ) → i < used_of (f t) → InTally t looked i

by-tally : (size : ℕ) (looked : ℕ → Type 0) (f : Tally → Content) (o o' : Outcome) → Within looked f → SameOutcome size looked o o' → SameReading size (read_by f o) (read_by f o')
by-tally size looked f o o' within same = record {
  kept = same.kept;
  content = ap f same.tally;
  numbers = record { long = same.long; each = λ i h. same.each i (within o.tally same.ordered i h) };
}

abbrev Takes : (ℕ → Type 0) → Tally → Content → Type 0
Takes looked t c = (i : ℕ) → i < used_of c → InTally t looked i

takes_none : (looked : ℕ → Type 0) (t : Tally) (c : Content) → used_of c ≡ 0 → Takes looked t c
takes_none looked t c none i h = absurd (omega (arith, none))

bytes-within : (content : ℕ → Content) → ((n : ℕ) → used_of (content n) ≡ n) → Within (below every) (bytes_call content)
unfolding bytes_call used_of
bytes-within content used Wrong ordered = takes_none (below every) Wrong Content.BadNumber refl
bytes-within content used (All n k u) ordered =
    cond_cases (Takes (below every) (All n k u)) (ltb 200 n) (λ _. takes_none (below every) (All n k u) Content.WrongCount refl)
    (λ e i h. (omega (arith, used n), omega (arith, used n, ltb-false 200 n e)))

flight-within : Within (below every) flight_call
unfolding flight_call used_of
flight-within Wrong ordered = takes_none (below every) Wrong Content.BadNumber refl
flight-within (All n k u) ordered =
    let none = takes_none (below every) (All n k u) Content.WrongCount refl in
    cond_cases (Takes (below every) (All n k u)) (eqb k 1)
    (λ _. cond_cases (Takes (below every) (All n k u)) (ltb 16 u) (λ _. none)
    (λ e. cond_cases (Takes (below every) (All n k u)) (ltb 16 (n - u)) (λ _. none) (λ e' i h. (omega (arith, ordered), omega (arith, ltb-false 16 u e, ltb-false 16 (n - u) e')))))
    (λ _. none)

temperature-within : Within (below every) temperature_call
unfolding temperature_call used_of
temperature-within Wrong ordered = takes_none (below every) Wrong Content.BadNumber refl
temperature-within (All n k u) ordered =
    cond_cases (Takes (below every) (All n k u)) (ltb 16 n) (λ _. takes_none (below every) (All n k u) Content.WrongCount refl)
    (λ e i h. (h, omega (arith, ltb-false 16 n e)))

expect-within : (a : ℕ) → Within (below (256 - a)) (expect_call a)
unfolding expect_call used_of
expect-within a Wrong ordered = takes_none (below (256 - a)) Wrong Content.BadNumber refl
expect-within a (All n k u) ordered =
    let none = takes_none (below (256 - a)) (All n k u) Content.WrongCount refl in
    cond_cases (Takes (below (256 - a)) (All n k u)) (ltb n 1) (λ _. none)
    (λ _. cond_cases (Takes (below (256 - a)) (All n k u)) (ltb (256 - a) n) (λ _. none) (λ e i h. (h, omega (arith, ltb-false (256 - a) n e))))

set-within : (a : ℕ) → Within (below every) (set_call a)
unfolding set_call used_of
set-within a Wrong ordered = takes_none (below every) Wrong Content.BadNumber refl
set-within a (All n k u) ordered =
    let none = takes_none (below every) (All n k u) Content.WrongCount refl in
    cond_cases (Takes (below every) (All n k u)) (ltb n 1) (λ _. none)
    (λ _. cond_cases (Takes (below every) (All n k u)) (ltb 99 n) (λ _. none) (λ e i h. (h, omega (arith, ltb-false 99 n e))))

degrees-within : Within (below 2) degrees_call
unfolding degrees_call used_of
degrees-within Wrong ordered = takes_none (below 2) Wrong Content.BadNumber refl
degrees-within (All n k u) ordered =
    cond_cases (Takes (below 2) (All n k u)) (eqb n 2) (λ e i h. (omega (arith, eqb-true n 2 e), h)) (λ _. takes_none (below 2) (All n k u) Content.WrongCount refl)

probe-within : Within all probe_call
unfolding probe_call used_of
probe-within Wrong ordered = takes_none all Wrong Content.BadNumber refl
probe-within (All n k u) ordered =
    cond_cases (Takes all (All n k u)) (ltb n 1) (λ _. takes_none all (All n k u) Content.WrongCount refl) (λ _ i h. (h, tt))

record-within : Within all record_call
unfolding record_call used_of
record-within Wrong ordered = takes_none all Wrong Content.BadNumber refl
record-within (All n k u) ordered = λ i h. (h, tt)

-- ---- calls that take none

alone-none : (c : Content) → used_of c ≡ 0 → (ws : List (List ℕ)) → used_of (alone c ws) ≡ 0
unfolding alone used_of
alone-none c none [] = none
alone-none c none (w ∷ ws) = refl

item-none : (ws : List (List ℕ)) → used_of (item_call ws) ≡ 0
unfolding item_call used_of
item-none [] = refl
item-none (w ∷ ws) = refl

numbered-none : (k : Counted) (n : ℕ) → used_of (numbered k n) ≡ 0
unfolding numbered used_of
numbered-none Counted.Tick n = refl
numbered-none Counted.At n = refl
numbered-none Counted.Stretch n = refl
numbered-none Counted.Quietest n = refl

decimal-with-none : (k : Counted) (r : Option ℕ) (ws : List (List ℕ)) → used_of (decimal_with k r ws) ≡ 0
unfolding decimal_with used_of
decimal-with-none k None ws = refl
decimal-with-none k (Some n) ws = alone-none (numbered k n) (numbered-none k n) ws

decimal-none : (k : Counted) (ws : List (List ℕ)) → used_of (decimal_call k ws) ≡ 0
unfolding decimal_call used_of
decimal-none k [] = refl
decimal-none k (w ∷ ws) = decimal-with-none k (read_decimal 4294967295 w) ws

hex-with-none : (old : Bool) (r : Option ℕ) (ws : List (List ℕ)) → used_of (hex_with old r ws) ≡ 0
unfolding hex_with used_of
hex-with-none old None ws = refl
hex-with-none old (Some n) ws = alone-none (Content.Listing old n) refl ws

hex-none : (old : Bool) (ws : List (List ℕ)) → used_of (hex_call old ws) ≡ 0
unfolding hex_call used_of
hex-none old [] = refl
hex-none old (w ∷ ws) = hex-with-none old (read_hex 1 8 w) ws

listing_none : (ws : List (List ℕ)) → used_of (listing_call ws) ≡ 0
unfolding listing_call used_of
listing_none [] = refl
listing_none (w ∷ ws) = go (same_bytes w (ascii "old"))
  where
    go : (t : Bool) → used_of (cond t (hex_call true ws) (hex_call false (w ∷ ws))) ≡ 0
    go true = hex-none true ws
    go false = hex-none false (w ∷ ws)

-- ---- each line

module _ (l l' : List ℕ) (long : length l ≡ length l') where
  -- a line whose call takes no number
  plain : (c : Content) → used_of c ≡ 0 → SameReading (length l) (reading c l) (reading c l')
  plain c none = record { kept = refl; content = refl; numbers = record { long = long; each = λ i h. absurd (omega (arith, none)) } }

  cond-alike : (t : Bool) {x x' y y' : Reading} → SameReading (length l) x x' → SameReading (length l) y y' → SameReading (length l) (cond t x y) (cond t x' y')
  cond-alike true one other = one
  cond-alike false one other = other

  hex-alike : (f : Form) (call : Tally → Content) (ws : List (List ℕ)) → Within (below f.looked) call
      → SameReading (length l) (read_by call (tallied f 0 0 0 l ws)) (read_by call (tallied f 0 0 0 l' ws))
  hex-alike f call ws within =
      by-tally (length l) (below f.looked) call (tallied f 0 0 0 l ws) (tallied f 0 0 0 l' ws) within
      (tallied-alike (length l) f ws 0 0 0 l l' (omega arith) refl long (λ i h _. absurd (omega arith)))

  decimals-alike : (signed : Bool) (call : Tally → Content) (ws : List (List ℕ)) → Within all call
      → SameReading (length l) (read_by call (listed signed 0 l ws)) (read_by call (listed signed 0 l' ws))
  decimals-alike signed call ws within =
      by-tally (length l) all call (listed signed 0 l ws) (listed signed 0 l' ws) within (listed-alike (length l) signed ws 0 l l' refl long (λ i h _. absurd (omega arith)))

  bytes-alike : (content : ℕ → Content) → ((n : ℕ) → used_of (content n) ≡ n) → (ws : List (List ℕ))
      → SameReading (length l) (bytes_reading content l ws) (bytes_reading content l' ws)
  unfolding bytes_reading
  bytes-alike content used ws = hex-alike byte_form (bytes_call content) ws (bytes-within content used)

  out-alike : (r : Option ℕ) (ws : List (List ℕ)) → SameReading (length l) (out_reading r l ws) (out_reading r l' ws)
  unfolding out_reading used_of
  out-alike None ws = plain Content.BadNumber refl
  out-alike (Some b) ws = bytes-alike (BusOut b) (λ n. refl) ws

  bus-alike : (ws : List (List ℕ)) → SameReading (length l) (bus_reading l ws) (bus_reading l' ws)
  unfolding bus_reading used_of
  bus-alike [] = bytes-alike Bus (λ n. refl) []
  bus-alike (w ∷ ws) = cond-alike (is_out w) (out-alike (read_decimal 200 (drop 4 w)) ws) (bytes-alike Bus (λ n. refl) (w ∷ ws))

  expect-from-alike : (r : Option ℕ) (ws : List (List ℕ)) → SameReading (length l) (expect_from r l ws) (expect_from r l' ws)
  unfolding expect_from expect_words used_of
  expect-from-alike None ws = plain Content.BadNumber refl
  expect-from-alike (Some a) ws =
      cond-alike (ltb a 176) (plain Content.BadNumber refl)
      (cond-alike (ltb 255 a) (plain Content.BadNumber refl) (hex-alike (expect_form a) (expect_call a) ws (expect-within a)))

  expect-alike : (ws : List (List ℕ)) → SameReading (length l) (expect_reading l ws) (expect_reading l' ws)
  unfolding expect_reading used_of
  expect-alike [] = plain Content.WrongCount refl
  expect-alike (w ∷ ws) = expect-from-alike (read_hex 2 2 w) ws

  set-from-alike : (r : Option ℕ) (ws : List (List ℕ)) → SameReading (length l) (set_from r l ws) (set_from r l' ws)
  unfolding set_from set_words used_of
  set-from-alike None ws = plain Content.BadNumber refl
  set-from-alike (Some a) ws =
      cond-alike (ltb a 48) (plain Content.BadNumber refl)
      (cond-alike (ltb 67 a) (plain Content.BadNumber refl) (hex-alike set_form (set_call a) ws (set-within a)))

  set-alike : (ws : List (List ℕ)) → SameReading (length l) (set_reading l ws) (set_reading l' ws)
  unfolding set_reading used_of
  set-alike [] = plain Content.WrongCount refl
  set-alike (w ∷ ws) = set-from-alike (read_hex 2 2 w) ws

  later-alike : (k : Keyword) (ws : List (List ℕ)) → SameReading (length l) (later_reading k l ws) (later_reading k l' ws)
  unfolding later_reading probe_reading degrees_reading record_reading used_of
  later-alike Keyword.Set ws = set-alike ws
  later-alike Keyword.At ws = plain (decimal_call Counted.At ws) (decimal-none Counted.At ws)
  later-alike Keyword.Stretch ws = plain (decimal_call Counted.Stretch ws) (decimal-none Counted.Stretch ws)
  later-alike Keyword.Frames ws = plain (alone Content.Frames ws) (alone-none Content.Frames refl ws)
  later-alike Keyword.Probe ws = decimals-alike false probe_call ws probe-within
  later-alike Keyword.Degrees ws = hex-alike pair_form degrees_call ws degrees-within
  later-alike Keyword.Record ws = decimals-alike true record_call ws record-within
  later-alike Keyword.Listing ws = plain (listing_call ws) (listing_none ws)
  later-alike Keyword.Quietest ws = plain (decimal_call Counted.Quietest ws) (decimal-none Counted.Quietest ws)
  later-alike Keyword.Item ws = plain Content.UnknownWord refl
  later-alike Keyword.Bus ws = plain Content.UnknownWord refl
  later-alike Keyword.Tick ws = plain Content.UnknownWord refl
  later-alike Keyword.Flight ws = plain Content.UnknownWord refl
  later-alike Keyword.Temperature ws = plain Content.UnknownWord refl
  later-alike Keyword.Int ws = plain Content.UnknownWord refl
  later-alike Keyword.Awaited ws = plain Content.UnknownWord refl
  later-alike Keyword.Regs ws = plain Content.UnknownWord refl
  later-alike Keyword.Expect ws = plain Content.UnknownWord refl
  later-alike Keyword.Show ws = plain Content.UnknownWord refl
  later-alike Keyword.Unknown ws = plain Content.UnknownWord refl

  keyword-alike : (k : Keyword) (ws : List (List ℕ)) → SameReading (length l) (keyword_reading k l ws) (keyword_reading k l' ws)
  unfolding keyword_reading flight_reading temperature_reading used_of
  keyword-alike Keyword.Item ws = plain (item_call ws) (item-none ws)
  keyword-alike Keyword.Bus ws = bus-alike ws
  keyword-alike Keyword.Tick ws = plain (decimal_call Counted.Tick ws) (decimal-none Counted.Tick ws)
  keyword-alike Keyword.Flight ws = hex-alike (word_form true) flight_call ws flight-within
  keyword-alike Keyword.Temperature ws = hex-alike (word_form false) temperature_call ws temperature-within
  keyword-alike Keyword.Int ws = plain (alone Content.Int ws) (alone-none Content.Int refl ws)
  keyword-alike Keyword.Awaited ws = plain (alone Content.Awaited ws) (alone-none Content.Awaited refl ws)
  keyword-alike Keyword.Regs ws = plain (alone Content.Regs ws) (alone-none Content.Regs refl ws)
  keyword-alike Keyword.Expect ws = expect-alike ws
  keyword-alike Keyword.Show ws = plain (alone Content.Show ws) (alone-none Content.Show refl ws)
  keyword-alike Keyword.Set ws = later-alike Keyword.Set ws
  keyword-alike Keyword.At ws = later-alike Keyword.At ws
  keyword-alike Keyword.Stretch ws = later-alike Keyword.Stretch ws
  keyword-alike Keyword.Frames ws = later-alike Keyword.Frames ws
  keyword-alike Keyword.Probe ws = later-alike Keyword.Probe ws
  keyword-alike Keyword.Degrees ws = later-alike Keyword.Degrees ws
  keyword-alike Keyword.Record ws = later-alike Keyword.Record ws
  keyword-alike Keyword.Listing ws = later-alike Keyword.Listing ws
  keyword-alike Keyword.Quietest ws = later-alike Keyword.Quietest ws
  keyword-alike Keyword.Unknown ws = later-alike Keyword.Unknown ws

  words-alike : (ws : List (List ℕ)) → SameReading (length l) (words_reading l ws) (words_reading l' ws)
  unfolding words_reading used_of
  words-alike [] = plain Content.Nothing refl
  words-alike (w ∷ ws) =
      cond-alike (eqb (get_or w 0 0) 35) (plain Content.Nothing refl) (keyword-alike (keyword_of w) (call_words (takes_mark (keyword_of w)) ws))

  -- Behind any numbers in as many places a line holds the same, with the same numbers as far as its call takes them, and there are as
  -- many places as before.
  pub reading-alike : (cs : List ℕ) → SameReading (length l) (line_reading l cs) (line_reading l' cs)
  unfolding line_reading used_of
  reading-alike cs =
      cond-alike (ltb 1000 (content_length cs)) (plain Content.TooLong refl) (words-alike (words (take (content_length cs) cs)))

-- ---- the numbers that a call takes

same_taken : (n : ℕ) (l l' : List ℕ) → length l ≡ length l' → ((i : ℕ) → i < n → get_or l i 0 ≡ get_or l' i 0) → take n l ≡ take n l'
same_taken zero l l' long each = refl
same_taken (suc n) [] [] long each = refl
same_taken (suc n) [] (b ∷ ys) long each = absurd (omega (arith, long))
same_taken (suc n) (a ∷ xs) [] long each = absurd (omega (arith, long))
same_taken (suc n) (a ∷ xs) (b ∷ ys) long each =
    let first : a ≡ b = each 0 (omega arith) in
    let rest : take n xs ≡ take n ys = same_taken n xs ys (omega (arith, long)) (λ i h. each (suc i) (omega arith)) in
    rw (first, rest)

pub numbers-taken : (content : Content) (l l' : List ℕ) → SameNumbers content l l' → (n : ℕ) → n ≤ used_of content → take n l ≡ take n l'
numbers-taken content l l' same n most = same_taken n l l' same.long (λ i h. same.each i (omega arith))
