-- How large the numbers of every line are, and how many of them there are. Assumes nothing.
use Prim.Native.Nat.{ℕ, zero, suc, ◌+◌, ◌-◌, ◌*◌, ◌^◌, ◌≤◌, ◌<◌}
use Prim.Native.String.{String}
use native.Mathlib.Omega.{arith}
use native.Mathlib.Nat.{pow-zero, pow-suc, pow-le-pow_right, mul-le-mul_right}
use mathlib.Core.Bool.{Bool, true, false}
use mathlib.Core.List.{List, [], ◌∷◌, ◌++◌}
use mathlib.Core.Path.{◌≡◌, refl, ◌∙◌}
use lib.Dec.{ltb, leb}
use lib.IntN.{nat_abs}
use lib.ListN.{length, get_or, take, drop, length-append, length-take, length-replicate, length-map}
use borrow.Author.Tests.{ltb-false}
use Rattle.unit.specs.Choice.{pick, both, negate}
use Rattle.unit.proofs.Cases.{by-test, by-ltb, by-leb}
use Rattle.numeral.specs.Digit.{are_digits as numeral_are_digits, digit_of, value_of}
use Rattle.numeral.specs.Read.{read_hex, read_decimal, read_signed, value_in}
use Rattle.numeral.proofs.DigitLaws.{decimal-at-most}
use Rattle.difference.specs.Difference.{signed_of}
use Rattle.text.specs.Text.{Text, spaced_each, spaced, begun_before, is_blank, words_after, words, without_return, is}
use Rattle.text.proofs.Apart.{Each}
use Rattle.text.proofs.Lengths.{spaced-none, spaced-first}
use Rattle.item_line.specs.Line.{Output, Call, Expected, Wanted, Line}
use Rattle.item_line.specs.Reading.{Got, got, wrong, number_of, hex, decimal, quanta_of, quanta, within, address, named, size, four_digits, is_wanted, are_digits, wanted, capital, count, before, each, with, counted, alone, one, addressed, item_line, bytes_line, bus_line, set_line, wanted_line, parted, flight_parts, flight_line, temperature_line, probe_line, degrees_line, record_line, listing_line, table, read_by, before_mark, behind_mark, without_comment, worded, words_line, line_of}
use Rattle.item_line.specs.OwnBounds.{Below, Fours, Quanta, OutputBound, CallBound, KeepBound, ExpectedBound, LineBound}
use Rattle.std.specs.Prelude.{Option, Some, None}

-- ---- the words of a line

-- words of at most n bytes, with a blank before each, and at most half as many words
record Within (n : ℕ) (ws : List Text) : Type 0 where
  bytes : length (spaced_each ws) ≤ n
  many : length ws + length ws ≤ n

begun-within : (n : ℕ) (b : Text) (ws : List Text) → Within n ws → Within (suc (length b) + n) (begun_before b ws)
unfolding begun_before
begun-within n [] ws h = record { bytes = omega (arith, h.bytes); many = omega (arith, h.many) }
begun-within n (c ∷ cs) ws h = record {
  bytes = rw spaced-first (omega (arith, h.bytes));
  many = omega (arith, h.many);
}

no_word : Within 0 []
no_word = record { bytes = rw spaced-none (omega arith); many = omega arith }

more_within : {n k : ℕ} {ws : List Text} → n ≤ k → Within n ws → Within k ws
more_within h w = record { bytes = omega (arith, h, w.bytes); many = omega (arith, h, w.many) }

words-within : (b s : Text) → Within (suc (length b + length s)) (words_after b s)
unfolding words_after
words-within b [] = more_within (omega arith) (begun-within 0 b [] no_word)
words-within b (c ∷ cs) =
    by-test (is_blank c) (λ e. rw e (more_within (omega arith) (begun-within _ b _ (words-within [] cs))))
    (λ e. rw e (more_within (omega (arith, length-append b (c ∷ []))) (words-within (b ++ (c ∷ [])) cs)))

-- the words after the first
after_first : {n : ℕ} (w : Text) (ws : List Text) → Within n (w ∷ ws) → Within n ws
after_first w ws h = record { bytes = omega (arith, h.bytes, spaced-first w ws); many = omega (arith, h.many) }

-- words put together have one blank less than there are words
together : {n : ℕ} (ws : List Text) → Within (suc n) ws → length (spaced ws) ≤ n
unfolding spaced
together [] h = omega arith
together (w ∷ ws) h = omega (arith, h.bytes, length-append w (spaced_each ws), spaced-first w ws)

-- the words before a comment are no more
uncommented :
    (ws : List Text) → (length (spaced_each (without_comment ws)) ≤ length (spaced_each ws)) × (length (without_comment ws) ≤ length ws)
unfolding without_comment
uncommented [] = (omega arith, omega arith)
uncommented (w ∷ ws) =
    let (bytes, many) = uncommented ws in
    by-test (is "#" w) (λ e. rw (e, spaced-none) (omega arith, omega arith))
    (λ e. rw e (omega (arith, bytes, spaced-first w ws, spaced-first w (without_comment ws)), omega (arith, many)))

-- nor are those before a mark
before-mark : (ws : List Text) → length (before_mark ws) ≤ length ws
unfolding before_mark
before-mark [] = omega arith
before-mark (w ∷ ws) =
    by-test (is "=>" w) (λ e. rw e (omega arith)) (λ e. rw e (omega (arith, before-mark ws)))

after-mark : (ws : List Text) → Within 1001 ws → ExpectedBound (behind_mark ws)
unfolding behind_mark
after-mark [] h = ExpectedBound.unmarked
after-mark (w ∷ ws) h =
    by-test (is "=>" w) (λ e. rw e (ExpectedBound.marked (together ws (after_first w ws h))))
    (λ e. rw e (after-mark ws (after_first w ws h)))

-- ---- what is read of a word

-- where a word was of its form, what it is has a property
abbrev Holds : {A : Type 0} → (A → Type 0) → Got A → Type 0
Holds P (got a) = P a
Holds P (wrong w) = Unit

weaker : {A : Type 0} {P Q : A → Type 0} (g : Got A) → ((a : A) → P a → Q a) → Holds P g → Holds Q g
weaker (got a) f h = f a h
weaker (wrong w) f h = tt

with_bound :
    {A : Type 0} (P : A → Type 0) (g : Got A) (line : A → Line) → Holds P g → ((a : A) → P a → LineBound (line a)) →
    LineBound (with g line)
with_bound P (got a) line h f = f a h
with_bound P (wrong w) line h f = LineBound.bad

-- each word of some
module _ {A B : Type 0} (P : A → Type 0) (Q : List A → Type 0) (none : Q []) (more : (a : A) (l : List A) → P a → Q l → Q (a ∷ l)) where
  abbrev Read : List B → List A → Type 0
  Read ws read = Q read × (length read ≡ length ws)

  before-holds :
      (w : B) (ws : List B) (g : Got A) (others : Got (List A)) → Holds P g → Holds (Read ws) others →
      Holds (Read (w ∷ ws)) (before g others)
  before-holds w ws (got a) (got others) p (q, e) = (more a others p q, omega (arith, e))
  before-holds w ws (got a) (wrong v) p q = tt
  before-holds w ws (wrong v) others p q = tt

  each_holds : (form : B → Got A) → ((w : B) → Holds P (form w)) → (ws : List B) → Holds (Read ws) (each form ws)
  unfolding each
  each_holds form h [] = (none, refl)
  each_holds form h (w ∷ ws) = before-holds w ws (form w) (each form ws) (h w) (each_holds form h ws)

-- the value of digits of base 16 after a number
value-below : (n : ℕ) (cs : Text) → numeral_are_digits 16 cs ≡ true → value_of 16 n cs < suc n * 16 ^ length cs
unfolding value_of numeral_are_digits
value-below n [] = λ e. rw pow-zero (omega arith)
value-below n (c ∷ cs) =
    by-ltb (digit_of c) 16 (λ h e. rw e (λ d. step h (value-below (n * 16 + digit_of c) cs d)))
    (λ h e. rw e (λ d. let z : ◌≡◌ {A = ℕ} 0 1 = cc in absurd (omega arith)))
  where
    step :
        digit_of c < 16 → value_of 16 (n * 16 + digit_of c) cs < suc (n * 16 + digit_of c) * 16 ^ length cs →
        value_of 16 (n * 16 + digit_of c) cs < suc n * 16 ^ suc (length cs)
    step h v =
        let wide : suc (n * 16 + digit_of c) * 16 ^ length cs ≤ suc n * 16 * 16 ^ length cs =
        mul-le-mul_right (16 ^ length cs) (omega arith) in
        rw pow-suc (omega arith)

hex-below : (least most : ℕ) (w : Text) → Holds (λ n. n < 16 ^ most) (hex least most w)
unfolding hex read_hex value_in
hex-below least most w =
    by-test (ltb (length w) 1) (λ e. rw e tt)
    (λ a. by-test (ltb (length w) least) (λ e. rw (a, e) tt)
    (λ b. by-test (ltb most (length w)) (λ e. rw (a, b, e) tt)
    (λ c. by-test (ltb 8 (length w)) (λ e. rw (a, b, c, e) tt)
    (λ d. by-test (numeral_are_digits 16 w)
    (λ e. by-test (leb (value_of 16 0 w) 4294967295) (λ f. rw (a, b, c, d, e, f) (small e (ltb-false most (length w) c)))
    (λ f. rw (a, b, c, d, e, f) tt))
    (λ e. rw (a, b, c, d, e) tt)))))
  where
    small : numeral_are_digits 16 w ≡ true → length w ≤ most → value_of 16 0 w < 16 ^ most
    small e h =
        let high : 16 ^ length w ≤ 16 ^ most = pow-le-pow_right (omega arith) h in
        let value : value_of 16 0 w < 1 * 16 ^ length w = value-below 0 w e in
        omega arith

decimal-below : (limit : ℕ) (w : Text) → Holds (λ n. n ≤ limit) (decimal limit w)
unfolding decimal
decimal-below limit w = go (read_decimal limit w) (λ n e. decimal-at-most limit w n e)
  where
    go : (r : Option ℕ) → ((n : ℕ) → r ≡ Some n → n ≤ limit) → Holds (λ n. n ≤ limit) (number_of w r)
    go (Some n) h = h n refl
    go None h = tt

address-within : (low high : ℕ) (w : Text) → Holds (λ a. (low ≤ a) × (a ≤ high)) (address low high w)
unfolding address
address-within low high w = go (hex 2 2 w)
  where
    go : (g : Got ℕ) → Holds (λ a. (low ≤ a) × (a ≤ high)) (within low high w g)
    go (got a) =
        by-leb low a (λ h e. by-leb a high (λ k f. rw (e, f) (h, k)) (λ k f. rw (e, f) tt)) (λ h e. rw e tt)
    go (wrong v) = tt

size-most : (w : Text) → Holds (λ n. n ≤ 200) (size w)
unfolding size
size-most w = go (decimal 200 (drop 4 w)) (decimal-below 200 (drop 4 w))
  where
    go : (g : Got ℕ) → Holds (λ n. n ≤ 200) g → Holds (λ n. n ≤ 200) (named w g)
    go (got n) h = h
    go (wrong v) h = tt

pub signed-small : (n : ℕ) → nat_abs (signed_of n) ≤ 2147483648
unfolding signed_of
signed-small n = by-ltb n 2147483648 (λ h e. rw e (omega arith)) (λ h e. rw e (omega arith))

quanta-small : (w : Text) → Holds (λ z. nat_abs z ≤ 2147483648) (quanta w)
unfolding quanta
quanta-small w = go (read_signed w)
  where
    go : (r : Option ℕ) → Holds (λ z. nat_abs z ≤ 2147483648) (quanta_of w r)
    go (Some n) = signed-small n
    go None = tt

four-long : (w : Text) → length w ≤ 4 → length (four_digits w) ≡ 4
unfolding four_digits
four-long w h = rw (length-append, length-replicate {A = ℕ} (4 - length w) 0x30, length-map w capital) (omega arith)

four-digits : (w : Text) → Holds (λ p. length p ≡ 4) (wanted w)
unfolding wanted is_wanted
four-digits w =
    by-leb 1 (length w)
    (λ h e. by-leb (length w) 4 (λ k f. rw (e, f) (go k (both (are_digits w) (negate (is "0x" (take 2 w)))))) (λ k f. rw (e, f) tt))
    (λ h e. rw e tt)
  where
    go : length w ≤ 4 → (b : Bool) → Holds (λ p. length p ≡ 4) (pick b (got (four_digits w)) (wrong w))
    go k true = four-long w k
    go k false = tt

-- ---- how many words

counted-bound :
    {A : Type 0} (least most : ℕ) (ws : List A) (line : Line) → (least ≤ length ws → length ws ≤ most → LineBound line) →
    LineBound (counted least most ws line)
unfolding counted
counted-bound least most ws line h =
    by-leb least (length ws)
    (λ p e. by-leb (length ws) most (λ q f. rw (e, f) (h p q)) (λ q f. rw (e, f) LineBound.bad))
    (λ p e. rw e LineBound.bad)

alone-bound : (line : Line) (ws : List Text) → LineBound line → LineBound (alone line ws)
alone-bound line ws h = counted-bound 0 0 ws line (λ p q. h)

one-bound :
    (P : ℕ → Type 0) (form : Text → Got ℕ) (line : ℕ → Line) (ws : List Text) → ((w : Text) → Holds P (form w)) →
    ((n : ℕ) → P n → LineBound (line n)) → LineBound (one form line ws)
unfolding one
one-bound P form line [] h f = LineBound.bad
one-bound P form line (w ∷ ws) h f = with_bound P (form w) _ (h w) (λ n p. alone-bound (line n) ws (f n p))

addressed-bound :
    (low high : ℕ) (line : ℕ → List Text → Line) (ws : List Text) →
    ((a : ℕ) (others : List Text) → (low ≤ a) × (a ≤ high) → LineBound (line a others)) → LineBound (addressed low high line ws)
unfolding addressed
addressed-bound low high line [] f = LineBound.bad
addressed-bound low high line (w ∷ ws) f = with_bound _ (address low high w) _ (address-within low high w) (λ a p. f a ws p)

-- ---- the lines of the table

-- numbers of a form, each below a bound
each_below :
    (b : ℕ) (form : Text → Got ℕ) → ((w : Text) → Holds (λ n. n < b) (form w)) → (ws : List Text) →
    Holds (λ ns. Below b ns × (length ns ≡ length ws)) (each form ws)
each_below b form h ws = each_holds (λ n. n < b) (Below b) Below.none (λ n others p q. Below.more p q) form h ws

below_at : (b : ℕ) (ns : List ℕ) (k : ℕ) → 0 < b → Below b ns → get_or ns k 0 < b
below_at b [] k some Below.none = some
below_at b (n ∷ ns) zero some (Below.more h hs) = h
below_at b (n ∷ ns) (suc k) some (Below.more h hs) = below_at b ns k some hs

count-below : (w : Text) → Holds (λ n. n < 4294967296) (count w)
count-below w = weaker (count w) (λ n h. omega (arith, h)) (decimal-below 4294967295 w)

bytes-bound : (o : Output) (ws : List Text) (x : Expected) → OutputBound o → ExpectedBound x → LineBound (bytes_line o ws x)
unfolding bytes_line
bytes-bound o ws x ob xb =
    with_bound _ (each (hex 2 2) ws) _ (each_below 256 (hex 2 2) (hex-below 2 2) ws)
    (λ bytes p. counted-bound 0 200 ws _ (λ low high. LineBound.call (CallBound.bus ob p.0 (omega (arith, high, p.1))) xb))

bus-bound : (ws : List Text) (x : Expected) → ExpectedBound x → LineBound (bus_line ws x)
unfolding bus_line
bus-bound [] x xb = bytes-bound Output.by_frame [] x OutputBound.by_frame xb
bus-bound (w ∷ ws) x xb =
    by-test (is "out=" (take 4 w))
    (λ e. rw e (with_bound _ (size w) _ (size-most w) (λ n h. bytes-bound (Output.out_of n) ws x (OutputBound.out_of h) xb)))
    (λ e. rw e (bytes-bound Output.by_frame (w ∷ ws) x OutputBound.by_frame xb))

set-bound : (ws : List Text) (x : Expected) → ExpectedBound x → LineBound (set_line ws x)
unfolding set_line
set-bound all x xb =
    addressed-bound 0x30 0x43 _ all
    (λ a ws within. with_bound _ (each (hex 1 4) ws) _ (each_below 65536 (hex 1 4) (hex-below 1 4) ws)
    (λ ns p. counted-bound 1 99 ws _
    (λ low high. LineBound.call (CallBound.set within.0 within.1 p.0 (omega (arith, low, p.1)) (omega (arith, high, p.1))) xb)))

-- `read` and `expect`
abbrev Wants : (ℕ → List Wanted → Line) → Type 0
Wants line = (a : ℕ) (ws : List Wanted) → 0xB0 ≤ a → a + length ws ≤ 256 → 1 ≤ length ws → Fours ws → LineBound (line a ws)

wanted-bound : (line : ℕ → List Wanted → Line) → Wants line → (ws : List Text) → LineBound (wanted_line line ws)
unfolding wanted_line
wanted-bound line f all =
    addressed-bound 0xB0 0xFF _ all
    (λ a ws within. with_bound _ (each wanted (take (256 - a) ws)) _
    (each_holds (λ p. length p ≡ 4) Fours Fours.none (λ w others p q. Fours.more p q) wanted four-digits (take (256 - a) ws))
    (λ ps p. counted-bound 1 (256 - a) ws _
    (λ low high. let long : length ps ≡ length ws = p.1 ∙ rw (length-take (256 - a) ws) (omega (arith, high)) in
    f a ps within.0 (omega (arith, within.1, high, long)) (omega (arith, low, long)) p.0)))

parts-bound : (x : Expected) (parts : List (List ℕ)) → ExpectedBound x → Each (Below 4294967296) parts → LineBound (flight_parts x parts)
unfolding flight_parts
parts-bound x [] xb h = LineBound.bad
parts-bound x (up ∷ []) xb h = LineBound.bad
parts-bound x (up ∷ down ∷ []) xb (Each.first p (Each.first q Each.none)) =
    counted-bound 0 16 up _ (λ low u. counted-bound 0 16 down _ (λ low d. LineBound.call (CallBound.flight u d p q) xb))
parts-bound x (up ∷ down ∷ more ∷ others) xb h = LineBound.bad

words-below : (ws : List Text) → Holds (λ ns. Below 4294967296 ns × (length ns ≡ length ws)) (each (hex 1 8) ws)
words-below ws = each_below 4294967296 (hex 1 8) (hex-below 1 8) ws

flight-bound : (ws : List Text) (x : Expected) → ExpectedBound x → LineBound (flight_line ws x)
unfolding flight_line
flight-bound ws x xb =
    with_bound _ (each (each (hex 1 8)) (parted ws)) _
    (each_holds (Below 4294967296) (Each (Below 4294967296)) Each.none (λ w others p q. Each.first p q) (each (hex 1 8))
    (λ part. weaker (each (hex 1 8) part) (λ ns h. h.0) (words-below part))
    (parted ws))
    (λ parts p. parts-bound x parts xb p.0)

temperature-bound : (ws : List Text) (x : Expected) → ExpectedBound x → LineBound (temperature_line ws x)
unfolding temperature_line
temperature-bound ws x xb =
    with_bound _ (each (hex 1 8) ws) _ (words-below ws)
    (λ ns p. counted-bound 0 16 ws _ (λ low high. LineBound.call (CallBound.temperature (omega (arith, high, p.1)) p.0) xb))

probe-bound : (ws : List Text) (x : Expected) → length ws ≤ 500 → ExpectedBound x → LineBound (probe_line ws x)
unfolding probe_line
probe-bound [] x few xb = LineBound.bad
probe-bound (w ∷ ws) x few xb =
    with_bound _ (each count (w ∷ ws)) _ (each_below 4294967296 count count-below (w ∷ ws))
    (λ ns p. LineBound.keep (KeepBound.probe (omega (arith, p.1)) (omega (arith, few, p.1)) p.0) xb)

degrees-bound : (ws : List Text) (x : Expected) → ExpectedBound x → LineBound (degrees_line ws x)
unfolding degrees_line
degrees-bound ws x xb =
    with_bound _ (each (hex 1 8) (take 2 ws)) _ (words-below (take 2 ws))
    (λ ns p. counted-bound 2 2 ws _
    (λ low high. LineBound.call (CallBound.degrees (below_at _ ns 0 (omega arith) p.0) (below_at _ ns 1 (omega arith) p.0)) xb))

record-bound : (ws : List Text) (x : Expected) → length ws ≤ 500 → ExpectedBound x → LineBound (record_line ws x)
unfolding record_line
record-bound ws x few xb =
    with_bound _ (each quanta ws) _
    (each_holds (λ z. nat_abs z ≤ 2147483648) Quanta Quanta.none (λ d others p q. Quanta.more p q) quanta quanta-small ws)
    (λ ds p. LineBound.keep (KeepBound.differences (omega (arith, few, p.1)) p.0) xb)

listing-bound : (ws : List Text) (x : Expected) → ExpectedBound x → LineBound (listing_line ws x)
unfolding listing_line
listing-bound [] x xb = LineBound.bad
listing-bound (w ∷ ws) x xb =
    by-test (is "old" w)
    (λ e. rw e (one-bound _ (hex 1 8) _ ws (hex-below 1 8) (λ c h. LineBound.call (CallBound.listing h) xb)))
    (λ e. rw e (one-bound _ (hex 1 8) _ (w ∷ ws) (hex-below 1 8) (λ c h. LineBound.call (CallBound.listing h) xb)))

-- what a row of the table reads
abbrev Bounded : String × (List Text → Expected → Line) → Type 0
Bounded row = (ws : List Text) (x : Expected) → length ws ≤ 500 → ExpectedBound x → LineBound (row.1 ws x)

-- a row of one number
number_bound :
    (call : ℕ → Call) → ((n : ℕ) → n < 4294967296 → CallBound (call n)) → (ws : List Text) (x : Expected) → ExpectedBound x →
    LineBound (one count (λ n. Line.call (call n) x) ws)
number_bound call f ws x xb = one-bound _ count _ ws count-below (λ n h. LineBound.call (f n h) xb)

table-bound : Each Bounded table
unfolding table
table-bound =
    Each.first (λ ws x few xb. bus-bound ws x xb)
    (Each.first (λ ws x few xb. set-bound ws x xb)
    (Each.first (λ ws x few xb. number_bound Call.tick (λ n h. CallBound.tick h) ws x xb)
    (Each.first (λ ws x few xb. number_bound Call.at (λ n h. CallBound.at h) ws x xb)
    (Each.first (λ ws x few xb. flight-bound ws x xb)
    (Each.first (λ ws x few xb. temperature-bound ws x xb)
    (Each.first (λ ws x few xb. alone-bound _ ws (LineBound.ask xb))
    (Each.first (λ ws x few xb. alone-bound _ ws (LineBound.ask xb))
    (Each.first (λ ws x few xb. alone-bound _ ws (LineBound.ask xb))
    (Each.first (λ ws x few xb. number_bound Call.stretch (λ n h. CallBound.stretch h) ws x xb)
    (Each.first (λ ws x few xb. alone-bound _ ws (LineBound.call CallBound.frames xb))
    (Each.first probe-bound
    (Each.first (λ ws x few xb. degrees-bound ws x xb)
    (Each.first record-bound
    (Each.first (λ ws x few xb. listing-bound ws x xb)
    (Each.first (λ ws x few xb. number_bound Call.quietest (λ n h. CallBound.quietest h) ws x xb)
    Each.none)))))))))))))))

by-table :
    (rows : List (String × (List Text → Expected → Line))) → Each Bounded rows → (w : Text) (ws : List Text) (x : Expected) →
    length ws ≤ 500 → ExpectedBound x → LineBound (read_by rows w ws x)
unfolding read_by
by-table [] Each.none w ws x few xb = LineBound.bad
by-table (row ∷ rows) (Each.first h hs) w ws x few xb =
    by-test (is row.0 w) (λ e. rw e (h ws x few xb)) (λ e. rw e (by-table rows hs w ws x few xb))

-- ---- a whole line

worded-bound : (w : Text) (ws : List Text) → Within 1001 ws → LineBound (worded w ws)
unfolding worded
worded-bound w ws h =
    by-test (is "show" w) (λ e. rw e (alone-bound Line.show ws LineBound.show))
    (λ a. by-test (is "expect" w) (λ e. rw (a, e) (wanted-bound Line.expect (λ a ps l h s f. LineBound.expect l h s f) ws))
    (λ b. by-test (is "read" w) (λ e. rw (a, b, e) (wanted-bound Line.read (λ a ps l h s f. LineBound.read l h s f) ws))
    (λ c. rw (a, b, c)
    (by-table table table-bound w (before_mark ws) (behind_mark ws) (omega (arith, h.many, before-mark ws)) (after-mark ws h)))))

item-bound : (ws : List Text) → Within 1001 ws → LineBound (item_line ws)
unfolding item_line
item-bound [] h = LineBound.bad
item-bound (w ∷ ws) h = LineBound.item (together (w ∷ ws) h)

words-bound : (ws : List Text) → Within 1001 ws → LineBound (words_line ws)
unfolding words_line
words-bound [] h = LineBound.silent
words-bound (w ∷ ws) h =
    let others = after_first w ws h in
    let (bytes, many) = uncommented ws in
    by-test (is "#" (take 1 w)) (λ e. rw e LineBound.silent)
    (λ a. by-test (is "item" w) (λ e. rw (a, e) (item-bound ws others))
    (λ b. rw (a, b)
    (worded-bound w (without_comment ws)
    (record { bytes = omega (arith, others.bytes, bytes); many = omega (arith, others.many, many) }))))

pub line-bound : (t : Text) → LineBound (line_of t)
unfolding line_of words
line-bound t =
    by-ltb 1000 (length (without_return t)) (λ h e. rw e LineBound.bad)
    (λ h e. rw e (words-bound _ (more_within (omega arith) (words-within [] (without_return t)))))
