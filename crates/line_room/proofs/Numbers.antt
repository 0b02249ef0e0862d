-- The buffer of a line's numbers stays as long as it was, and its words are of 32 bits. Assumes nothing.
use Prim.Native.Nat.{ℕ, ◌+◌, ◌<◌}
use mathlib.Core.Path.{◌≡◌, refl, ◌∙◌}
use mathlib.Core.Bool.{Bool, true, false, cond}
use mathlib.Core.List.{List, [], ◌∷◌}
use native.Mathlib.Omega.{arith}
use lib.Dec.{ltb, leb, eqb}
use lib.ListN.{length, get_or, set, take, drop, length-set}
use lib.Seq.{get_or-set_same, get_or-set_other}
use borrow.Author.Tests.{leb-true}
use Rattle.unit.proofs.Cases.{by_eqb}
use Rattle.numeral.specs.Digit.{are_digits, value_of}
use Rattle.numeral.specs.Read.{value_in, read_hex, read_decimal, negated, read_signed}
use Rattle.line.specs.declared.Form.{Form}
use Rattle.line.specs.declared.ListWord.{ListWord}
use Rattle.line.specs.declared.ListWord.TheVariants.{Slash, Past, Word, Wrong}
use Rattle.line.specs.declared.Content.{Content}
use Rattle.line.specs.declared.Content.TheVariants.{Bus, BusOut}
use Rattle.line.specs.declared.Keyword.{Keyword}
use Rattle.line.specs.Mark.{takes_mark, call_words}
use Rattle.line.specs.Words.{words}
use Rattle.line.specs.Numbers.{is_slash, of_number, list_word, Outcome, on_list_word, tallied}
use Rattle.line.specs.Decimals.{decimal_of, on_number, listed}
use Rattle.line.specs.Line.{Reading, bytes_reading, byte_form, is_out, out_reading, bus_reading, word_form, flight_reading, temperature_reading, expect_form, expect_words, expect_from, expect_reading, set_form, set_words, set_from, set_reading, probe_reading, pair_form, degrees_reading, record_reading, later_reading, keyword_of, keyword_reading, words_reading, content_length, line_reading}
use Rattle.line_room.specs.Form.{NumbersFit}
use Rattle.std.specs.Prelude.{Option, Some, None}

cond-is : {A : Type 0} (P : A → Type 0) (t : Bool) {x y : A} → P x → P y → P (cond t x y)
cond-is P true one other = one
cond-is P false one other = other

-- ---- one number

abbrev Below : Option ℕ → Type 0
Below (Some v) = v < 4294967296
Below None = Unit

value-below : (b limit : ℕ) (cs : List ℕ) → limit < 4294967296 → Below (value_in b limit cs)
unfolding value_in
value-below b limit cs small = go (are_digits b cs) (leb (value_of b 0 cs) limit) refl
  where
    go : (s t : Bool) → leb (value_of b 0 cs) limit ≡ t → Below (cond s (cond t (Some (value_of b 0 cs)) None) None)
    go true true e = omega (arith, leb-true (value_of b 0 cs) limit e)
    go true false e = tt
    go false t e = tt

hex-below : (least most : ℕ) (cs : List ℕ) → Below (read_hex least most cs)
unfolding read_hex
hex-below least most cs =
    cond-is Below (ltb (length cs) 1) tt
    (cond-is Below (ltb (length cs) least) tt
    (cond-is Below (ltb most (length cs)) tt (cond-is Below (ltb 8 (length cs)) tt (value-below 16 4294967295 cs (omega arith)))))

decimal-below : (limit : ℕ) (cs : List ℕ) → limit < 4294967296 → Below (read_decimal limit cs)
unfolding read_decimal
decimal-below limit cs small = cond-is Below (ltb (length cs) 1) tt (cond-is Below (ltb 10 (length cs)) tt (value-below 10 limit cs small))

negated-below : (r : Option ℕ) → Below (negated r)
unfolding negated
negated-below (Some n) = omega arith
negated-below None = tt

signed_below : (cs : List ℕ) → Below (read_signed cs)
unfolding read_signed
signed_below cs =
    cond-is Below (ltb (length cs) 1) tt
    (cond-is Below (eqb (get_or cs 0 0) 45) (negated-below (read_decimal 2147483648 (drop 1 cs))) (decimal-below 2147483647 cs (omega arith)))

-- ---- stored one after the other

set-fit : (l : List ℕ) (n v : ℕ) → NumbersFit l → v < 4294967296 → NumbersFit (set l n v)
set-fit l n v f small = record { few = length-set l n v ∙ f.few; fit = fits }
  where
    fits : (k : ℕ) → k < length (set l n v) → get_or (set l n v) k 0 < 4294967296
    fits k h =
        let inside : k < length l = omega (arith, length-set l n v) in
        by_eqb k n (λ e _. let there : n < length l = omega arith in rw (e, get_or-set_same l n v 0 there) small)
        (λ e _. rw (get_or-set_other l n k v 0 e) (f.fit k inside))

abbrev Stored : Outcome → Type 0
Stored o = NumbersFit o.numbers

abbrev WordBelow : ListWord → Type 0
WordBelow Slash = Unit
WordBelow Past = Unit
WordBelow (Word v) = v < 4294967296
WordBelow Wrong = Unit

of-below : (r : Option ℕ) → Below r → WordBelow (of_number r)
of-below (Some v) h = h
of-below None h = tt

word_below : (f : Form) (n : ℕ) (w : List ℕ) → WordBelow (list_word f n w)
unfolding list_word
word_below f n w =
    cond-is WordBelow (is_slash f.slash w) tt
    (cond-is WordBelow (leb f.looked n) tt (of-below (read_hex f.least f.most w) (hex-below f.least f.most w)))

on_word : (x : ListWord) (a b : Outcome) (g : ℕ → Outcome) (z : Outcome) → WordBelow x → Stored a → Stored b
    → ((v : ℕ) → v < 4294967296 → Stored (g v)) → Stored z → Stored (on_list_word x a b g z)
on_word Slash a b g z h one two three four = one
on_word Past a b g z h one two three four = two
on_word (Word v) a b g z h one two three four = three v h
on_word Wrong a b g z h one two three four = four

tallied-fit : (f : Form) (n k u : ℕ) (l : List ℕ) (ws : List (List ℕ)) → NumbersFit l → Stored (tallied f n k u l ws)
unfolding tallied
tallied-fit f n k u l [] h = h
tallied-fit f n k u l (w ∷ ws) h =
    on_word (list_word f n w) (tallied f n (k + 1) (cond (eqb k 0) n u) l ws) (tallied f (n + 1) k u l ws)
    (λ v. tallied f (n + 1) k u (set l n v) ws) _ (word_below f n w) (tallied-fit f n (k + 1) (cond (eqb k 0) n u) l ws h)
    (tallied-fit f (n + 1) k u l ws h) (λ v small. tallied-fit f (n + 1) k u (set l n v) ws (set-fit l n v h small))
    h

on-decimal : (r : Option ℕ) (g : ℕ → Outcome) (z : Outcome) → Below r → ((v : ℕ) → v < 4294967296 → Stored (g v)) → Stored z → Stored (on_number r g z)
on-decimal (Some v) g z h one other = one v h
on-decimal None g z h one other = other

decimal-of-below : (signed : Bool) (w : List ℕ) → Below (decimal_of signed w)
unfolding decimal_of
decimal-of-below signed w = cond-is Below signed (signed_below w) (decimal-below 4294967295 w (omega arith))

listed-fit : (signed : Bool) (n : ℕ) (l : List ℕ) (ws : List (List ℕ)) → NumbersFit l → Stored (listed signed n l ws)
unfolding listed
listed-fit signed n l [] h = h
listed-fit signed n l (w ∷ ws) h =
    on-decimal (decimal_of signed w) (λ v. listed signed (n + 1) (set l n v) ws) _ (decimal-of-below signed w)
    (λ v small. listed-fit signed (n + 1) (set l n v) ws (set-fit l n v h small))
    h

-- ---- a line of each sort

abbrev Kept : Reading → Type 0
Kept a = NumbersFit a.numbers

module _ (l : List ℕ) (h : NumbersFit l) where
  bytes_fit : (content : ℕ → Content) (ws : List (List ℕ)) → Kept (bytes_reading content l ws)
  unfolding bytes_reading
  bytes_fit content ws = tallied-fit byte_form 0 0 0 l ws h

  out-fit : (r : Option ℕ) (ws : List (List ℕ)) → Kept (out_reading r l ws)
  unfolding out_reading
  out-fit None ws = h
  out-fit (Some b) ws = bytes_fit (BusOut b) ws

  bus-fit : (ws : List (List ℕ)) → Kept (bus_reading l ws)
  unfolding bus_reading
  bus-fit [] = bytes_fit Bus []
  bus-fit (w ∷ ws) = cond-is Kept (is_out w) (out-fit (read_decimal 200 (drop 4 w)) ws) (bytes_fit Bus (w ∷ ws))

  expect-from : (r : Option ℕ) (ws : List (List ℕ)) → Kept (expect_from r l ws)
  unfolding expect_from expect_words
  expect-from None ws = h
  expect-from (Some a) ws = cond-is Kept (ltb a 176) h (cond-is Kept (ltb 255 a) h (tallied-fit (expect_form a) 0 0 0 l ws h))

  expect-fit : (ws : List (List ℕ)) → Kept (expect_reading l ws)
  unfolding expect_reading
  expect-fit [] = h
  expect-fit (w ∷ ws) = expect-from (read_hex 2 2 w) ws

  set-from : (r : Option ℕ) (ws : List (List ℕ)) → Kept (set_from r l ws)
  unfolding set_from set_words
  set-from None ws = h
  set-from (Some a) ws = cond-is Kept (ltb a 48) h (cond-is Kept (ltb 67 a) h (tallied-fit set_form 0 0 0 l ws h))

  set_line : (ws : List (List ℕ)) → Kept (set_reading l ws)
  unfolding set_reading
  set_line [] = h
  set_line (w ∷ ws) = set-from (read_hex 2 2 w) ws

  later-fit : (k : Keyword) (ws : List (List ℕ)) → Kept (later_reading k l ws)
  unfolding later_reading probe_reading degrees_reading record_reading
  later-fit Keyword.Set ws = set_line ws
  later-fit Keyword.At ws = h
  later-fit Keyword.Stretch ws = h
  later-fit Keyword.Frames ws = h
  later-fit Keyword.Probe ws = listed-fit false 0 l ws h
  later-fit Keyword.Degrees ws = tallied-fit pair_form 0 0 0 l ws h
  later-fit Keyword.Record ws = listed-fit true 0 l ws h
  later-fit Keyword.Listing ws = h
  later-fit Keyword.Quietest ws = h
  later-fit Keyword.Item ws = h
  later-fit Keyword.Bus ws = h
  later-fit Keyword.Tick ws = h
  later-fit Keyword.Flight ws = h
  later-fit Keyword.Temperature ws = h
  later-fit Keyword.Int ws = h
  later-fit Keyword.Awaited ws = h
  later-fit Keyword.Regs ws = h
  later-fit Keyword.Expect ws = h
  later-fit Keyword.Show ws = h
  later-fit Keyword.Unknown ws = h

  keyword-fit : (k : Keyword) (ws : List (List ℕ)) → Kept (keyword_reading k l ws)
  unfolding keyword_reading flight_reading temperature_reading
  keyword-fit Keyword.Item ws = h
  keyword-fit Keyword.Bus ws = bus-fit ws
  keyword-fit Keyword.Tick ws = h
  keyword-fit Keyword.Flight ws = tallied-fit (word_form true) 0 0 0 l ws h
  keyword-fit Keyword.Temperature ws = tallied-fit (word_form false) 0 0 0 l ws h
  keyword-fit Keyword.Int ws = h
  keyword-fit Keyword.Awaited ws = h
  keyword-fit Keyword.Regs ws = h
  keyword-fit Keyword.Expect ws = expect-fit ws
  keyword-fit Keyword.Show ws = h
  keyword-fit Keyword.Set ws = later-fit Keyword.Set ws
  keyword-fit Keyword.At ws = later-fit Keyword.At ws
  keyword-fit Keyword.Stretch ws = later-fit Keyword.Stretch ws
  keyword-fit Keyword.Frames ws = later-fit Keyword.Frames ws
  keyword-fit Keyword.Probe ws = later-fit Keyword.Probe ws
  keyword-fit Keyword.Degrees ws = later-fit Keyword.Degrees ws
  keyword-fit Keyword.Record ws = later-fit Keyword.Record ws
  keyword-fit Keyword.Listing ws = later-fit Keyword.Listing ws
  keyword-fit Keyword.Quietest ws = later-fit Keyword.Quietest ws
  keyword-fit Keyword.Unknown ws = later-fit Keyword.Unknown ws

  words-fit : (ws : List (List ℕ)) → Kept (words_reading l ws)
  unfolding words_reading
  words-fit [] = h
  words-fit (w ∷ ws) = cond-is Kept (eqb (get_or w 0 0) 35) h (keyword-fit (keyword_of w) (call_words (takes_mark (keyword_of w)) ws))

-- The numbers of any line fit the buffer's places, whatever its bytes are.
pub numbers-kept : (numbers text : List ℕ) → NumbersFit numbers → NumbersFit (line_reading numbers text).numbers
unfolding line_reading
numbers-kept numbers text h =
    cond-is Kept (ltb 1000 (content_length text)) h (words-fit numbers h (words (take (content_length text) text)))
