-- The numbers of a call are bounded. Assumes nothing.
use Prim.Native.Nat.{ℕ, ◌-◌, ◌≤◌}
use mathlib.Core.Path.{◌≡◌, refl, ap}
use mathlib.Core.Bool.{Bool, true, false, cond}
use mathlib.Core.List.{List, [], ◌∷◌}
use lib.Dec.{ltb, eqb}
use lib.ListN.{get_or, take, drop}
use borrow.Author.Tests.{ltb-false}
use Rattle.numeral.specs.Ascii.{ascii}
use Rattle.numeral.specs.Read.{read_hex, read_decimal}
use Rattle.numeral.proofs.DigitLaws.{decimal-at-most}
use Rattle.line.specs.declared.Content.{Content}
use Rattle.line.specs.declared.Content.TheVariants.{Bus, BusOut}
use Rattle.line.specs.declared.Counted.{Counted}
use Rattle.line.specs.declared.Keyword.{Keyword}
use Rattle.line.specs.Mark.{takes_mark, call_words}
use Rattle.line.specs.declared.Tally.{Tally}
use Rattle.line.specs.declared.Tally.TheVariants.{Wrong, All}
use Rattle.line.specs.Words.{words, same_bytes}
use Rattle.line.specs.Numbers.{tallied}
use Rattle.line.specs.Line.{Reading, reading, Bounded, bytes_call, bytes_reading, byte_form, is_out, out_reading, bus_reading, item_call, alone, numbered, decimal_with, decimal_call, flight_call, flight_reading, temperature_call, temperature_reading, expect_call, expect_words, expect_from, expect_reading, set_call, set_words, set_from, set_reading, probe_call, probe_reading, degrees_call, degrees_reading, record_call, record_reading, hex_with, hex_call, listing_call, later_reading, keyword_of, keyword_reading, words_reading, content_length, line_reading}
use Rattle.std.specs.Prelude.{Option, Some, None}

cond_cases : {A : Type 0} (P : A → Type 0) (t : Bool) {x y : A} → (t ≡ true → P x) → (t ≡ false → P y) → P (cond t x y)
cond_cases P true one other = one refl
cond_cases P false one other = other refl

abbrev Within : Reading → Type 0
Within a = Bounded a.content

bytes-bounded : (content : ℕ → Content) → ((n : ℕ) → n ≤ 200 → Bounded (content n)) → (t : Tally) → Bounded (bytes_call content t)
unfolding bytes_call
bytes-bounded content h Wrong = tt
bytes-bounded content h (All n k u) = cond_cases Bounded (ltb 200 n) (λ _. tt) (λ e. h n (ltb-false 200 n e))

out-bounded : (r : Option ℕ) → ((b : ℕ) → r ≡ Some b → b ≤ 200) → (l : List ℕ) (ws : List (List ℕ)) → Within (out_reading r l ws)
unfolding out_reading bytes_reading
out-bounded None h l ws = tt
out-bounded (Some b) h l ws = bytes-bounded (BusOut b) (λ n most. (h b refl, most)) (tallied byte_form 0 0 0 l ws).tally

bus-bounded : (l : List ℕ) (ws : List (List ℕ)) → Within (bus_reading l ws)
unfolding bus_reading bytes_reading
bus-bounded l [] = bytes-bounded Bus (λ n most. most) _
bus-bounded l (w ∷ ws) =
    cond_cases Within (is_out w) (λ _. out-bounded (read_decimal 200 (drop 4 w)) (λ b e. decimal-at-most 200 (drop 4 w) b e) l ws)
    (λ _. bytes-bounded Bus (λ n most. most) _)

flight-bounded : (t : Tally) → Bounded (flight_call t)
unfolding flight_call
flight-bounded Wrong = tt
flight-bounded (All n k u) =
    cond_cases Bounded (eqb k 1)
    (λ _. cond_cases Bounded (ltb 16 u) (λ _. tt) (λ e. cond_cases Bounded (ltb 16 (n - u)) (λ _. tt) (λ e'. (ltb-false 16 u e, ltb-false 16 (n - u) e'))))
    (λ _. tt)

temperature-bounded : (t : Tally) → Bounded (temperature_call t)
unfolding temperature_call
temperature-bounded Wrong = tt
temperature-bounded (All n k u) = cond_cases Bounded (ltb 16 n) (λ _. tt) (λ e. ltb-false 16 n e)

expect-bounded : (a : ℕ) → 176 ≤ a → a ≤ 255 → (t : Tally) → Bounded (expect_call a t)
unfolding expect_call
expect-bounded a low high Wrong = tt
expect-bounded a low high (All n k u) =
    cond_cases Bounded (ltb n 1) (λ _. tt)
    (λ e. cond_cases Bounded (ltb (256 - a) n) (λ _. tt) (λ e'. (low, high, ltb-false n 1 e, ltb-false (256 - a) n e')))

expect-from-bounded : (r : Option ℕ) (l : List ℕ) (ws : List (List ℕ)) → Within (expect_from r l ws)
unfolding expect_from expect_words
expect-from-bounded None l ws = tt
expect-from-bounded (Some a) l ws =
    cond_cases Within (ltb a 176) (λ _. tt)
    (λ e. cond_cases Within (ltb 255 a) (λ _. tt) (λ e'. expect-bounded a (ltb-false a 176 e) (ltb-false 255 a e') _))

expect-reading-bounded : (l : List ℕ) (ws : List (List ℕ)) → Within (expect_reading l ws)
unfolding expect_reading
expect-reading-bounded l [] = tt
expect-reading-bounded l (w ∷ ws) = expect-from-bounded (read_hex 2 2 w) l ws

alone-bounded : (c : Content) → Bounded c → (ws : List (List ℕ)) → Bounded (alone c ws)
unfolding alone
alone-bounded c h [] = h
alone-bounded c h (w ∷ ws) = tt

item-bounded : (ws : List (List ℕ)) → Bounded (item_call ws)
unfolding item_call
item-bounded [] = tt
item-bounded (w ∷ ws) = tt

numbered-bounded : (k : Counted) (n : ℕ) → Bounded (numbered k n)
unfolding numbered
numbered-bounded Counted.Tick n = tt
numbered-bounded Counted.At n = tt
numbered-bounded Counted.Stretch n = tt
numbered-bounded Counted.Quietest n = tt

decimal-with-bounded : (k : Counted) (r : Option ℕ) (ws : List (List ℕ)) → Bounded (decimal_with k r ws)
unfolding decimal_with
decimal-with-bounded k None ws = tt
decimal-with-bounded k (Some n) ws = alone-bounded (numbered k n) (numbered-bounded k n) ws

decimal-bounded : (k : Counted) (ws : List (List ℕ)) → Bounded (decimal_call k ws)
unfolding decimal_call
decimal-bounded k [] = tt
decimal-bounded k (w ∷ ws) = decimal-with-bounded k _ ws

set-bounded : (a : ℕ) → 48 ≤ a → a ≤ 67 → (t : Tally) → Bounded (set_call a t)
unfolding set_call
set-bounded a low high Wrong = tt
set-bounded a low high (All n k u) =
    cond_cases Bounded (ltb n 1) (λ _. tt)
    (λ e. cond_cases Bounded (ltb 99 n) (λ _. tt) (λ e'. (low, high, ltb-false n 1 e, ltb-false 99 n e')))

set-from-bounded : (r : Option ℕ) (l : List ℕ) (ws : List (List ℕ)) → Within (set_from r l ws)
unfolding set_from set_words
set-from-bounded None l ws = tt
set-from-bounded (Some a) l ws =
    cond_cases Within (ltb a 48) (λ _. tt)
    (λ e. cond_cases Within (ltb 67 a) (λ _. tt) (λ e'. set-bounded a (ltb-false a 48 e) (ltb-false 67 a e') _))

set-reading-bounded : (l : List ℕ) (ws : List (List ℕ)) → Within (set_reading l ws)
unfolding set_reading
set-reading-bounded l [] = tt
set-reading-bounded l (w ∷ ws) = set-from-bounded (read_hex 2 2 w) l ws

probe-bounded : (t : Tally) → Bounded (probe_call t)
unfolding probe_call
probe-bounded Wrong = tt
probe-bounded (All n k u) = cond_cases Bounded (ltb n 1) (λ _. tt) (λ e. ltb-false n 1 e)

degrees-bounded : (t : Tally) → Bounded (degrees_call t)
unfolding degrees_call
degrees-bounded Wrong = tt
degrees-bounded (All n k u) = cond_cases Bounded (eqb n 2) (λ _. tt) (λ _. tt)

record-bounded : (t : Tally) → Bounded (record_call t)
unfolding record_call
record-bounded Wrong = tt
record-bounded (All n k u) = tt

hex-with-bounded : (old : Bool) (r : Option ℕ) (ws : List (List ℕ)) → Bounded (hex_with old r ws)
unfolding hex_with
hex-with-bounded old None ws = tt
hex-with-bounded old (Some n) ws = alone-bounded (Content.Listing old n) tt ws

hex-bounded : (old : Bool) (ws : List (List ℕ)) → Bounded (hex_call old ws)
unfolding hex_call
hex-bounded old [] = tt
hex-bounded old (w ∷ ws) = hex-with-bounded old _ ws

listing-bounded : (ws : List (List ℕ)) → Bounded (listing_call ws)
unfolding listing_call
listing-bounded [] = tt
listing-bounded (w ∷ ws) =
    cond_cases Bounded (same_bytes w (ascii "old")) (λ _. hex-bounded true ws) (λ _. hex-bounded false (w ∷ ws))

later-bounded : (k : Keyword) (l : List ℕ) (ws : List (List ℕ)) → Within (later_reading k l ws)
unfolding later_reading probe_reading degrees_reading record_reading
later-bounded Keyword.Set l ws = set-reading-bounded l ws
later-bounded Keyword.At l ws = decimal-bounded Counted.At ws
later-bounded Keyword.Stretch l ws = decimal-bounded Counted.Stretch ws
later-bounded Keyword.Frames l ws = alone-bounded Content.Frames tt ws
later-bounded Keyword.Probe l ws = probe-bounded _
later-bounded Keyword.Degrees l ws = degrees-bounded _
later-bounded Keyword.Record l ws = record-bounded _
later-bounded Keyword.Listing l ws = listing-bounded ws
later-bounded Keyword.Quietest l ws = decimal-bounded Counted.Quietest ws
later-bounded Keyword.Item l ws = tt
later-bounded Keyword.Bus l ws = tt
later-bounded Keyword.Tick l ws = tt
later-bounded Keyword.Flight l ws = tt
later-bounded Keyword.Temperature l ws = tt
later-bounded Keyword.Int l ws = tt
later-bounded Keyword.Awaited l ws = tt
later-bounded Keyword.Regs l ws = tt
later-bounded Keyword.Expect l ws = tt
later-bounded Keyword.Show l ws = tt
later-bounded Keyword.Unknown l ws = tt

keyword-bounded : (k : Keyword) (l : List ℕ) (ws : List (List ℕ)) → Within (keyword_reading k l ws)
unfolding keyword_reading flight_reading temperature_reading
keyword-bounded Keyword.Item l ws = item-bounded ws
keyword-bounded Keyword.Bus l ws = bus-bounded l ws
keyword-bounded Keyword.Tick l ws = decimal-bounded Counted.Tick ws
keyword-bounded Keyword.Flight l ws = flight-bounded _
keyword-bounded Keyword.Temperature l ws = temperature-bounded _
keyword-bounded Keyword.Int l ws = alone-bounded Content.Int tt ws
keyword-bounded Keyword.Awaited l ws = alone-bounded Content.Awaited tt ws
keyword-bounded Keyword.Regs l ws = alone-bounded Content.Regs tt ws
keyword-bounded Keyword.Expect l ws = expect-reading-bounded l ws
keyword-bounded Keyword.Show l ws = alone-bounded Content.Show tt ws
keyword-bounded Keyword.Set l ws = later-bounded Keyword.Set l ws
keyword-bounded Keyword.At l ws = later-bounded Keyword.At l ws
keyword-bounded Keyword.Stretch l ws = later-bounded Keyword.Stretch l ws
keyword-bounded Keyword.Frames l ws = later-bounded Keyword.Frames l ws
keyword-bounded Keyword.Probe l ws = later-bounded Keyword.Probe l ws
keyword-bounded Keyword.Degrees l ws = later-bounded Keyword.Degrees l ws
keyword-bounded Keyword.Record l ws = later-bounded Keyword.Record l ws
keyword-bounded Keyword.Listing l ws = later-bounded Keyword.Listing l ws
keyword-bounded Keyword.Quietest l ws = later-bounded Keyword.Quietest l ws
keyword-bounded Keyword.Unknown l ws = later-bounded Keyword.Unknown l ws

words-bounded : (l : List ℕ) (ws : List (List ℕ)) → Within (words_reading l ws)
unfolding words_reading
words-bounded l [] = tt
words-bounded l (w ∷ ws) = cond_cases Within (eqb (get_or w 0 0) 35) (λ _. tt) (λ _. keyword-bounded (keyword_of w) l (call_words (takes_mark (keyword_of w)) ws))

pub line-bounded : (l cs : List ℕ) → Within (line_reading l cs)
unfolding line_reading
line-bounded l cs = cond_cases Within (ltb 1000 (content_length cs)) (λ _. tt) (λ _. words-bounded l (words (take (content_length cs) cs)))

pub with-bounds : {r : Content} {l' : List ℕ} {X : Type 0} (l cs : List ℕ) → reading r l' ≡ line_reading l cs → X → (reading r l' ≡ line_reading l cs) × (X × Bounded r)
with-bounds l cs e x = (e, (x, (rw (ap (λ (a : Reading). a.content) e) (line-bounded l cs))))
