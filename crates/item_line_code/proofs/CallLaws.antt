-- The lines of the table, each by what is read of its words. Assumes nothing.
use Rattle.std.specs.Prelude.{Result, Ok, Err, Some, None}
use Prim.Native.Nat.{ℕ, zero, suc, ◌-◌, ◌≤◌, ◌<◌}
use mathlib.Core.Path.{◌≡◌, refl, sym, ◌∙◌}
use mathlib.Core.Bool.{true, false}
use mathlib.Core.List.{List, [], ◌∷◌, map}
use native.Mathlib.Decide.{dec_le}
use native.Mathlib.Omega.{arith}
use lib.IntN.{ℤ}
use lib.ListN.{length, get_or, set, take, drop, length-take, length-drop, length-set, drop_of_length-le}
use lib.Seq.{get_or-set_same, get_or-set_other}
use Rattle.difference.specs.Difference.{signed_of}
use Rattle.numeral.specs.Read.{read_hex, read_decimal, read_signed}
use Rattle.listing.specs.declared.Width.TheVariants.{Two, Eight}
use Rattle.text.specs.declared.Span.{Span}
use Rattle.text.specs.Text.{Text, words, is}
use Rattle.text.specs.OwnPart.{part}
use Rattle.item_line.specs.declared.FaultRead.{FaultRead}
use Rattle.item_line.specs.Line.{Fault, Output, Call, Keep, Expected, Line}
use Rattle.item_line.specs.Reading.{Got, got, wrong, hex, decimal, quanta, onto, each, with, counted, one, size, bytes_line, bus_line, flight_parts, flight_line, probe_line, degrees_line, record_line, listing_line}
use Rattle.item_line.specs.OwnRead.{as_fault}
use Rattle.item_line_code.specs.declared.Tally.{Tally}
use Rattle.item_line_code.specs.OwnNumbers.{read_as, number_in, formed, word_form, flight_form, count_form, quanta_form, all, as_tally, Outcome, tallied}
use Rattle.item_line_code.specs.OwnLists.{flight_of}
use Rattle.item_line_code.specs.OwnParts.{Within}
use Rattle.item_line_code.specs.OwnReads.{number_line, count_line, address_line, WithinRest}
use Rattle.item_line_code.proofs.PartLaws.{drop-take}
use Rattle.item_line_code.proofs.ListLaws.{by_number, list-flight}
use Rattle.item_line_code.proofs.ReadLaws.{counted_none, counted-some, counted-fits, counted-few, counted-many}

-- ---- what was read, taken apart

module _ (text : Text) {L : Line} (r : Result ℕ FaultRead) (line : ℕ → Line) (e : number_line text line r ≡ L) where
  pub number-fault : {f : FaultRead} → r ≡ Err f → Line.bad (as_fault text f) ≡ L
  unfolding number_line
  number-fault h = rw h at e

  pub number-value : {n : ℕ} → r ≡ Ok n → line n ≡ L
  unfolding number_line
  number-value h = rw h at e

module _ (text : Text) (l : List ℕ) {L : Line} (r : Result ℕ FaultRead) (line : List ℕ → Line) (e : count_line text l line r ≡ L) where
  pub numbers-fault : {f : FaultRead} → r ≡ Err f → Line.bad (as_fault text f) ≡ L
  unfolding count_line
  numbers-fault h = rw h at e

  pub numbers-count : {n : ℕ} → r ≡ Ok n → line (take n l) ≡ L
  unfolding count_line
  numbers-count h = rw h at e

module _ (text : Text) {L : Line} (r : Result (ℕ × Span) FaultRead) (line : ℕ → List Text → Line) (e : address_line text line r ≡ L) where
  pub address-fault : {f : FaultRead} → r ≡ Err f → Line.bad (as_fault text f) ≡ L
  unfolding address_line
  address-fault h = rw h at e

  pub address-rest : {a : ℕ} {rest : Span} → r ≡ Ok (a, rest) → line a (words (part text rest)) ≡ L
  unfolding address_line
  address-rest h = rw h at e

pub rest-within : (text : Text) (r : Result (ℕ × Span) FaultRead) → WithinRest text r → {a : ℕ} {rest : Span} → r ≡ Ok (a, rest) → Within text rest
unfolding WithinRest
rest-within text r w h = rw h at w

-- ---- `bus`

module _ (x : Expected) {ws : List Text} where
  pub bus-none : ws ≡ [] → bytes_line Output.by_frame ws x ≡ bus_line ws x
  unfolding bus_line
  bus-none e = rw e

  module _ {w : Text} {rest : List Text} (e : ws ≡ w ∷ rest) where
    pub bus-plain : is "out=" (take 4 w) ≡ false → bytes_line Output.by_frame ws x ≡ bus_line ws x
    unfolding bus_line
    bus-plain t = rw (e, t)

    pub bus-wrong : is "out=" (take 4 w) ≡ true → read_decimal 200 (drop 4 w) ≡ None → Line.bad (Fault.bad_number w) ≡ bus_line ws x
    unfolding bus_line size decimal
    bus-wrong t b = rw (e, t, b)

    pub bus-out : is "out=" (take 4 w) ≡ true → {n : ℕ} → read_decimal 200 (drop 4 w) ≡ Some n → bytes_line (Output.out_of n) rest x ≡ bus_line ws x
    unfolding bus_line size decimal
    bus-out t b = rw (e, t, b)

-- ---- `flight`

module _ (x : Expected) (l : List ℕ) (long : length l ≡ 512) (n u : ℕ) where
  flight-slashes : (k : ℕ) → (k ≡ 1 → ⊥) → Line.bad Fault.wrong_count ≡ flight_of x (all n k u) l
  flight-slashes zero h = refl
  flight-slashes (suc zero) h = absurd (h refl)
  flight-slashes (suc (suc k)) h = refl

  flight-up-1 : 16 < u → Line.bad Fault.wrong_count ≡ flight_of x (all n 1 u) l
  unfolding flight_parts
  flight-up-1 h =
      let many : 16 < length (take u l) = rw (length-take, long) (omega arith) in
      counted-many 0 16 (take u l) _ many

  downs : take (n - u) (drop u l) ≡ drop u (take n l)
  downs = go (dec_le u n)
    where
      go : Dec (u ≤ n) → take (n - u) (drop u l) ≡ drop u (take n l)
      go (yes p) = sym (drop-take u n l p)
      go (no p) =
          let none : n - u ≡ 0 = omega arith in
          rw none (sym (drop_of_length-le (take n l) {i = u} (rw length-take (omega arith))))

  flight-down-1 : u ≤ 16 → 16 < n - u → Line.bad Fault.wrong_count ≡ flight_of x (all n 1 u) l
  unfolding flight_parts
  flight-down-1 h k =
      let few : length (take u l) ≤ 16 = rw length-take (omega arith) in
      let many : 16 < length (drop u (take n l)) = rw (length-drop, length-take, long) (omega arith) in
      counted-many 0 16 (drop u (take n l)) _ many ∙ counted-fits 0 16 (take u l) _ (omega arith) few

  flight-fits-1 : u ≤ 16 → n - u ≤ 16 → Line.call (Call.flight (take u l) (take (n - u) (drop u l))) x ≡ flight_of x (all n 1 u) l
  unfolding flight_parts
  flight-fits-1 h k =
      let up : length (take u l) ≤ 16 = rw length-take (omega arith) in
      let down : length (drop u (take n l)) ≤ 16 = rw (length-drop, length-take) (omega arith) in
      rw downs (counted-fits 0 16 (drop u (take n l)) _ (omega arith) down ∙ counted-fits 0 16 (take u l) _ (omega arith) up)

  flight-up : {k : ℕ} → k ≡ 1 → 16 < u → Line.bad Fault.wrong_count ≡ flight_of x (all n k u) l
  flight-up e h = rw e (flight-up-1 h)

  flight-down : {k : ℕ} → k ≡ 1 → u ≤ 16 → 16 < n - u → Line.bad Fault.wrong_count ≡ flight_of x (all n k u) l
  flight-down e h d = rw e (flight-down-1 h d)

  flight-fits : {k : ℕ} → k ≡ 1 → u ≤ 16 → n - u ≤ 16 → Line.call (Call.flight (take u l) (take (n - u) (drop u l))) x ≡ flight_of x (all n k u) l
  flight-fits e h d = rw e (flight-fits-1 h d)

module _ (x : Expected) (text : Text) (ws : List Text) (l : List ℕ) {l' : List ℕ} (room : length ws ≤ length l) (t : Tally)
    (e : ◌≡◌ {A = Outcome} (record { tally = as_tally text t; numbers = l' }) (tallied flight_form 0 0 0 l ws)) where
  flight-all : {n k u : ℕ} → t ≡ Tally.All n k u → flight_of x (all n k u) l' ≡ flight_line ws x
  unfolding as_tally flight_line formed number_in read_as hex
  flight-all h = rw h at (list-flight flight_form refl x ws l room e)

  pub flight-wrong : {w : Span} → t ≡ Tally.Wrong w → Line.bad (Fault.bad_number (part text w)) ≡ flight_line ws x
  unfolding as_tally flight_line formed number_in read_as hex
  flight-wrong h = rw h at (list-flight flight_form refl x ws l room e)

  module _ (long : length l' ≡ 512) {n k u : ℕ} (h : t ≡ Tally.All n k u) where
    pub parts-wrong : (k ≡ 1 → ⊥) → Line.bad Fault.wrong_count ≡ flight_line ws x
    parts-wrong other = flight-slashes x l' long n u k other ∙ flight-all h

    pub parts_up : k ≡ 1 → 16 < u → Line.bad Fault.wrong_count ≡ flight_line ws x
    parts_up one up = flight-up x l' long n u one up ∙ flight-all h

    pub parts-down : k ≡ 1 → u ≤ 16 → 16 < n - u → Line.bad Fault.wrong_count ≡ flight_line ws x
    parts-down one up down = flight-down x l' long n u one up down ∙ flight-all h

    pub parts-fit : k ≡ 1 → u ≤ 16 → n - u ≤ 16 → Line.call (Call.flight (take u l') (take (n - u) (drop u l'))) x ≡ flight_line ws x
    parts-fit one up down = flight-fits x l' long n u one up down ∙ flight-all h

-- ---- `probe` and `record`

with-counted : {A : Type 0} (g : Got (List ℕ)) (least most : ℕ) (ws : List A) (line : List ℕ → Line) → least ≤ length ws → length ws ≤ most
    → with g (λ ns. counted least most ws (line ns)) ≡ with g line
with-counted (got ns) least most ws line h k = sym (counted-fits least most ws (line ns) h k)
with-counted (wrong w) least most ws line h k = refl

pub probe-read : (x : Expected) (ws : List Text) → length ws ≤ 500
    → with (each (formed count_form) ws) (λ ns. counted 1 1000 ws (Line.keep (Keep.probe ns) x)) ≡ probe_line ws x
unfolding probe_line each formed number_in read_as decimal
probe-read x [] few = sym (counted-few {A = Text} 1 1000 [] (Line.keep (Keep.probe []) x) (omega arith))
probe-read x (w ∷ ws) few =
    with-counted (each (formed count_form) (w ∷ ws)) 1 1000 (w ∷ ws) (λ ns. Line.keep (Keep.probe ns) x) (omega arith) (omega arith)

abbrev signed : Got (List ℕ) → Got (List ℤ)
signed (got ns) = got (map signed_of ns)
signed (wrong w) = wrong w

quanta-each : (ws : List Text) → each quanta ws ≡ signed (each (formed quanta_form) ws)
unfolding each quanta formed number_in read_as
quanta-each [] = refl
quanta-each (w ∷ ws) =
    by_number (read_signed w) (λ v e. rw (e, quanta-each ws) (onto-signed v (each (formed quanta_form) ws))) (λ e. rw e)
  where
    onto-signed : (v : ℕ) (g : Got (List ℕ)) → onto (signed_of v) (signed g) ≡ signed (onto v g)
    onto-signed v (got ns) = refl
    onto-signed v (wrong w) = refl

pub record-read : (x : Expected) (ws : List Text) → length ws ≤ 500
    → with (each (formed quanta_form) ws) (λ ns. counted 0 1000 ws (Line.keep (Keep.differences (map signed_of ns)) x)) ≡ record_line ws x
unfolding record_line
record-read x ws few =
    with-counted (each (formed quanta_form) ws) 0 1000 ws (λ ns. Line.keep (Keep.differences (map signed_of ns)) x) (omega arith) (omega arith)
    ∙ rw (quanta-each ws) (apart (each (formed quanta_form) ws))
  where
    apart : (g : Got (List ℕ)) → with g (λ ns. Line.keep (Keep.differences (map signed_of ns)) x) ≡ with (signed g) (λ ds. Line.keep (Keep.differences ds) x)
    apart (got ns) = refl
    apart (wrong w) = refl

-- ---- `degrees` and `listing`

second : (x : Expected) (w : Text) (rest : List Text) {a : ℕ} → read_hex 1 8 w ≡ Some a
    → one (formed word_form) (λ b. Line.call (Call.degrees a b) x) rest ≡ degrees_line (w ∷ rest) x
unfolding one degrees_line each hex formed number_in read_as
second x w [] h = rw h (counted-few 2 2 (w ∷ []) _ (omega arith))
second x w (v ∷ []) {a} h =
    by_number (read_hex 1 8 v)
    (λ b e. rw (h, e)
    (sym (counted_none {A = Text} [] (Line.call (Call.degrees a b) x) refl)
    ∙ counted-fits 2 2 (w ∷ v ∷ []) (Line.call (Call.degrees a b) x) (omega arith) (omega arith)))
    (λ e. rw (h, e))
second x w (v ∷ u ∷ us) {a} h =
    by_number (read_hex 1 8 v)
    (λ b e. rw (h, e) (sym (counted-some (Line.call (Call.degrees a b) x) refl) ∙ counted-many 2 2 (w ∷ v ∷ u ∷ us) (Line.call (Call.degrees a b) x) (omega arith)))
    (λ e. rw (h, e))

module _ (x : Expected) {ws : List Text} where
  pub degrees-none : ws ≡ [] → Line.bad Fault.wrong_count ≡ degrees_line ws x
  unfolding degrees_line each
  degrees-none e = rw e (counted-few {A = Text} 2 2 [] _ (omega arith))

  pub listing_none : ws ≡ [] → Line.bad Fault.wrong_count ≡ listing_line ws x
  unfolding listing_line
  listing_none e = rw e

  module _ {w : Text} {rest : List Text} (e : ws ≡ w ∷ rest) where
    pub degrees-wrong : number_in word_form w ≡ None → Line.bad (Fault.bad_number w) ≡ degrees_line ws x
    unfolding degrees_line each hex number_in read_as
    degrees-wrong b = rw (e, b)

    degrees-next : {a : ℕ} → number_in word_form w ≡ Some a → one (formed word_form) (λ b. Line.call (Call.degrees a b) x) rest ≡ degrees_line ws x
    unfolding degrees_line number_in read_as
    degrees-next b = rw e (second x w rest b)

    module _ (text : Text) (r : Result ℕ FaultRead) (one-is : (line : ℕ → Line) → number_line text line r ≡ one (formed word_form) line rest)
        {a : ℕ} (first : number_in word_form w ≡ Some a) where
      pub degrees-fault : {f : FaultRead} → r ≡ Err f → Line.bad (as_fault text f) ≡ degrees_line ws x
      degrees-fault h = number-fault text r (λ b. Line.call (Call.degrees a b) x) (one-is (λ b. Line.call (Call.degrees a b) x)) h ∙ degrees-next first

      pub degrees-value : {b : ℕ} → r ≡ Ok b → (l : List ℕ) → length l ≡ 512
          → Line.call (Call.degrees (get_or (set (set l 0 a) 1 b) 0 0) (get_or (set (set l 0 a) 1 b) 1 0)) x ≡ degrees_line ws x
      degrees-value {b} h l long =
          let zeroth : get_or (set (set l 0 a) 1 b) 0 0 ≡ a = get_or-set_other (set l 0 a) 1 0 b 0 (λ e. omega (arith, e)) ∙ get_or-set_same l 0 a 0 (omega arith) in
          let room : 1 < length (set l 0 a) = rw length-set (omega arith) in
          let next : get_or (set (set l 0 a) 1 b) 1 0 ≡ b = get_or-set_same (set l 0 a) 1 b 0 room in
          rw (zeroth, next) (number-value text r (λ b'. Line.call (Call.degrees a b') x) (one-is (λ b'. Line.call (Call.degrees a b') x)) h ∙ degrees-next first)

    pub listing-old : is "old" w ≡ true → one (hex 1 8) (λ c. Line.call (Call.listing Two c) x) rest ≡ listing_line ws x
    unfolding listing_line
    listing-old t = rw (e, t)

    pub listing-new : is "old" w ≡ false → one (hex 1 8) (λ c. Line.call (Call.listing Eight c) x) ws ≡ listing_line ws x
    unfolding listing_line
    listing-new t = rw (e, t)
