-- The lines of a listing, as they are put into a buffer. Assumes nothing.
use Prim.Native.Nat.{ℕ, ◌+◌, ◌-◌, ◌*◌, ◌≤◌, ◌<◌}
use mathlib.Core.Bool.{Bool, true, false}
use mathlib.Core.List.{List, [], ◌∷◌, ◌++◌, append-nil, append_assoc}
use mathlib.Core.Path.{◌≡◌, refl, sym, ap, ◌∙◌}
use native.Mathlib.Omega.{arith}
use lib.Dec.{eqb}
use lib.IntN.{ℤ, nat_abs}
use lib.ListN.{length, take, drop, length-append, length-drop, length-replicate, take-append-drop, drop_of_length-le}
use lib.Seq.{drop-drop, take_all}
use borrow.Author.Tests.{eq-eqb, ne_eqb}
use Rattle.unit.specs.Choice.{pick}
use Rattle.unit.proofs.Cases.{by-test, by-ltb, by-leb}
use Rattle.numeral.specs.Place.{overwrite}
use Rattle.numeral.specs.Print.{nanoseconds}
use Rattle.numeral.proofs.DigitLaws.{length_digits}
use Rattle.listing.specs.declared.Width.{Width}
use Rattle.listing.specs.Listing.{capture_digits, Outcome, line, lines, line_length, last_above, listing, right_justified}
use Rattle.text.specs.Text.{Text}
use Rattle.text.specs.OwnPut.{Puts}
use Rattle.text.proofs.Putting.{puts_none}
use Rattle.item_answer.specs.Answer.{Item, listing_told}
use Rattle.item_keep_code.specs.OwnListed.{listed_at, written_in}
use Rattle.refusal.specs.declared.Refusal.{Refusal}
use Rattle.std.specs.Prelude.{Result, Ok, Err}
use mathlib.Core.Logic.{◌↔◌}
use Rattle.refusal.specs.Number.{number}

-- A line is at least as long as is reckoned with, whatever its difference.
justified-least : (text : Text) → 12 ≤ length (right_justified 12 text)
unfolding right_justified
justified-least text = rw (length-append, length-replicate) (omega arith)

line-least : (d capture : ℕ) (x : ℤ) → line_length d ≤ length (line d capture x)
unfolding line line_length
line-least d capture x =
    let time = right_justified 12 (nanoseconds (nat_abs x)) in
    let end : length (time ++ (10 ∷ [])) ≡ length time + 1 = length-append time (10 ∷ []) in
    rw (length-append, length_digits 16 d capture) (omega (arith, end, justified-least (nanoseconds (nat_abs x))))

lines-least : (d first : ℕ) (ds : List ℤ) → length ds * line_length d ≤ length (lines d first ds)
unfolding lines
lines-least d first [] = omega arith
lines-least d first (x ∷ ds) = rw length-append (omega (arith, line-least d first x, lines-least d (first + 1) ds))

of-refused : {n : ℕ} {k : Refusal} {G : Type 0} → ◌≡◌ {A = Result ℕ Refusal} (Ok n) (Err k) → G
of-refused e = let z : ◌≡◌ {A = ℕ} 0 1 = cc in absurd (omega arith)

same_refusal : {n k : Refusal} → ◌≡◌ {A = Result ℕ Refusal} (Err n) (Err k) → n ≡ k
same_refusal e = cc

answers : {o p : Outcome} → o ≡ p → o.answer ≡ p.answer
answers e = ap (λ (o : Outcome). o.answer) e

bytes : {o p : Outcome} → o ≡ p → o.bytes ≡ p.bytes
bytes e = ap (λ (o : Outcome). o.bytes) e

pub same_by : (b t : Bool) → ((b ≡ true) ↔ (t ≡ true)) → b ≡ t
same_by true true i = refl
same_by true false i = sym (i.0 refl)
same_by false true i = i.1 refl
same_by false false i = refl

-- Number 20 is said exactly where the last capture has too many digits.
module _ (d : ℕ) (ds : List ℤ) (first : ℕ) (out : List ℕ) {a : Result ℕ Refusal} {out' : List ℕ}
    (e : record { answer = a; bytes = out' } ≡ listing d ds first out) where
  abbrev above : Bool
  above = last_above d first (length ds)

  pub above-written : {n : ℕ} → a ≡ Ok n → false ≡ above
  unfolding listing
  above-written is =
      by-test above (λ t. let s : a ≡ Err Refusal.LastCapture = answers e ∙ rw t in of-refused (sym is ∙ s)) (λ t. sym t)

  pub above-refused : {r : Refusal} → a ≡ Err r → (r ≡ Refusal.LastCapture) ↔ (above ≡ true)
  unfolding listing
  above-refused {r} is =
      by-test above
      (λ t. let s : a ≡ Err Refusal.LastCapture = answers e ∙ rw t in (λ _. t, λ _. same_refusal (sym is ∙ s)))
      (λ t. by-ltb (length out) (length ds * line_length d)
      (λ short u. let s : a ≡ Err Refusal.ShortListing = answers e ∙ rw (t, u) in
      let other : r ≡ Refusal.ShortListing = same_refusal (sym is ∙ s) in (
        λ q. let z : ◌≡◌ {A = ℕ} 21 20 = ap number (sym other ∙ q) in absurd (omega arith),
        λ q. let z : ◌≡◌ {A = ℕ} 0 1 = cc in absurd (omega arith),
      ))
      (λ room u. let s : a ≡ Ok (length (lines d first ds)) = answers e ∙ rw (t, u) in of-refused (sym s ∙ is)))

-- What is put after a place.
module _ (d : ℕ) (ds : List ℤ) (first : ℕ) (l : List ℕ) (at : ℕ) {a : Result ℕ Refusal} {l' : List ℕ}
    (e : record { answer = a; bytes = l' } ≡ listed_at d ds first l at) where
  abbrev text : Text
  text = lines d first ds

  abbrev further : Text
  further = pick (last_above d first (length ds)) [] text

  no_room : (t : Text) → length l < at + length t → Puts l at t at l'
  no_room t h = record { next = λ g. absurd (omega arith); bytes = λ g. absurd (omega arith) }

  by-listed : {G : Type 0} →
      ((n : Refusal) → a ≡ Err n → Puts l at further at l' → G) →
      (a ≡ Ok (length text) → further ≡ text → l' ≡ overwrite l at text → G) →
      G
  unfolding listed_at listing overwrite
  by-listed {G} none all =
      by-leb at (length l)
      (λ inside t. by-test (last_above d first (length ds))
      (λ u. let s : a ≡ Err Refusal.LastCapture = answers e ∙ rw (t, u) in
      let k : l' ≡ l = bytes e ∙ rw (t, u) (take-append-drop at l) in
      none Refusal.LastCapture s (rw (u, k) (puts_none l at)))
      (λ u. by-ltb (length (drop at l)) (length ds * line_length d)
      (λ short v. let s : a ≡ Err Refusal.ShortListing = answers e ∙ rw (t, u, v) in
      none Refusal.ShortListing s (rw u (no_room text (omega (arith, short, length-drop at l, lines-least d first ds)))))
      (λ room v. let s : a ≡ Ok (length text) = answers e ∙ rw (t, u, v) in
      let k : l' ≡ take at l ++ text ++ drop (at + length text) l = bytes e ∙ rw (t, u, v, drop-drop (length text) at l, append_assoc (take at l) text (drop (at + length text) l)) in
      all s (rw u) k)))
      (λ outside t. let s : a ≡ Err Refusal.ShortListing = answers e ∙ rw t in none Refusal.ShortListing s (no_room further (omega arith)))

  pub listed-put : {r : ℕ} → (at + written_in a ≤ length l → r ≡ at + written_in a) → Puts l at further r l'
  unfolding written_in
  listed-put {r} next =
      by-listed
      (λ n refused put. let e : at + written_in a ≡ at = rw refused (omega arith) in
      record { next = λ h. next (omega (arith, e, h)) ∙ (e ∙ put.next h); bytes = put.bytes })
      (λ written which put. let e : written_in a ≡ length text = rw written in
      rw which (record { next = λ h. next (omega (arith, e, h)) ∙ ap (λ (n : ℕ). at + n) e; bytes = λ h. put }))

-- Those are the lines after the first of the answer.
pub further-is : (width : Width) (first : ℕ) (i : Item) {ds : List ℤ} {l l' : List ℕ} {at r : ℕ} →
    i.recorded ≡ ds →
    Puts l at (pick (last_above (capture_digits width) first (length ds)) [] (lines (capture_digits width) first ds)) r l' →
    Puts l at (listing_told width first i).further r l'
unfolding listing_told
further-is width first i {ds} e put =
    by-test (last_above (capture_digits width) first (length ds)) (λ t. rw (e, t) (rw t at put)) (λ t. rw (e, t) (rw t at put))

-- The end of a list, from a place on.
pub rest-whole : (n : ℕ) (l : List ℕ) → take (length l - n) (drop n l) ≡ drop n l
rest-whole n l = take_all (length l - n) (drop n l) (rw length-drop (omega arith))

pub rest-kept : (at : ℕ) (l ys : List ℕ) → take at l ++ (ys ++ drop (length l - at) (drop at l)) ≡ take at l ++ ys
rest-kept at l ys =
    let short : length (drop at l) ≤ length l - at = rw length-drop (omega arith) in
    let none : drop (length l - at) (drop at l) ≡ [] = drop_of_length-le (drop at l) short in
    rw (none, append-nil)
