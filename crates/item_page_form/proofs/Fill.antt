-- A form is filled in byte by byte. Assumes nothing.
use Prim.Native.Nat.{ℕ, suc, ◌+◌, ◌-◌, ◌≤◌, ◌<◌}
use mathlib.Core.Path.{◌≡◌, ◌∙◌}
use mathlib.Core.Logic.{◌⊎◌, inl, inr}
use Rattle.numeral.specs.Digit.{digits}
use mathlib.Core.List.{List, [], ◌∷◌, ◌++◌}
use native.Mathlib.Nat.{sub_self}
use native.Mathlib.Numerals.{add-one}
use native.Mathlib.Omega.{arith}
use lib.ListN.{length, get_or, take, drop, drop_of_length-le, length-take, length-drop}
use lib.Seq.{drop-cons, take-suc, get_or-drop}
use borrow.Author.Tests.{eq-eqb, ne_eqb}
use Rattle.unit.proofs.Cases.{by-ltb, by_eqb}
use Rattle.text.specs.Text.{Text}
use Rattle.text.specs.OwnPut.{Puts}
use Rattle.text.proofs.Putting.{puts_then}
use Rattle.item_page_form.specs.OwnForm.{Leads, pair_then, piece_then, takes, filled}

-- two values at most
few : (c : ℕ) → takes c ≤ 2
unfolding takes
few c =
    by-ltb c 35 (λ h e. rw e (omega arith))
    (λ h e. rw e (by-ltb c 39 (λ h e. rw e (omega arith))
    (λ h e. rw e (by-ltb c 60 (λ h e. rw e (omega arith))
    (λ h e. rw e (by-ltb c 63 (λ h e. rw e (omega arith)) (λ h e. rw e (by_eqb c 63 (λ h e. rw e (omega arith)) (λ h e. rw e (omega arith))))))))))

pub takes-most : (p : List ℕ) → takes (get_or p 0 0) ≤ length p + 1
unfolding takes
takes-most [] = omega arith
takes-most (c ∷ p) = omega (arith, few c)

-- the part of a form that was read of a piece
abbrev pub read : List ℕ → ℕ → ℕ → List ℕ
read form start i = take (i - start) (drop start form)

pub length-read : (form : List ℕ) (start i : ℕ) → length (read form start i) ≤ i - start
length-read form start i = rw (length-take (i - start) (drop start form)) (omega arith)

module _ (form vs : List ℕ) (start next i : ℕ) (less : i < length form) where
  -- At a bar the piece is put.
  pub bar-on : get_or form i 0 ≡ 124 → {v w k : ℕ}
      → v ≡ get_or vs next 0 → w ≡ get_or vs (next + 1) 0 → k ≡ takes (get_or (read form start i) 0 0) → (rest : Text)
      → filled (read form start i) (drop i form) vs next rest
      ≡ piece_then (read form start i) v w (filled (read form (i + 1) (i + 1)) (drop (i + 1) form) vs (next + k) rest)
  unfolding filled
  bar-on bar first second many rest =
      rw (sub_self, many, first, second, add-one i, drop-cons form i 0 less, eq-eqb (get_or form i 0) 124 bar)

  -- Any other byte is read.
  pub byte-on : ¬ (get_or form i 0 ≡ 124) → start ≤ i → (rest : Text)
      → filled (read form start i) (drop i form) vs next rest ≡ filled (read form start (i + 1)) (drop (i + 1) form) vs next rest
  unfolding filled
  byte-on other from rest =
      let j = i - start in
      let inside : j < length (drop start form) = rw (length-drop start form) (omega arith) in
      let longer : read form start (i + 1) ≡ read form start i ++ (get_or form i 0 ∷ []) =
      let n : i + 1 - start ≡ suc j = omega arith in
      let there : start + j ≡ i = omega arith in
      rw n (take-suc (drop start form) j 0 inside ∙ rw (get_or-drop start form j 0, there)) in
      rw (longer, add-one i, drop-cons form i 0 less, ne_eqb (get_or form i 0) 124 other)

-- All was read.
pub form-end : (form vs : List ℕ) (start next i : ℕ) → length form ≤ i → (rest : Text) → filled (read form start i) (drop i form) vs next rest ≡ rest
unfolding filled
form-end form vs start next i all rest = rw (drop_of_length-le form all)

-- A pair, and what it says.
pub twice : (text : ℕ → Text) {l l' l'' k : List ℕ} {at q r s x a b : ℕ} {rest : Text}
    → a ≡ x → b ≡ x → Leads l at (pair_then a) q l' → Puts l' q (text b) r l'' → Puts l'' r rest s k
    → Puts l at (pair_then x (text x ++ rest)) s k
twice text {l} {l'} {l''} {k} {at} {q} {r} {s} {x} {a} {b} {rest} e f pair said after =
    let second : Puts l' q (text x) r l'' = rw f at said in rw e at (pair.on (text x ++ rest) s k (puts_then second after))

-- A piece of four hexadecimal digits.
pub word-piece : (p : List ℕ) (v w : ℕ) (rest : Text) {c : ℕ} → c ≡ get_or p 0 0 → (c ≡ 36) ⊎ (c ≡ 64) → piece_then p v w rest ≡ digits 16 4 v ++ rest
unfolding piece_then
word-piece p v w rest is (inl e) = rw (← is, e)
word-piece p v w rest is (inr e) = rw (← is, e)

-- A piece that stands for itself: its first byte is none of these.
pub record Plain (c : ℕ) : Type 0 where
  pub n35 : ¬ (c ≡ 35)
  pub n36 : ¬ (c ≡ 36)
  pub n37 : ¬ (c ≡ 37)
  pub n38 : ¬ (c ≡ 38)
  pub n63 : ¬ (c ≡ 63)
  pub n64 : ¬ (c ≡ 64)
  pub n60 : ¬ (c ≡ 60)
  pub n61 : ¬ (c ≡ 61)
  pub n62 : ¬ (c ≡ 62)

pub other-piece : (p : List ℕ) (v w : ℕ) (rest : Text) {c : ℕ} → c ≡ get_or p 0 0 → Plain c → piece_then p v w rest ≡ p ++ rest
unfolding piece_then
other-piece p v w rest {c} is n =
    rw (← is, ne_eqb c 35 n.n35, ne_eqb c 36 n.n36, ne_eqb c 37 n.n37, ne_eqb c 38 n.n38, ne_eqb c 63 n.n63, ne_eqb c 64 n.n64, ne_eqb c 60 n.n60, ne_eqb c 61 n.n61, ne_eqb c 62 n.n62)
