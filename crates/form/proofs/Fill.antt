-- A form is filled in byte by byte. Assumes nothing.
use Prim.Native.Nat.{ℕ, suc, ◌+◌, ◌-◌, ◌≤◌, ◌<◌}
use mathlib.Core.Path.{◌≡◌, sym, ap, ◌∙◌}
use mathlib.Core.List.{List, [], ◌∷◌, ◌++◌}
use native.Mathlib.Nat.{sub_self}
use native.Mathlib.Numerals.{add-one}
use native.Mathlib.Omega.{arith}
use lib.ListN.{length, get_or, take, drop, drop_of_length-le, length-take, length-drop}
use lib.Seq.{drop-cons, drop-drop, take-suc, get_or-drop}
use borrow.Author.Tests.{eq-eqb, ne_eqb}
use Rattle.unit.proofs.Cases.{by-ltb, by_eqb}
use Rattle.numeral.specs.Place.{Placed, put_each}
use Rattle.wording.specs.Text.{PutEach}
use Rattle.wording.proofs.Each.{each-then, each-end}
use Rattle.form.specs.Form.{piece_texts, takes, form_texts}

-- two values at most
few : (c : ℕ) → takes c ≤ 2
unfolding takes
few c =
    by-ltb c 35 (λ h e. rw e (omega arith))
    (λ h e. rw e (by-ltb c 39 (λ h e. rw e (omega arith))
    (λ h e. rw e (by-ltb c 60 (λ h e. rw e (omega arith))
    (λ h e. rw e (by-ltb c 63 (λ h e. rw e (omega arith)) (λ h e. rw e (by_eqb c 63 (λ h e. rw e (omega arith)) (λ h e. rw e (omega arith))))))))))

pub takes-most : (p : List ℕ) → takes (get_or p 0 0) ≤ length p + 1
unfolding takes
takes-most [] = omega arith
takes-most (c ∷ p) = omega (arith, few c)

-- the part of a form that was read of a piece
abbrev pub read : List ℕ → ℕ → ℕ → List ℕ
read form start i = take (i - start) (drop start form)

pub length-read : (form : List ℕ) (start i : ℕ) → length (read form start i) ≤ i - start
length-read form start i = rw (length-take (i - start) (drop start form)) (omega arith)

module _ (form vs : List ℕ) (start next i : ℕ) (less : i < length form) where
  -- At a bar the piece is put.
  pub bar-on : get_or form i 0 ≡ 124 → {l l' : List ℕ} {at r v w k : ℕ} {end : Placed}
      → v ≡ get_or vs next 0 → w ≡ get_or vs (next + 1) 0 → k ≡ takes (get_or (read form start i) 0 0)
      → PutEach l at (piece_texts (read form start i) v w) r l'
      → put_each l at (form_texts (read form start i) (drop i form) (drop next vs)) ≡ end
      → put_each l' r (form_texts (read form (i + 1) (i + 1)) (drop (i + 1) form) (drop (next + k) vs)) ≡ end
  unfolding form_texts
  bar-on bar {l} {l'} {at} {r} {v} {w} {k} {end} first second many put e =
      let p : List ℕ = read form start i in
      let rest = form_texts [] (drop (suc i) form) (drop (takes (get_or p 0 0)) (drop next vs)) in
      let whole : put_each l at (piece_texts p (get_or (drop next vs) 0 0) (get_or (drop next vs) 1 0) ++ rest) ≡ end =
      rw (drop-cons form i 0 less, eq-eqb (get_or form i 0) 124 bar) at e in
      let there : get_or (drop next vs) 0 0 ≡ get_or vs next 0 = get_or-drop next vs 0 0 ∙ ap (λ (n : ℕ). get_or vs n 0) (omega arith) in
      let same : put_each l at (piece_texts p v w ++ rest) ≡ end =
      rw (get_or-drop next vs 1 0, there, ← first, ← second) at whole in
      rw (sub_self, many, ← drop-drop (takes (get_or p 0 0)) next vs, add-one i) (sym (each-then rest put) ∙ same)

  -- Any other byte is read.
  pub byte-on : ¬ (get_or form i 0 ≡ 124) → start ≤ i → (l : List ℕ) (at : ℕ) {end : Placed}
      → put_each l at (form_texts (read form start i) (drop i form) (drop next vs)) ≡ end
      → put_each l at (form_texts (read form start (i + 1)) (drop (i + 1) form) (drop next vs)) ≡ end
  unfolding form_texts
  byte-on other from l at {end} e =
      let j = i - start in
      let inside : j < length (drop start form) = rw (length-drop start form) (omega arith) in
      let longer : read form start (i + 1) ≡ read form start i ++ (get_or form i 0 ∷ []) =
      let n : i + 1 - start ≡ suc j = omega arith in
      let there : start + j ≡ i = omega arith in
      rw n (take-suc (drop start form) j 0 inside ∙ rw (get_or-drop start form j 0, there)) in
      let whole : put_each l at (form_texts (read form start i ++ (get_or form i 0 ∷ [])) (drop (suc i) form) (drop next vs)) ≡ end =
      rw (drop-cons form i 0 less, ne_eqb (get_or form i 0) 124 other) at e in
      rw (longer, add-one i) whole

-- All was read.
pub form-end : (form vs : List ℕ) (start next i : ℕ) → length form ≤ i → {l l' : List ℕ} {at r : ℕ} {ts : List (List ℕ)}
    → put_each l' r (form_texts (read form start i) (drop i form) (drop next vs)) ≡ put_each l at ts → PutEach l at ts r l'
unfolding form_texts
form-end form vs start next i all e = each-end (rw (drop_of_length-le form all) at e)
