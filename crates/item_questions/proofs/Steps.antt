-- The turns of the loops. Assumes nothing.
use Rattle.std.proofs.Common.{◌≡◌, ℕ, suc, ◌+◌, ◌-◌, ◌*◌, ◌<◌, ◌≤◌, min, cond, eqb, List, [], ◌∷◌, ◌++◌, length, get_or, take, drop, set, sym, ◌∙◌, append_assoc, append-nil, add-one, arith, drop_of_length-le, take_all, drop-cons, take-suc-set}
use Rattle.unit.proofs.Cases.{by_eqb}
use Rattle.numeral.specs.Place.{Placed, put_each}
use Rattle.device.specs.declared.Model.{Model}
use Rattle.wording.specs.Text.{PutEach}
use Rattle.wording.specs.Wording.{pair}
use Rattle.wording.proofs.Each.{each-then, each-end}
use Rattle.item_state.specs.Told.{read_word}
use Rattle.item_questions.specs.Answers.{next, row_words, row, rows, differing, pairs}

one_at_most : (has wanted : ℕ) → cond (eqb has wanted) 0 1 ≤ 1
one_at_most has wanted = by_eqb has wanted (λ _ e. rw e (omega arith)) (λ _ e. rw e (omega arith))

-- A word more is compared.
module _ (m : Model) (a : ℕ) (ws : List ℕ) (i : ℕ) (less : i < length ws) where
  pub count-on : (n total : ℕ) {has d n' a' : ℕ} → n ≤ i → length ws ≤ 18446744073709551615 → has ≡ read_word m a
      → d ≡ cond (eqb has (get_or ws i 0)) 0 1 → n' ≡ min (n + d) 18446744073709551615 → a' ≡ next a
      → n + differing m a (drop i ws) ≡ total → (n' ≤ i + 1) × (n' + differing m a' (drop (i + 1) ws) ≡ total)
  unfolding differing
  count-on n total {has} {d} {n'} {a'} few fits read one more after e =
      let k : d ≤ 1 = rw one (one_at_most has (get_or ws i 0)) in
      let sum : n' ≡ n + d = omega arith in
      let whole = rw (drop-cons ws i 0 less, ← read, ← one) at e in
      (omega arith, rw (after, add-one i) (omega (arith, whole)))

  pub pairs-on : {has a' : ℕ} → has ≡ read_word m a → a' ≡ next a → {l l' : List ℕ} {at r : ℕ} {end : Placed}
      → PutEach l at (pair a has (get_or ws i 0)) r l' → put_each l at (pairs m a (drop i ws)) ≡ end
      → put_each l' r (pairs m a' (drop (i + 1) ws)) ≡ end
  unfolding pairs
  pairs-on {has} {a'} read after {l} {l'} {at} {r} {end} put e =
      let rest = pairs m (next a) (drop (suc i) ws) in
      let whole : put_each l at (pair a has (get_or ws i 0) ++ rest) ≡ end = rw read (rw (drop-cons ws i 0 less) at e) in
      rw (after, add-one i) (sym (each-then rest put) ∙ whole)

-- All were compared.
module _ (m : Model) (a : ℕ) (ws : List ℕ) (i : ℕ) (all : length ws ≤ i) where
  pub count-end : {n total : ℕ} → n + differing m a (drop i ws) ≡ total → n ≡ total
  unfolding differing
  count-end e = omega (arith, rw (drop_of_length-le ws all) at e)

  pub pairs_end : {l l' : List ℕ} {at r : ℕ} {ts : List (List ℕ)} → put_each l' r (pairs m a (drop i ws)) ≡ put_each l at ts
      → PutEach l at ts r l'
  unfolding pairs
  pairs_end e = each-end (rw (drop_of_length-le ws all) at e)

-- A word more of a row of eight is read.
module _ (m : Model) (address i : ℕ) (words : List ℕ) (long : length words ≡ 8) {end : List ℕ} where
  pub row_on : i < 8 → {has address' : ℕ} → has ≡ read_word m address → address' ≡ next address
      → take i words ++ row_words m address (8 - i) ≡ end → take (i + 1) (set words i has) ++ row_words m address' (8 - (i + 1)) ≡ end
  unfolding row_words
  row_on less {has} {address'} read after e =
      let left : 8 - i ≡ suc (8 - (i + 1)) = omega arith in
      let rest = row_words m (next address) (8 - (i + 1)) in
      let whole : take i words ++ (has ∷ rest) ≡ end = rw read (rw left at e) in
      let there : i < length words = omega arith in
      rw (after, add-one i, take-suc-set words i has there) (append_assoc (take i words) (has ∷ []) (row_words m (next address) (8 - suc i)) ∙ (rw (add-one i) at whole))

  pub row-end : 8 ≤ i → take i words ++ row_words m address (8 - i) ≡ end → words ≡ end
  unfolding row_words
  row-end h e =
      let none : 8 - i ≡ 0 = omega arith in
      let all : length words ≤ i = omega arith in
      rw (none, take_all i words all, append-nil) at e

-- A row more of ten.
module _ (m : Model) (i : ℕ) where
  pub rows_on : i < 10 → {l l' : List ℕ} {at r : ℕ} {end : Placed}
      → PutEach l at (row m (176 + 8 * i)) r l' → put_each l at (rows m (176 + 8 * i) (10 - i)) ≡ end
      → put_each l' r (rows m (176 + 8 * (i + 1)) (10 - (i + 1))) ≡ end
  unfolding rows
  rows_on less {l} {l'} {at} {r} {end} put e =
      let left : 10 - i ≡ suc (10 - (i + 1)) = omega arith in
      let further : 176 + 8 * (i + 1) ≡ 176 + 8 * i + 8 = omega arith in
      let rest = rows m (176 + 8 * i + 8) (10 - (i + 1)) in
      let whole : put_each l at (row m (176 + 8 * i) ++ rest) ≡ end = rw left at e in
      rw further (sym (each-then rest put) ∙ whole)

  pub rows_end : 10 ≤ i → {l l' : List ℕ} {at r : ℕ} {ts : List (List ℕ)}
      → put_each l' r (rows m (176 + 8 * i) (10 - i)) ≡ put_each l at ts → PutEach l at ts r l'
  unfolding rows
  rows_end h e = let none : 10 - i ≡ 0 = omega arith in each-end (rw none at e)
