-- The turns of the loops. Assumes nothing.
use Rattle.std.proofs.Common.{◌≡◌, ℕ, suc, ◌+◌, ◌<◌, ◌≤◌, List, ◌∷◌, ◌++◌, length, get_or, drop, sym, ◌∙◌, add-one, drop_of_length-le, drop-cons}
use Rattle.numeral.specs.Ascii.{ascii}
use Rattle.numeral.specs.Digit.{digits}
use Rattle.numeral.specs.Place.{Put, Placed, put_each}
use Rattle.wording.specs.Text.{PutEach}
use Rattle.wording.specs.Wording.{blank_word, word_texts, byte_texts, difference, difference_texts}
use Rattle.wording.proofs.Each.{each-then, each-end, put_one}

-- A word more of a row.
module _ (ws : List ℕ) (i : ℕ) where
  pub words-on : i < length ws → {l l' : List ℕ} {at r : ℕ} {end : Placed} → PutEach l at (blank_word (get_or ws i 0)) r l'
      → put_each l at (word_texts (drop i ws)) ≡ end → put_each l' r (word_texts (drop (i + 1) ws)) ≡ end
  unfolding word_texts
  words-on less {l} {l'} {at} {r} {end} put e =
      let rest = word_texts (drop (suc i) ws) in
      let whole : put_each l at (blank_word (get_or ws i 0) ++ rest) ≡ end = rw (drop-cons ws i 0 less) at e in
      rw (add-one i) (sym (each-then rest put) ∙ whole)

  pub words-end : length ws ≤ i → {l l' : List ℕ} {at r : ℕ} {ts : List (List ℕ)} → put_each l' r (word_texts (drop i ws)) ≡ put_each l at ts
      → PutEach l at ts r l'
  unfolding word_texts
  words-end all e = each-end (rw (drop_of_length-le ws all) at e)

-- A byte more of a frame.
module _ (bs : List ℕ) (i : ℕ) where
  pub bytes_on : i < length bs → {l l₁ l' : List ℕ} {at r₁ r : ℕ} {end : Placed} → Put l at (ascii " ") r₁ l₁
      → Put l₁ r₁ (digits 16 2 (get_or bs i 0)) r l' → put_each l at (byte_texts (drop i bs)) ≡ end
      → put_each l' r (byte_texts (drop (i + 1) bs)) ≡ end
  unfolding byte_texts
  bytes_on less {l} {l₁} {l'} {at} {r₁} {r} {end} blank hex e =
      let rest = byte_texts (drop (suc i) bs) in
      let two = digits 16 2 (get_or bs i 0) in
      let whole : put_each l at (ascii " " ∷ two ∷ rest) ≡ end = rw (drop-cons bs i 0 less) at e in
      rw (add-one i) (sym (each-then rest (put_one hex)) ∙ (sym (each-then (two ∷ rest) (put_one blank)) ∙ whole))

  pub bytes-end : length bs ≤ i → {l l' : List ℕ} {at r : ℕ} {ts : List (List ℕ)} → put_each l' r (byte_texts (drop i bs)) ≡ put_each l at ts
      → PutEach l at ts r l'
  unfolding byte_texts
  bytes-end all e = each-end (rw (drop_of_length-le bs all) at e)

-- A difference more.
module _ (ws : List ℕ) (i : ℕ) where
  pub differences-on : i < length ws → {l l' : List ℕ} {at r : ℕ} {end : Placed} → PutEach l at (difference (get_or ws i 0)) r l'
      → put_each l at (difference_texts (drop i ws)) ≡ end → put_each l' r (difference_texts (drop (i + 1) ws)) ≡ end
  unfolding difference_texts
  differences-on less {l} {l'} {at} {r} {end} put e =
      let rest = difference_texts (drop (suc i) ws) in
      let whole : put_each l at (difference (get_or ws i 0) ++ rest) ≡ end = rw (drop-cons ws i 0 less) at e in
      rw (add-one i) (sym (each-then rest put) ∙ whole)

  pub differences-end : length ws ≤ i → {l l' : List ℕ} {at r : ℕ} {ts : List (List ℕ)} → put_each l' r (difference_texts (drop i ws)) ≡ put_each l at ts
      → PutEach l at ts r l'
  unfolding difference_texts
  differences-end all e = each-end (rw (drop_of_length-le ws all) at e)
