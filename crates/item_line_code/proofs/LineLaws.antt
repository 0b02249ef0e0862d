-- A whole line. Assumes nothing.
use Prim.Native.Nat.{ℕ, zero, suc, ◌≤◌, ◌<◌}
use mathlib.Core.Path.{◌≡◌, refl, ap}
use mathlib.Core.List.{[], ◌∷◌}
use native.Mathlib.Omega.{arith}
use native.Mathlib.Nat.{sub-zero}
use lib.ListN.{length, get_or, take}
use lib.Seq.{length-take-le}
use borrow.Author.Tests.{lt-ltb, le-ltb, eq-eqb, ne_eqb}
use Rattle.text.specs.Text.{Text, without_return, words}
use Rattle.text.specs.OwnPart.{part}
use Rattle.item_line.specs.Line.{Fault, Line}
use Rattle.item_line.specs.Reading.{words_line, line_of}

pub no_return : (s : Text) → length s ≤ 0 → without_return s ≡ []
unfolding without_return
no_return [] h = refl
no_return (c ∷ s) h = absurd (omega arith)

pub return-drops : (s : Text) (n : ℕ) → length s ≡ suc n → get_or s n 0 ≡ 13 → without_return s ≡ take n s
unfolding without_return
return-drops [] n h e = absurd (omega arith)
return-drops (c ∷ []) zero h e = rw (eq-eqb c 13 e)
return-drops (c ∷ []) (suc n) h e = absurd (omega arith)
return-drops (c ∷ d ∷ s) zero h e = absurd (omega arith)
return-drops (c ∷ d ∷ s) (suc n) h e = ap (λ (t : Text). c ∷ t) (return-drops (d ∷ s) n (omega arith) e)

pub return-none : (s : Text) (n : ℕ) → length s ≡ suc n → (get_or s n 0 ≡ 13 → ⊥) → without_return s ≡ s
unfolding without_return
return-none [] n h e = refl
return-none (c ∷ []) zero h e = rw (ne_eqb c 13 e)
return-none (c ∷ []) (suc n) h e = absurd (omega arith)
return-none (c ∷ d ∷ s) zero h e = absurd (omega arith)
return-none (c ∷ d ∷ s) (suc n) h e = ap (λ (t : Text). c ∷ t) (return-none (d ∷ s) n (omega arith) e)

-- A line by its length without a carriage return.
module _ (s : Text) (n : ℕ) (content : without_return s ≡ take n s) (inside : n ≤ length s) where
  pub too_long : 1000 < n → line_of s ≡ Line.bad Fault.too_long
  unfolding line_of
  too_long h = rw (content, length-take-le n s inside, lt-ltb 1000 n h)

  pub no_longer : n ≤ 1000 → line_of s ≡ words_line (words (part s (record { start = 0; end = n })))
  unfolding line_of part
  no_longer h = rw (content, length-take-le n s inside, le-ltb 1000 n h, sub-zero)
