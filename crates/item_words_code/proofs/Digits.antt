-- Words of four digits, and differences in decimal. Assumes nothing.
use Prim.Native.Nat.{ℕ, ◌+◌, ◌≤◌}
use mathlib.Core.List.{List, [], ◌∷◌, append-nil}
use mathlib.Core.Bool.{true, false}
use mathlib.Core.Path.{◌≡◌, refl, ◌∙◌}
use native.Mathlib.Omega.{arith}
use lib.IntN.{ℤ, pos, nat_abs}
use lib.ListN.{length, drop_of_length-le}
use lib.Signed.{lt_z}
use Rattle.numeral.specs.Ascii.{ascii}
use Rattle.numeral.specs.Place.{overwrite, Put}
use Rattle.numeral.specs.Print.{decimal}
use Rattle.text.specs.Text.{Text, text_where}
use Rattle.text.specs.OwnPut.{Puts}
use Rattle.text.proofs.Putting.{puts, puts-last}
use Rattle.item_line.specs.Reading.{four_digits}
use Rattle.item_answer.specs.Words.{quanta}
use Rattle.item_words_code.specs.OwnTexts.{backward}

-- A word's digits, from the fourth before its end on.
pub four : (w : Text) → length w ≤ 4 → backward w 4 ∷ backward w 3 ∷ backward w 2 ∷ backward w 1 ∷ [] ≡ four_digits w
unfolding backward four_digits
four [] h = refl
four (a ∷ []) h = refl
four (a ∷ b ∷ []) h = refl
four (a ∷ b ∷ c ∷ []) h = refl
four (a ∷ b ∷ c ∷ d ∷ []) h = refl
four (a ∷ b ∷ c ∷ d ∷ e ∷ w) h = absurd (omega arith)

-- A text that fills a list is the list.
pub filled : (l t : Text) → length l ≡ length t → {r : ℕ} {l' : Text} → Put l 0 t r l' → l' ≡ t
unfolding overwrite
filled l t e p =
    let all : length l ≤ 0 + length t = omega arith in
    (puts p).bytes (omega arith) ∙ rw (drop_of_length-le l all, append-nil)

-- A difference, with its minus and without.
pub put-negative : (z : ℤ) (n : ℕ) → n ≡ nat_abs z → lt_z z (pos 0) ≡ true → {l k l' : List ℕ} {at q r : ℕ} → Put l at (ascii "-") q k
    → Put k q (decimal n) r l' → Puts l at (quanta z) r l'
unfolding quanta text_where
put-negative z n e t p s = rw (t, ← e) (puts-last (puts p) s)

pub put-positive : (z : ℤ) (n : ℕ) → n ≡ nat_abs z → lt_z z (pos 0) ≡ false → {l l' : List ℕ} {at r : ℕ} → Put l at (decimal n) r l'
    → Puts l at (quanta z) r l'
unfolding quanta text_where
put-positive z n e t s = rw (t, ← e) (puts s)
