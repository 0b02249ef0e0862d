-- Rows put one after the other. Assumes nothing.
use Prim.Native.Nat.{ℕ}
use mathlib.Core.List.{List, [], ◌∷◌, ◌++◌, append_assoc}
use mathlib.Core.Path.{◌≡◌, refl, sym, ap, ◌∙◌}
use Rattle.wording.specs.Text.{PutEach}
use Rattle.wording.specs.Wording.{Texts, line_feed}
use Rattle.wording.proofs.Each.{put_then}
use Rattle.page.specs.Row.{ended, lines}

-- Rows, and those after them.
pub lines-append : (xs ys : List Texts) → lines (xs ++ ys) ≡ lines xs ++ lines ys
unfolding lines
lines-append [] ys = refl
lines-append (x ∷ xs) ys = ap (λ (ts : Texts). ended x ++ ts) (lines-append xs ys) ∙ sym (append_assoc (ended x) (lines xs) (lines ys))

-- Texts, and a last one with the row's line feed.
pub put_ended : {l l' l'' t : List ℕ} {at r r' : ℕ} {ts : Texts}
    → PutEach l at ts r l' → PutEach l' r (t ∷ line_feed ∷ []) r' l'' → PutEach l at ((ts ++ (t ∷ [])) ++ (line_feed ∷ [])) r' l''
put_ended {t} {ts} p q = rw (append_assoc ts (t ∷ []) (line_feed ∷ [])) (put_then p q)
