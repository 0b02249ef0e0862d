-- `line_reader::words::same` meets its contract.
-- Assumes nothing.
use Rattle.std.proofs.Common.{◌≡◌, ℕ, List, [], ◌∷◌, Bool, true, false, ◌&&◌, cond, eqb, refl, ◌∙◌}
use Rattle.std.specs.Cmp.Lexicographic.{pointwise}
use Rattle.line.specs.Words.{same_bytes}
use Rattle.line_reader.proofs.words.same.Goals as goal

both : (s t u : Bool) → t ≡ u → s && t ≡ cond s u false
both true t u e = e
both false t u e = refl

alike : (a b : List ℕ) → pointwise eqb a b ≡ same_bytes a b
unfolding same_bytes
alike [] [] = refl
alike [] (y ∷ ys) = refl
alike (x ∷ xs) [] = refl
alike (x ∷ xs) (y ∷ ys) = both (eqb x y) (pointwise eqb xs ys) (same_bytes xs ys) (alike xs ys)

pub returns : goal.returns
returns c = c.eq.ensures ∙ alike _ _
