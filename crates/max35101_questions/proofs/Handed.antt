-- What a question hands over, for another text of its answer.
use Prim.Native.Nat.{ℕ}
use mathlib.Core.List.{List}
use mathlib.Core.Path.{◌≡◌, subst}
use Rattle.layout.specs.Code.{Gives}

pub gives-by :
    {A : Type 0} {number values : A → List ℕ} {t u : A} {words words' : List ℕ} {code : ℕ} →
    t ≡ u →
    Gives number values t words code words' →
    Gives number values u words code words'
gives-by {A = A} {number = m} {values = v} {words = w} {words' = w'} {code = n} e h = subst (λ (q : A). Gives m v q w n w') e h
