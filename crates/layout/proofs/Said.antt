-- The codes and words of the library against the numbers and values of answers. Assumes nothing.
use Prim.Native.Nat.{ℕ}
use native.Mathlib.Omega.{arith}
use mathlib.Core.Bool.{Bool, true, false}
use mathlib.Core.List.{List, [], ◌∷◌}
use mathlib.Core.Logic.{◌⊎◌, inl, inr}
use mathlib.Core.Path.{◌≡◌, refl}
use lib.Dec.{eqb}
use mir.Val.{bool_byte}
use Rattle.device.specs.declared.Answer.{Answer}
use Rattle.device.specs.declared.Answer.TheVariants.{Refused, Accepted, Ticked, Stretched, Good, Failed}
use Rattle.device.specs.Reply.{flag, number_in, values_in}
use Rattle.layout.specs.Code.{accepted, code_of, words_of}

same_bit : (b : Bool) → bool_byte b ≡ flag b
same_bit true = refl
same_bit false = refl

-- the code of a refusal is its number
pub number-said : (a : Answer) (n : ℕ) → number_in a ≡ n ∷ [] → code_of a ≡ n
unfolding number_in code_of
number-said (Refused k) n e = cc
number-said (Accepted f t) n e = let z : ◌≡◌ {A = ℕ} 0 1 = cc in absurd (omega arith)
number-said (Ticked f t) n e = let z : ◌≡◌ {A = ℕ} 0 1 = cc in absurd (omega arith)
number-said (Stretched f t) n e = let z : ◌≡◌ {A = ℕ} 0 1 = cc in absurd (omega arith)
number-said Good n e = let z : ◌≡◌ {A = ℕ} 0 1 = cc in absurd (omega arith)
number-said Failed n e = let z : ◌≡◌ {A = ℕ} 0 1 = cc in absurd (omega arith)

-- the words are the values; but a delivery has no words, and its one value, whether it is good, is told by the code
pub values-said :
    (a : Answer) →
    (words_of a ≡ values_in a) ⊎ ((words_of a ≡ []) × (values_in a ≡ flag (eqb (code_of a) accepted) ∷ []))
unfolding words_of values_in code_of
values-said (Refused n) = inl refl
values-said (Accepted f t) = inl (rw (same_bit f, same_bit t))
values-said (Ticked f t) =
    inl (rw (same_bit f.started, same_bit f.failed, same_bit t.started, same_bit t.failed))
values-said (Stretched f t) = inl refl
values-said Good = inr (refl, refl)
values-said Failed = inr (refl, refl)
