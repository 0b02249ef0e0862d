-- What a call returns, in plain numbers. Assumes nothing.
use Prim.Native.Nat.{ℕ}
use mathlib.Core.Bool.{true, false}
use mathlib.Core.List.{List, [], ◌∷◌}
use mathlib.Core.Path.{◌≡◌, refl}
use lib.ListN.{length, replicate}
use Rattle.unit.specs.Choice.{pick}
use Rattle.device.specs.declared.Model.{Model}
use Rattle.device.specs.declared.Answer.{Answer}
use Rattle.layout.specs.Layout.{stored}
use Rattle.layout.specs.Code.{code_of, words_of, filled, Gives, kept, model_after}
use Rattle.refusal.specs.declared.Refusal.{Refusal}

codes : (code_of (Answer.Refused Refusal.Busy) ≡ 6) × (code_of (Answer.Accepted true false) ≡ 0xFFFFFFFF) × (code_of Answer.Good ≡ 0xFFFFFFFF)
    × (code_of Answer.Failed ≡ 0xFFFFFFFE)
unfolding code_of
codes = (refl, refl, refl, refl)

-- flight started, temperature not
started : words_of (Answer.Accepted true false) ≡ 1 ∷ 0 ∷ []
unfolding words_of
started = refl

-- Flight started, and temperature failed.
ticked : words_of (Answer.Ticked record { started = true; failed = false } record { started = false; failed = true }) ≡ 1 ∷ 0 ∷ 0 ∷ 1 ∷ []
unfolding words_of
ticked = refl

-- by the ticks of a stretch
stretched : words_of (Answer.Stretched record { started = record { 0 = 5 }; failed = record { 0 = 0 } } record { started = record { 0 = 7 }; failed = record { 0 = 6 } }) ≡ 5 ∷ 0 ∷ 7 ∷ 6 ∷ []
unfolding words_of
stretched = refl

-- A buffer of three places has the first three words, one of five keeps its last.
first-words : (filled {A = ℕ} (9 ∷ 9 ∷ 9 ∷ []) (5 ∷ 0 ∷ 7 ∷ 6 ∷ []) ≡ 5 ∷ 0 ∷ 7 ∷ []) × (filled {A = ℕ} (9 ∷ 9 ∷ 9 ∷ 9 ∷ 9 ∷ []) (5 ∷ 0 ∷ 7 ∷ 6 ∷ []) ≡ 5 ∷ 0 ∷ 7 ∷ 6 ∷ 9 ∷ [])
first-words = (refl, refl)

-- A model goes into 233 bytes, and into no other number of them; a refusal leaves them.
bytes_after : (m : Model) → (model_after Answer.Failed m (replicate 233 0) ≡ stored m) × (model_after Answer.Failed m (replicate 232 7) ≡ replicate 232 7)
    × (model_after (Answer.Refused Refusal.Busy) m (replicate 233 0) ≡ replicate 233 0)
unfolding model_after kept
bytes_after m = (refl, refl, refl)

-- A question's or an analysis's answer of 7, and its refusal with number 4, in a buffer of one place.
answer-given : {code : ℕ} {words : List ℕ} → Gives {A = ℕ} (λ n. []) (λ n. n ∷ []) 7 (9 ∷ []) code words → (code ≡ 0xFFFFFFFF) × (words ≡ 7 ∷ [])
answer-given g = (g.coded, g.worded)

refusal-given : {code : ℕ} {words : List ℕ} → Gives {A = ℕ} (λ n. n ∷ []) (λ n. []) 4 (9 ∷ []) code words → (code ≡ 4) × (words ≡ 9 ∷ [])
refusal-given g = (g.coded, g.worded)
