-- What is returned, in plain numbers: the code of an answer's number, and its values. Assumes nothing.
use Prim.Native.Nat.{ℕ}
use mathlib.Core.List.{List, [], ◌∷◌}
use mathlib.Core.Path.{◌≡◌, refl}
use lib.IntN.{ℤ, pos, negsuc}
use Rattle.std.specs.Prelude.{Result, Ok, Err}
use Rattle.refusal.specs.declared.Refusal.{Refusal}
use Rattle.refusal.specs.Number.{number_told, value_told}
use Rattle.setup_frames.specs.declared.put.Counts.{Counts}
use Rattle.setup_frames.specs.Frames.{values_framed}
use Rattle.layout.specs.Code.{code_in}
use Rattle.finding.specs.Finding.{place_run}

-- the code and the values of an answer of one number
abbrev Told : Result ℕ Refusal → ℕ → List ℕ → Type 0
Told answer code values = (code_in (number_told answer) ≡ code) × (value_told answer ≡ values)

question-told : Told (Ok 7) 0xFFFFFFFF (7 ∷ []) × Told (Err Refusal.Address) 4 []
question-told = ((refl, refl), (refl, refl))

degrees-told : Told (Ok 21500) 0xFFFFFFFF (21500 ∷ []) × Told (Err Refusal.BadTable) 14 []
degrees-told = ((refl, refl), (refl, refl))

place-told : Told (Ok 3) 0xFFFFFFFF (3 ∷ []) × Told (Err Refusal.Width) 18 []
place-told = ((refl, refl), (refl, refl))

-- the run of two values from the second on
run-told : (place_run (Ok 1) (pos 5 ∷ negsuc 0 ∷ pos 7 ∷ pos 9 ∷ []) 2 ≡ negsuc 0 ∷ pos 7 ∷ []) × (place_run (Err Refusal.Width) (pos 5 ∷ []) 2 ≡ [])
unfolding place_run
run-told = (refl, refl)

listing-told : Told (Ok 46) 0xFFFFFFFF (46 ∷ []) × Told (Err Refusal.ShortListing) 21 []
listing-told = ((refl, refl), (refl, refl))

-- bytes, then frames
abbrev counts : Counts
counts = record { bytes = 9; frames = 2 }

frames-told : (code_in (number_told (Ok counts)) ≡ 0xFFFFFFFF) × (values_framed (Ok counts) ≡ 9 ∷ 2 ∷ [])
    × (code_in (number_told {A = Counts} (Err Refusal.ShortBuffer)) ≡ 19) × (values_framed (Err Refusal.ShortBuffer) ≡ [])
frames-told = (refl, refl, refl, refl)
