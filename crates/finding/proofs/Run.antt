-- Copying a run: i values are copied, and one more, or there is no room for it.
use Prim.Native.Nat.{ℕ, suc, ◌+◌, ◌≤◌, ◌<◌}
use native.Mathlib.Numerals.{add-one}
use native.Mathlib.Omega.{arith}
use mathlib.Core.List.{List, [], ◌∷◌}
use mathlib.Core.Path.{◌≡◌, refl, sym, ap, ◌∙◌}
use lib.ListN.{length, get_or, set, take, drop, length-set, length-drop}
use lib.Seq.{sets, set_out, drop-cons, get_or-take, get_or-drop, length-take-le}

module _ {A : Type 0} where
  sets-past : (l vs : List A) (i : ℕ) → length l ≤ i → sets l i vs ≡ l
  sets-past l [] i h = refl
  sets-past l (v ∷ vs) i h =
      sets-past (set l i v) vs (suc i) (rw (length-set l i v) (omega arith)) ∙ set_out l i v h

  pub length_run : (values : List A) (start width : ℕ) → start + width ≤ length values → length (take width (drop start values)) ≡ width
  length_run values start width h = length-take-le width (drop start values) (rw length-drop (omega arith))

  pub run_more :
      (values begin run : List A) (start width i : ℕ) (d : A) →
      start + width ≤ length values →
      i < width →
      sets begin 0 (take width (drop start values)) ≡ sets run i (drop i (take width (drop start values))) →
      sets begin 0 (take width (drop start values))
      ≡ sets (set run i (get_or values (start + i) d)) (i + 1) (drop (i + 1) (take width (drop start values)))
  run_more values begin run start width i d h k so_far =
      let part : List A = take width (drop start values) in
      let e : length part ≡ width = length_run values start width h in
      let v : get_or part i d ≡ get_or values (start + i) d =
      get_or-take width (drop start values) i d k ∙ get_or-drop start values i d in
      so_far
      ∙ ap (sets run i) (drop-cons part i d (omega arith))
      ∙ rw (v, add-one i)

  pub run-full :
      (begin run part : List A) (i : ℕ) → length run ≤ i → sets begin 0 part ≡ sets run i (drop i part) → run ≡ sets begin 0 part
  run-full begin run part i h so_far = sym (so_far ∙ sets-past run (drop i part) i h)
