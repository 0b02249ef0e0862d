-- The quietest run, as a part of the record. Assumes nothing.
use Prim.Native.Nat.{ℕ, ◌+◌, ◌-◌, ◌≤◌}
use mathlib.Core.List.{List}
use mathlib.Core.Path.{◌≡◌, sym, ap, ◌∙◌}
use native.Mathlib.Omega.{arith}
use lib.IntN.{ℤ, nat_abs}
use lib.ListN.{length, take, drop}
use Rattle.quietest.specs.Quietest.{quietest_place, spread, run_spread}
use Rattle.quietest.proofs.Inside.{by_width, apart, place-within}
use Rattle.quietest.proofs.Meaning.{printed-spread}
use Rattle.refusal.specs.declared.Refusal.{Refusal}
use Rattle.std.specs.Prelude.{Result, Ok}

pub place_same : {p r s : Result ℕ Refusal} → r ≡ p → r ≡ s → p ≡ s
place_same same is = sym same ∙ is

module _ (values : List ℤ) (w : ℕ) {r : Result ℕ Refusal} {start : ℕ} (same : r ≡ quietest_place values w) (is : r ≡ Ok start) where
  pub place-fits : start + w ≤ length values
  place-fits = place-within values w start (place_same same is)

  -- what is printed is the spread that the run was chosen by
  pub run-printed : {n : ℕ} → n ≡ run_spread (take (start + w - start) (drop start values)) → n ≡ nat_abs (spread values start w)
  run-printed {n} e =
      let size : start + w - start ≡ w = omega arith in
      by_width values w (λ o refused. apart (sym (place_same same is) ∙ refused))
      (λ some few found. rw size at e ∙ ap nat_abs (printed-spread values start w some place-fits))
