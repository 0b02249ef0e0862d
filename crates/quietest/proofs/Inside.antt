-- The place that the search answers lies within the list. Assumes nothing.
use Prim.Native.Nat.{ℕ, zero, suc, ◌+◌, ◌-◌, ◌≤◌, ◌<◌}
use native.Mathlib.Omega.{arith}
use mathlib.Core.Path.{◌≡◌, sym, ap, ◌∙◌}
use mathlib.Core.Logic.{◌⊎◌, inl, inr, ⊎_elim}
use mathlib.Core.List.{List, [], ◌∷◌}
use lib.IntN.{ℤ}
use lib.Signed.{lt_z}
use lib.ListN.{length}
use Rattle.unit.proofs.Cases.{by-test, by-ltb, by_eqb}
use Rattle.quietest.specs.Quietest.{spread, quieter, quietest_place}
use Rattle.std.specs.Prelude.{Result, Ok, Err}
use Rattle.refusal.specs.declared.Refusal.{Refusal}
use Rattle.refusal.specs.Number.{number, number_told, values_told, value_told}

pub quieter-within : (values : List ℤ) (w s from n end : ℕ) → s ≤ end → from + n ≤ end + 1 → quieter values w s from n ≤ end
unfolding quieter
quieter-within values w s from zero end h k = h
quieter-within values w s from (suc n) end h k =
    by-test (lt_z (spread values (from + n) w) (spread values (quieter values w s from n) w))
    (λ e. rw e (omega arith))
    (λ e. rw e (quieter-within values w s from n end h (omega arith)))

-- the three cases of the answer

pub refused-zero : (values : List ℤ) (w : ℕ) → w ≡ 0 → quietest_place values w ≡ Err Refusal.Width
unfolding quietest_place
refused-zero values w e = rw e

pub refused-long : (values : List ℤ) (w : ℕ) → length values < w → quietest_place values w ≡ Err Refusal.Width
unfolding quietest_place
refused-long values w h = by_eqb w 0 (λ e t. rw t) (λ e t. by-ltb (length values) w (λ l u. rw (t, u)) (λ l u. absurd (omega arith)))

pub accepted : (values : List ℤ) (w : ℕ) → 1 ≤ w → w ≤ length values → quietest_place values w ≡ Ok (quieter values w 0 1 (length values - w))
unfolding quietest_place
accepted values w h k =
    by_eqb w 0 (λ e t. absurd (omega arith)) (λ e t. by-ltb (length values) w (λ l u. absurd (omega arith)) (λ l u. rw (t, u)))

pub by_width : {G : Type 0} (values : List ℤ) (w : ℕ)
    → ((w ≡ 0) ⊎ (length values < w) → quietest_place values w ≡ Err Refusal.Width → G)
    → (1 ≤ w → w ≤ length values → quietest_place values w ≡ Ok (quieter values w 0 1 (length values - w)) → G)
    → G
by_width values w f g =
    by_eqb w 0 (λ z t. f (inl z) (refused-zero values w z))
    (λ z t. by-ltb (length values) w (λ l u. f (inr l) (refused-long values w l)) (λ l u. g (omega arith) l (accepted values w (omega arith) l)))

pub not-refused : {A : Type 0} {n w : ℕ} → 1 ≤ w → w ≤ n → (w ≡ 0) ⊎ (n < w) → A
not-refused h k o = absurd (⊎_elim (λ z. omega arith) (λ l. omega arith) o)

pub apart : {A : Type 0} {s : ℕ} {r : Refusal} → ◌≡◌ {A = Result ℕ Refusal} (Ok s) (Err r) → A
apart e = let z : ◌≡◌ {A = ℕ} 0 1 = cc in absurd (omega arith)

pub none : {A : Type 0} {n : ℕ} → [] ≡ n ∷ [] → A
none e = let z : ◌≡◌ {A = ℕ} 0 1 = ap length e in absurd (omega arith)

pub same_start : {s t : ℕ} → ◌≡◌ {A = Result ℕ Refusal} (Ok s) (Ok t) → s ≡ t
same_start e = cc

pub place-within : (values : List ℤ) (w s : ℕ) → quietest_place values w ≡ Ok s → s + w ≤ length values
place-within values w s e =
    by_width values w (λ o r. apart (sym e ∙ r))
    (λ h k r.
    let d : s ≡ quieter values w 0 1 (length values - w) = same_start (sym e ∙ r) in
    omega (arith, quieter-within values w 0 1 (length values - w) (length values - w) (omega arith) (omega arith)))
