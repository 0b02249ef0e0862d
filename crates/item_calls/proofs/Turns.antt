-- Ticks in stretches, turn by turn. Assumes nothing.
use Prim.Native.Nat.{ℕ, zero, suc, ◌+◌, ◌-◌, ◌≤◌, ◌<◌, min}
use mathlib.Core.List.{List, [], ◌++◌}
use mathlib.Core.Path.{◌≡◌, refl, sym, ap, ◌∙◌}
use native.Mathlib.Omega.{arith}
use Rattle.unit.proofs.Cases.{by_eqb}
use Rattle.numeral.specs.Place.{Placed, put_each}
use Rattle.device.specs.declared.Model.{Model}
use Rattle.device.specs.declared.Reply.{Reply}
use Rattle.device.specs.Call.{Call}
use Rattle.device.specs.Reply.{reply}
use Rattle.wording.specs.Text.{PutEach}
use Rattle.wording.proofs.Each.{each-then}
use Rattle.item_calls.specs.Lines.{stretch_reports, onward, ticked}

-- As many turns as there are ticks are enough: more change nothing.
enough : (k j n before : ℕ) (m : Model) → n ≤ k → n ≤ j → ticked k n before m ≡ ticked j n before m
unfolding ticked
enough zero zero n before m p q = refl
enough zero (suc j) n before m p q = let none : n ≡ 0 = omega arith in rw none
enough (suc k) zero n before m p q = let none : n ≡ 0 = omega arith in rw none
enough (suc k) (suc j) n before m p q =
    let span = min n 16384 in
    let r = reply m (Call.stretch span) in
    by_eqb n 0 (λ _ e. rw e)
    (λ some e. rw e (ap (onward r before) (enough k j (n - span) (before + span) r.model (omega arith) (omega arith))))

-- The first stretch, and the ticks after it.
first : (n before : ℕ) (m : Model) → ¬ (n ≡ 0)
    → ticked n n before m
    ≡ onward (reply m (Call.stretch (min n 16384))) before
    (ticked (n - min n 16384) (n - min n 16384) (before + min n 16384) (reply m (Call.stretch (min n 16384))).model)
unfolding ticked
first zero before m some = absurd (some refl)
first (suc k) before m some =
    let span = min (suc k) 16384 in
    let r = reply m (Call.stretch span) in
    by_eqb (suc k) 0 (λ z _. absurd (some z))
    (λ _ e. rw e (ap (onward r before) (enough k (suc k - span) (suc k - span) (before + span) r.model (omega arith) (omega arith))))

-- A turn.
module _ (m : Model) (left before : ℕ) (some : 0 < left) {r : Reply} {span : ℕ} (long : span ≡ min left 16384)
    (reached : r ≡ reply m (Call.stretch span)) where
  there : ticked left left before m ≡ onward r before (ticked (left - span) (left - span) (before + span) r.model)
  there = rw (reached, long) (first left before m (λ z. omega arith))

  pub turn-model : {end : Model} → (ticked left left before m).model ≡ end → (ticked (left - span) (left - span) (before + span) r.model).model ≡ end
  unfolding onward
  turn-model e = rw there at e

  pub turn-texts : {l l' : List ℕ} {at place : ℕ} {end : Placed}
      → PutEach l at (stretch_reports r.answer before) place l'
      → put_each l at (ticked left left before m).texts ≡ end
      → put_each l' place (ticked (left - span) (left - span) (before + span) r.model).texts ≡ end
  unfolding onward
  turn-texts {l} {l'} {at} {place} {end} put e =
      let rest = (ticked (left - span) (left - span) (before + span) r.model).texts in
      let whole : put_each l at (stretch_reports r.answer before ++ rest) ≡ end = rw there at e in
      sym (each-then rest put) ∙ whole

-- No tick is left.
pub ticks-none : (left before : ℕ) (m : Model) → left ≤ 0 → ticked left left before m ≡ record { model = m; texts = [] }
unfolding ticked
ticks-none zero before m h = refl
ticks-none (suc k) before m h = absurd (omega arith)
