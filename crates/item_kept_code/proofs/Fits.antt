-- Differences each of which has 32 bits, and an item with such a record. Assumes nothing.
use Prim.Native.Nat.{ℕ, zero, suc, ◌+◌, ◌≤◌, ◌<◌}
use native.Mathlib.Omega.{arith}
use mathlib.Core.List.{List, [], ◌∷◌}
use mathlib.Core.Bool.{true}
use mathlib.Core.Path.{◌≡◌, sym, subst}
use lib.IntN.{ℤ, pos, nat_abs}
use lib.ListN.{length, take, get_or, length-take}
use Rattle.unit.proofs.Cases.{by_eqb}
use Rattle.device.specs.Model.{is_sound}
use Rattle.item_line.specs.OwnBounds.{Quanta}
use Rattle.item_answer.specs.declared.Carried.{Carried}
use Rattle.item_answer.specs.OwnView.{item_of}
use Rattle.item_answer.specs.OwnKept.{Kept}

-- the first n of them
abbrev pub Small : List ℤ → ℕ → Type 0
Small ds n = (k : ℕ) → k < n → nat_abs (get_or ds k (pos 0)) ≤ 2147483648

pub none-small : (ds : List ℤ) → Small ds 0
none-small ds k h = absurd (omega arith)

pub next_small : (ds : List ℤ) (n : ℕ) → Small ds n → nat_abs (get_or ds n (pos 0)) ≤ 2147483648 → Small ds (n + 1)
next_small ds n s h k l =
    by_eqb k n (λ e f. subst (λ (j : ℕ). nat_abs (get_or ds j (pos 0)) ≤ 2147483648) (sym e) h) (λ e f. s k (omega (arith, e)))

pub quanta : (ds : List ℤ) → Small ds (length ds) → (n : ℕ) → Quanta (take n ds)
quanta ds s zero = Quanta.none
quanta [] s (suc n) = Quanta.none
quanta (d ∷ ds) s (suc n) = Quanta.more (s 0 (omega arith)) (quanta ds (λ k h. s (suc k) (omega arith)) n)

pub kept : (c : Carried) (flash : List ℕ) (ds : List ℤ) (ps : List ℕ) → ((n : ℕ) → Quanta (take n ds)) →
    is_sound c.model ≡ true → c.recorded ≤ 4096 → c.probes ≤ 1024 → Kept (item_of c flash ds ps)
unfolding item_of
kept c flash ds ps q s d p = record {
  sound = s;
  recorded = omega (arith, length-take c.recorded ds);
  quanta = q c.recorded;
  probes = omega (arith, length-take c.probes ps);
}
