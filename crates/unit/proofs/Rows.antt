-- A table's rows: all compared with a rule by one computed test, and what stands past the last.
use Prim.Native.Nat.{ℕ, zero, suc, ◌-◌, ◌≤◌, ◌<◌}
use mathlib.Core.Path.{◌≡◌, sym}
use native.Mathlib.Omega.{arith}
use mathlib.Core.Bool.{Bool, true}
use mathlib.Core.List.{List}
use lib.ListN.{length, get_or, get_or-eq_default}
use lib.Dec.{eqb}
use borrow.Author.Tests.{eqb-true}
use Rattle.unit.specs.Choice.{both}
use Rattle.unit.proofs.Cases.{by_eqb}
use Rattle.unit.proofs.Joined.{both_true}

-- the rows and the rule give the same at each value below n
abbrev pub agree : (ℕ → ℕ) → (ℕ → ℕ) → ℕ → Bool
agree rows rule zero = true
agree rows rule (suc n) = both (eqb (rows n) (rule n)) (agree rows rule n)

pub agree_at : (rows rule : ℕ → ℕ) (n : ℕ) → agree rows rule n ≡ true → (k : ℕ) → k < n → rows k ≡ rule k
agree_at f g zero e k h = absurd (omega arith)
agree_at f g (suc n) e k h =
    let (here, below) = both_true (eqb (f n) (g n)) (agree f g n) e in
    by_eqb k n
    (λ i t. rw i (eqb-true (f n) (g n) here))
    (λ i t. agree_at f g n below k (omega arith))

-- a table that is read past its last row gives that row
pub past-last :
    (rows : List ℕ) (last k : ℕ) →
    get_or rows (length rows - 1) last ≡ last →
    length rows - 1 ≤ k →
    last ≡ get_or rows k last
past-last rows last k e h =
    by_eqb k (length rows - 1)
    (λ i t. rw i (sym e))
    (λ i t. sym (get_or-eq_default rows last (omega arith)))

-- no arm from 0 to n - 1 of a `match` on k was taken, as the proof of its last arm has it
abbrev pub Untaken : ℕ → ℕ → Type 0
Untaken zero k = Unit
Untaken (suc n) k = Untaken n k × (k ≡ n → ⊥)

pub untaken-from : (n k : ℕ) → Untaken n k → n ≤ k
untaken-from zero k u = omega arith
untaken-from (suc n) k u = omega (arith, untaken-from n k u.0, u.1)
