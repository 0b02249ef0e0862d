-- `numeral::read::read_signed` meets its contract.
-- Assumes nothing.
use Rattle.std.proofs.Common.{◌≡◌, ℕ, suc, ◌+◌, ◌-◌, ◌%◌, ◌^◌, ◌<◌, List, [], ◌∷◌, Bool, true, false, ◌&&◌, eqb, length, take, drop, refl, sym, ◌∙◌, arith}
use Rattle.std.specs.Prelude.{Some}
use Rattle.std.specs.Cmp.Lexicographic.{pointwise}
use borrow.Author.Tests.{le-ltb}
use Rattle.numeral.specs.Read.{negated, read_decimal, read_signed}
use Rattle.numeral.proofs.read.read_signed.Goals as goal

minus : (s : List ℕ) → pointwise eqb (take 1 s) (45 ∷ []) ≡ true → read_signed s ≡ negated (read_decimal 2147483648 (drop 1 s))
unfolding read_signed
minus [] e = cc
minus (c ∷ cs) e = go (eqb c 45) refl e
  where
    go : (b : Bool) → eqb c 45 ≡ b → b && true ≡ true → read_signed (c ∷ cs) ≡ negated (read_decimal 2147483648 cs)
    go true p h = rw (le-ltb (suc (length cs)) 1 (omega arith), p)
    go false p h = cc

plain : (s : List ℕ) → pointwise eqb (take 1 s) (45 ∷ []) ≡ false → read_signed s ≡ read_decimal 2147483647 s
unfolding read_signed read_decimal
plain [] e = refl
plain (c ∷ cs) e = go (eqb c 45) refl e
  where
    go : (b : Bool) → eqb c 45 ≡ b → b && true ≡ false → read_signed (c ∷ cs) ≡ read_decimal 2147483647 (c ∷ cs)
    go true p h = cc
    go false p h = rw (le-ltb (suc (length cs)) 1 (omega arith), p)

opposite : (r v : ℕ) → v < 2 ^ 32 → r < 2 ^ 32 → (r + v) % 2 ^ 32 ≡ 0 → Some r ≡ Some ((4294967296 - v) % 4294967296)
opposite r v small fits h = let e : r ≡ (4294967296 - v) % 4294967296 = omega arith in rw e

pub returns-in_err-read_decimal-in-Some : goal.returns-in_err-read_decimal-in-Some
unfolding negated
returns-in_err-read_decimal-in-Some c =
    let e = c.in-Some.ensures.cases in
    rw (c.from_residual.ensures, minus _ e.0, ← e.1, ← c.read_decimal.ensures, c.in_err-read_decimal-in-Some.was)

pub returns-in_ok-read_decimal-in-Some : goal.returns-in_ok-read_decimal-in-Some
unfolding negated
returns-in_ok-read_decimal-in-Some c =
    let e = c.in-Some.ensures.cases in
    rw (minus _ e.0, ← e.1, ← c.read_decimal.ensures, c.in_ok-read_decimal-in-Some.was) (opposite _ _ (omega arith) (omega arith) c.wrapping_neg.ensures)

pub returns-in-None : goal.returns-in-None
returns-in-None c = c.read_decimal-in-None.ensures ∙ sym (plain _ c.in-None.ensures.cases)
