-- `line_reader::calls::content_length` meets its contract.
-- Assumes nothing.
use Prim.Native.Nat.{ℕ, ◌-◌, ◌≤◌}
use mathlib.Core.List.{List}
use native.Mathlib.Omega.{arith}
use lib.ListN.{length, get_or-eq_default}
use borrow.Author.Tests.{eq-eqb, ne_eqb}
use Rattle.line.specs.Line.{content_length}
use Rattle.line_reader.proofs.calls.content_length.Goals as goal

pub returns-then-n-lt1 : goal.returns-then-n-lt1
unfolding content_length
returns-then-n-lt1 c =
    let l : List ℕ = c.args.line.now in
    let past : length l ≤ length l - 1 = omega arith in
    (rw (get_or-eq_default l 0 past) (omega arith), omega arith)

pub returns-then-line-n-eq13 : goal.returns-then-line-n-eq13
unfolding content_length
returns-then-line-n-eq13 c = (rw (eq-eqb _ _ c.if-line-n-eq13.true), omega arith)

pub returns-else-line-n-eq13 : goal.returns-else-line-n-eq13
unfolding content_length
returns-else-line-n-eq13 c = (rw (ne_eqb _ _ c.if-line-n-eq13.false), omega arith)
