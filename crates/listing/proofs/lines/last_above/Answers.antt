-- `listing::lines::last_above` meets its contract.
-- Assumes nothing.
use mathlib.Core.Path.{sym}
use native.Mathlib.Omega.{arith}
use Rattle.listing.proofs.Capture.{above-none, above-first, above-tested}
use Rattle.listing.proofs.lines.last_above.Goals as goal

pub returns-then-count-eq0 : goal.returns-then-count-eq0
returns-then-count-eq0 c = rw c.if-count-eq0.true (sym (above-none _ _))

pub returns-then-numbers-first : goal.returns-then-numbers-first
returns-then-numbers-first c = sym (above-first _ _ _ (omega arith) (rw (← c.numbers_of-numbers.ensures.0, ← c.from-first.ensures) c.if-numbers-first.true))

pub returns : goal.returns
returns c =
    let numbers = c.numbers_of-numbers.ensures.0 in
    let first = c.from-first.ensures in
    rw (numbers, first) (above-tested _ _ _ (omega arith) (rw (← numbers, ← first) c.if-numbers-first.false))
