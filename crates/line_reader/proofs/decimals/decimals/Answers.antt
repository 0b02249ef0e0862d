-- `line_reader::decimals::decimals` meets its contract. The invariant: to go on from i comes to the same; the measure is what is left of the bytes.
-- Assumes nothing.
use mathlib.Core.Path.{refl, ◌∙◌}
use native.Mathlib.Omega.{arith}
use Rattle.line.proofs.WordLaws.{words-end}
use Rattle.line.specs.Decimals.{listed}
use Rattle.line_reader.proofs.decimals.decimals.Goals as goal

pub loop-i-init : goal.loop-i-init
loop-i-init c = (c.requires, omega arith, refl, refl)

pub returns-then-end-start : goal.returns-then-end-start
unfolding listed
returns-then-end-start c =
    let inv = c.loop-i.invariant in
    rw (c.next_word-word.ensures.none c.if-end-start.true) at inv.3

pub returns-in-None : goal.returns-in-None
unfolding listed
returns-in-None c =
    rw (c.next_word-word.ensures.some c.if-end-start.false, ← c.decimal_of.ensures, c.in-None.is) at c.loop-i.invariant.3

pub overflow_add-count : goal.overflow_add-count
overflow_add-count c = omega (arith, c.next_word-word.ensures.low, c.next_word-word.ensures.high, c.if-end-start.false, c.loop-i.invariant.1)

pub loop-i-smaller : goal.loop-i-smaller
loop-i-smaller c = omega (arith, c.next_word-word.ensures.low, c.next_word-word.ensures.high, c.if-end-start.false)

pub loop-i-preserved : goal.loop-i-preserved
unfolding listed
loop-i-preserved c =
    let n = c.next_word-word.ensures in
    let inv = c.loop-i.invariant in (
      n.high,
      omega (arith, n.low, c.if-end-start.false, inv.1),
      c.store.auto.numbers ∙ inv.2,
      rw c.store.ensures (rw (n.some c.if-end-start.false, ← c.decimal_of.ensures, c.in-Some.is) at inv.3),
    )

pub returns : goal.returns
unfolding listed
returns c = rw (words-end _ _ c.loop-i-test.false) at c.loop-i.invariant.3
