-- `checker::close::judged` meets its contract.
-- Assumes nothing.
use mathlib.Core.Path.{refl}
use borrow.Author.Tests.{eq-eqb, ne_eqb}
use Rattle.item_checks.specs.Close.{is_announced, judged_log, expected_from}
use Rattle.checker.proofs.close.judged.Goals as goal

pub returns-then-expected-eq0 : goal.returns-then-expected-eq0
unfolding is_announced judged_log expected_from
returns-then-expected-eq0 c = rw (eq-eqb _ 0 c.if-expected-eq0.true) (refl, refl)

pub returns-then-counts : goal.returns-then-counts
unfolding is_announced judged_log expected_from
returns-then-counts c = rw (ne_eqb _ 0 c.if-expected-eq0.false, ne_eqb _ _ c.if-counts.true) (refl, refl)

pub returns : goal.returns
unfolding is_announced judged_log expected_from
returns c = rw (ne_eqb _ 0 c.if-expected-eq0.false, eq-eqb _ _ c.if-counts.false, ← c.bytes_from.ensures) c.judge.ensures
