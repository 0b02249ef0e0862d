-- `checker::close::count_unannounced` meets its contract.
-- Assumes nothing.
use borrow.Author.Tests.{eq-eqb, ne_eqb}
use Rattle.item_state.specs.Log.{added}
use Rattle.item_checks.specs.Close.{refusal_counted}
use Rattle.checker.proofs.close.count_unannounced.Goals as goal

pub returns-then-announced : goal.returns-then-announced
unfolding refusal_counted
returns-then-announced c = rw c.if-announced.true

pub returns-then-counts : goal.returns-then-counts
unfolding refusal_counted
returns-then-counts c = rw (c.if-announced.false, eq-eqb _ _ c.if-counts.true)

pub returns : goal.returns
unfolding refusal_counted added
returns c = rw (c.if-announced.false, ne_eqb _ _ c.if-counts.false, ← c.more.ensures)
