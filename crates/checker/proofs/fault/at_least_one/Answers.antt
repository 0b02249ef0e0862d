-- `checker::fault::at_least_one` meets its contract.
-- Assumes nothing.
use borrow.Author.Tests.{eq-eqb, ne_eqb}
use Rattle.item_checks.specs.Fault.{at_least_one}
use Rattle.checker.proofs.fault.at_least_one.Goals as goal

pub returns-then-n-eq0 : goal.returns-then-n-eq0
unfolding at_least_one
returns-then-n-eq0 c = rw (eq-eqb _ 0 c.if-n-eq0.true)

pub returns-else-n-eq0 : goal.returns-else-n-eq0
unfolding at_least_one
returns-else-n-eq0 c = rw (ne_eqb _ 0 c.if-n-eq0.false)
