-- `outcome::keep` meets its contract.
use Rattle.layout.specs.Code.{kept}
use borrow.Author.Tests.{eq-eqb, ne_eqb}
use borrow.Author.Rules.{rules}
use Rattle.outcome.proofs.keep.Goals as goal

pub returns-then-bytes-eq233 : goal.returns-then-bytes-eq233
unfolding kept
returns-then-bytes-eq233 c = rw (eq-eqb _ _ c.if-bytes-eq233.true) c.store.ensures.0

pub returns-else-bytes-eq233 : goal.returns-else-bytes-eq233
unfolding kept
returns-else-bytes-eq233 c = rw (ne_eqb _ _ c.if-bytes-eq233.false)
