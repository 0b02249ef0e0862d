-- `snapshot::is_formed` meets its contract.
use borrow.Author.Tests.{eq-eqb, ne_eqb}
use Rattle.layout.specs.Layout.{formed}
use Rattle.snapshot.proofs.is_formed.Goals as goal

pub returns-then-bytes-eq1 : goal.returns-then-bytes-eq1
unfolding formed
returns-then-bytes-eq1 c =
    rw (eq-eqb _ _ c.if-bytes-eq233.true, eq-eqb _ _ c.if-bytes-eq1.true) c.flags_fit.ensures

pub returns-else-bytes-eq1 : goal.returns-else-bytes-eq1
unfolding formed
returns-else-bytes-eq1 c =
    rw (eq-eqb _ _ c.if-bytes-eq233.true, ne_eqb _ _ c.if-bytes-eq1.false)

pub returns-else-bytes-eq233 : goal.returns-else-bytes-eq233
unfolding formed
returns-else-bytes-eq233 c = rw (ne_eqb _ _ c.if-bytes-eq233.false)
