-- `show::times::failed` meets its contract.
-- Assumes nothing.
use borrow.Author.Tests.{eq-eqb, ne_eqb}
use Rattle.show.proofs.times.failed.Goals as goal

pub returns-then-up-eq-BLANKED : goal.returns-then-up-eq-BLANKED
returns-then-up-eq-BLANKED c = rw (eq-eqb _ _ c.if-up-eq-BLANKED.true)

pub returns : goal.returns
returns c = rw (ne_eqb _ _ c.if-up-eq-BLANKED.false)
