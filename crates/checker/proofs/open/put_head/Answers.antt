-- `checker::open::put_head` meets its contract.
-- Assumes nothing.
use borrow.Author.Tests.{eq-eqb, ne_eqb}
use Rattle.item_state.specs.Log.{said}
use Rattle.item_checks.specs.Open.{headed}
use Rattle.checker.proofs.open.put_head.Goals as goal

pub returns-then-counts-eq0 : goal.returns-then-counts-eq0
unfolding headed
returns-then-counts-eq0 c = rw (eq-eqb _ 0 c.if-counts-eq0.true)

pub returns : goal.returns
unfolding headed said
returns c = rw (ne_eqb _ 0 c.if-counts-eq0.false, ← c.trouble.ensures, ← c.first_bytes-file.ensures, ← c.put_place.ensures.next, ← c.put_place.ensures.bytes)
