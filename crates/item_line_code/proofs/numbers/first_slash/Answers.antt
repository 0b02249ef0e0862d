-- `item_line_code::numbers::first_slash` meets its contract.
-- Assumes nothing.
use borrow.Author.Tests.{eq-eqb, ne_eqb}
use Rattle.item_line_code.proofs.numbers.first_slash.Goals as goal

pub returns-then-slashes-eq0 : goal.returns-then-slashes-eq0
returns-then-slashes-eq0 c = rw (eq-eqb _ _ c.if-slashes-eq0.true)

pub returns-else-slashes-eq0 : goal.returns-else-slashes-eq0
returns-else-slashes-eq0 c = rw (ne_eqb _ _ c.if-slashes-eq0.false)
