-- `line_reader::calls::flight_of` meets its contract.
-- Assumes nothing.
use borrow.Author.Tests.{eq-eqb, ne_eqb, lt-ltb, le-ltb}
use Rattle.line.specs.Line.{flight_call}
use Rattle.line_reader.proofs.calls.flight_of.Goals as goal

pub returns-then-slashes-ne1 : goal.returns-then-slashes-ne1
unfolding flight_call
returns-then-slashes-ne1 c = rw (ne_eqb _ _ c.if-slashes-ne1.true)

pub returns-then-up-gt16 : goal.returns-then-up-gt16
unfolding flight_call
returns-then-up-gt16 c = rw (eq-eqb _ _ c.if-slashes-ne1.false, lt-ltb _ _ c.if-up-gt16.true)

pub returns-then-down-gt16 : goal.returns-then-down-gt16
unfolding flight_call
returns-then-down-gt16 c = rw (eq-eqb _ _ c.if-slashes-ne1.false, le-ltb _ _ c.if-up-gt16.false, ← c.saturating_sub-down.ensures, lt-ltb _ _ c.if-down-gt16.true)

pub returns : goal.returns
unfolding flight_call
returns c = rw (eq-eqb _ _ c.if-slashes-ne1.false, le-ltb _ _ c.if-up-gt16.false, ← c.saturating_sub-down.ensures, le-ltb _ _ c.if-down-gt16.false)
