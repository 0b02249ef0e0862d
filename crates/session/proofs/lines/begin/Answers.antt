-- `session::lines::begin` meets its contract.
-- Assumes nothing.
use borrow.Author.Tests.{eq-eqb, ne_eqb}
use Rattle.session.specs.Line.{line_begun}
use Rattle.session.proofs.lines.begin.Goals as goal

pub returns-then-counts-ne0 : goal.returns-then-counts-ne0
unfolding line_begun
returns-then-counts-ne0 c = (λ bounded. bounded, rw (ne_eqb _ 0 c.if-counts-ne0.true))

pub returns : goal.returns
unfolding line_begun
returns c = (c.before.before.before.before.«open».ensures.0, rw (eq-eqb _ 0 c.if-counts-ne0.false) c.before.before.before.before.«open».ensures.1)
