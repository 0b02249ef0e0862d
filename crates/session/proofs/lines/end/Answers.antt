-- `session::lines::end` meets its contract.
-- Assumes nothing.
use borrow.Author.Tests.{eq-eqb, ne_eqb}
use Rattle.session.specs.Line.{line_ended}
use Rattle.session.proofs.lines.end.Goals as goal

pub returns-then-counts-ne0 : goal.returns-then-counts-ne0
unfolding line_ended
returns-then-counts-ne0 c = rw (← c.shorten.ensures, ne_eqb _ 0 c.if-counts-ne0.true)

pub returns : goal.returns
unfolding line_ended
returns c = rw (← c.shorten.ensures, eq-eqb _ 0 c.if-counts-ne0.false) c.close.ensures
