-- `show::state::takes_two` meets its contract.
-- Assumes nothing.
use borrow.Author.Tests.{eq-eqb, ne_eqb}
use Rattle.page.specs.Results.{takes_two}
use Rattle.show.proofs.state.takes_two.Goals as goal

pub returns-then-w-eq0 : goal.returns-then-w-eq0
unfolding takes_two
returns-then-w-eq0 c = rw (eq-eqb _ _ c.if-w-eq0.true)

pub returns : goal.returns
unfolding takes_two
returns c = rw (ne_eqb _ _ c.if-w-eq0.false)
