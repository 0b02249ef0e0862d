-- `show::date::hours` meets its contract.
-- Assumes nothing.
use borrow.Author.Rules.{rules}
use Rattle.page.specs.Clock.{hours}
use Rattle.show.proofs.date.hours.Goals as goal

pub returns-then-twelve_in : goal.returns-then-twelve_in
unfolding hours
returns-then-twelve_in c = rw (← c.twelve_in.ensures, c.if-twelve_in.true)

pub returns-else-twelve_in : goal.returns-else-twelve_in
unfolding hours
returns-else-twelve_in c = rw (← c.twelve_in.ensures, c.if-twelve_in.false)
