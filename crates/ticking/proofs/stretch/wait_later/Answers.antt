-- `ticking::stretch::wait_later` meets its contract.
use borrow.Author.Rules.{rules}
use Rattle.unit.proofs.Tests.{tests}
use Rattle.ticking.proofs.stretch.wait_later.Goals as goal

pub returns-then-k-le1 : goal.returns-then-k-le1
returns-then-k-le1 c = search (rules, tests)

pub returns-else-k-le1 : goal.returns-else-k-le1
returns-else-k-le1 c = search (rules, tests)
