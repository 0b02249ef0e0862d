-- `item_page_code::run::starts_left` meets its contract. Assumes nothing.
use borrow.Author.Rules.{rules}
use Rattle.unit.proofs.Tests.{tests}
use Rattle.device.specs.Event.{starts_left}
use Rattle.item_page_code.proofs.run.starts_left.Goals as goal

pub returns-then-k : goal.returns-then-k
unfolding starts_left
returns-then-k c = search (rules, tests, c.if-k.true)

pub returns-else-k : goal.returns-else-k
unfolding starts_left
returns-else-k c = search (rules, tests, c.if-k.false)
