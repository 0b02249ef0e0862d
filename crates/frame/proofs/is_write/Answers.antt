-- `frame::is_write` meets its contract.
use borrow.Author.Rules.{rules}
use Rattle.unit.proofs.Tests.{tests}
use Rattle.frame.specs.Frame.{is_write}
use Rattle.frame.proofs.is_write.Goals as goal

pub returns : goal.returns
unfolding is_write
returns c = search (rules, tests)
