-- `frame::is_read` meets its contract.
use borrow.Author.Rules.{rules}
use Rattle.unit.proofs.Tests.{tests}
use Rattle.frame.specs.Frame.{is_read}
use Rattle.frame.proofs.is_read.Goals as goal

pub returns : goal.returns
unfolding is_read
returns c = search (rules, tests)
