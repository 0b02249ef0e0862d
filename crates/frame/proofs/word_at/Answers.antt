-- `frame::word_at` meets its contract.
use borrow.Author.Rules.{rules}
use Rattle.unit.proofs.Tests.{tests}
use Rattle.frame.specs.Frame.{word_at}
use Rattle.frame.proofs.word_at.Goals as goal

pub returns : goal.returns
unfolding word_at
returns c = search (rules, tests)
