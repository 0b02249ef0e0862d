-- `evaluation::words::filled` meets its contract.
use Rattle.unit.proofs.Tests.{tests}
use Rattle.hit.specs.Words.{filled}
use borrow.Author.Rules.{rules}
use Rattle.evaluation.proofs.words.filled.Goals as goal

pub returns : goal.returns
unfolding filled
returns c = search (rules, tests)
