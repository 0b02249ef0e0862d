-- `evaluation::words::failed_pairs` meets its contract.
use borrow.Author.Rules.{rules}
use Rattle.unit.proofs.Tests.{tests}
use Rattle.hit.specs.Words.{failed_pairs}
use Rattle.evaluation.proofs.words.failed_pairs.Goals as goal

pub returns : goal.returns
unfolding failed_pairs
returns c = search (rules, tests)
