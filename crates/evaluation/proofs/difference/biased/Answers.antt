-- `evaluation::difference::biased` meets its contract.
use Rattle.unit.proofs.Tests.{tests}
use Rattle.hit.specs.Difference.{biased}
use borrow.Author.Rules.{rules}
use Rattle.evaluation.proofs.difference.biased.Goals as goal

pub returns : goal.returns
unfolding biased
returns c = search (rules, tests)
