-- `evaluation::difference::difference_mean` meets its contract.
use Rattle.unit.proofs.Tests.{tests}
use Rattle.hit.proofs.Mean.{mean-unsigned}
use borrow.Author.Rules.{rules}
use Rattle.evaluation.proofs.difference.difference_mean.Goals as goal

pub returns-then-n-eq0 : goal.returns-then-n-eq0
returns-then-n-eq0 c = search (rules, tests, mean-unsigned)

pub returns : goal.returns
returns c = search (rules, tests, mean-unsigned)
