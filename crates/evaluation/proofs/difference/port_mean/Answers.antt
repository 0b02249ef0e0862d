-- `evaluation::difference::port_mean` meets its contract.
use Rattle.unit.proofs.Tests.{tests}
use Rattle.hit.specs.Difference.{port_mean}
use borrow.Author.Rules.{rules}
use Rattle.evaluation.proofs.difference.port_mean.Goals as goal

pub returns-then-n-eq0 : goal.returns-then-n-eq0
unfolding port_mean
returns-then-n-eq0 c = search (rules, tests)

pub returns : goal.returns
unfolding port_mean
returns c = search (rules, tests)
