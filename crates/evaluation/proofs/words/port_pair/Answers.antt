-- `evaluation::words::port_pair` meets its contract.
use borrow.Author.Rules.{rules}
use Rattle.unit.proofs.Tests.{tests}
use Rattle.hit.specs.Words.{port_pair}
use Rattle.evaluation.proofs.words.port_pair.Goals as goal

pub returns-then-limit-quanta : goal.returns-then-limit-quanta
unfolding port_pair
returns-then-limit-quanta c = search (rules, tests)

pub returns-then-quanta-short : goal.returns-then-quanta-short
unfolding port_pair
returns-then-quanta-short c = search (rules, tests)

pub returns-else-quanta-short : goal.returns-else-quanta-short
unfolding port_pair
returns-else-quanta-short c = search (rules, tests)
