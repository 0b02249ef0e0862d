-- `evaluation::words::failed_ports` meets its contract.
use borrow.Author.Rules.{rules}
use Rattle.unit.proofs.Tests.{tests}
use Rattle.hit.specs.Words.{failed_ports}
use Rattle.evaluation.proofs.words.failed_ports.Goals as goal

pub returns : goal.returns
unfolding failed_ports
returns c = search (rules, tests)
