-- `evaluation::limit::open_from` meets its contract.
use Rattle.unit.proofs.Tests.{tests}
use Rattle.hit.specs.Limit.{open_from}
use borrow.Author.Rules.{rules}
use Rattle.evaluation.proofs.limit.open_from.Goals as goal

pub returns : goal.returns
unfolding open_from
returns c = search (rules, tests)
