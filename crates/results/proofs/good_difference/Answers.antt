-- `results::good_difference` meets its contract.
use borrow.Author.Rules.{rules}
use Rattle.unit.proofs.Tests.{tests}
use Rattle.device.specs.Results.{good_difference}
use Rattle.results.proofs.good_difference.Goals as goal

pub returns-then-f-2 : goal.returns-then-f-2
unfolding good_difference
returns-then-f-2 c = search (rules, tests)

pub returns-else-f : goal.returns-else-f
unfolding good_difference
returns-else-f c = search (rules, tests)
