-- `setup::flight_unset` meets its contract.
use borrow.Author.Rules.{rules}
use Rattle.unit.proofs.Tests.{tests}
use Rattle.setup.specs.Setup.{flight_unset}
use Rattle.setup.proofs.flight_unset.Goals as goal

pub returns-then-w-eq0 : goal.returns-then-w-eq0
unfolding flight_unset
returns-then-w-eq0 c = search (rules, tests)

pub returns-else-w-eq0 : goal.returns-else-w-eq0
unfolding flight_unset
returns-else-w-eq0 c = search (rules, tests)
