-- `setup::port_cycle` meets its contract.
use Rattle.unit.proofs.Tests.{tests}
use Rattle.setup.specs.Setup.{port_cycle}
use borrow.Author.Rules.{rules}
use Rattle.setup.proofs.port_cycle.Goals as goal

pub returns : goal.returns
unfolding port_cycle
returns c = search (rules, tests)
