-- `ticking::tick::tick_status` meets its contract.
use borrow.Author.Rules.{rules}
use Rattle.unit.proofs.Tests.{tests}
use Rattle.device.specs.Tick.{tick_status}
use Rattle.ticking.proofs.tick.tick_status.Goals as goal

pub returns : goal.returns
unfolding tick_status
returns c = search (rules, tests)
