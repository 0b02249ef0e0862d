-- `ticking::tick::tick_rings` meets its contract.
use borrow.Author.Rules.{rules}
use Rattle.unit.proofs.Tests.{tests}
use Rattle.device.specs.Tick.{tick_rings}
use Rattle.ticking.proofs.tick.tick_rings.Goals as goal

pub returns : goal.returns
unfolding tick_rings
returns c = search (rules, tests)
