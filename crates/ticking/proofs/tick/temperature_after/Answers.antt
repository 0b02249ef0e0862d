-- `ticking::tick::temperature_after` meets its contract.
use borrow.Author.Rules.{rules}
use Rattle.unit.proofs.Tests.{tests}
use Rattle.device.specs.Tick.{temperature_after}
use Rattle.ticking.proofs.tick.temperature_after.Goals as goal

pub returns-then-fails : goal.returns-then-fails
unfolding temperature_after
returns-then-fails c = search (rules, tests)

pub returns-else-fails : goal.returns-else-fails
unfolding temperature_after
returns-else-fails c = search (rules, tests)
