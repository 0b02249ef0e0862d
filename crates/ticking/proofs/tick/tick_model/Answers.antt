-- `ticking::tick::tick_model` meets its contract.
use borrow.Author.Rules.{rules}
use Rattle.unit.proofs.Tests.{tests}
use Rattle.device.specs.Tick.{tick_model}
use Rattle.ticking.proofs.tick.tick_model.Goals as goal

pub returns : goal.returns
unfolding tick_model
returns c = search (rules, tests)
