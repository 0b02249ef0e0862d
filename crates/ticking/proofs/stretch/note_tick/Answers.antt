-- `ticking::stretch::note_tick` meets its contract.
use borrow.Author.Rules.{rules}
use Rattle.unit.proofs.Tests.{tests}
use Rattle.device.specs.StretchSteps.{noted}
use Rattle.ticking.proofs.stretch.note_tick.Goals as goal

pub returns : goal.returns
unfolding noted
returns c = search (rules, tests)
