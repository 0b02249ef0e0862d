-- `ticking::stretch::begin` meets its contract.
use Rattle.device.specs.StretchSteps.{progress}
use Rattle.device.specs.Stretch.{stretch_report, last_tick, model_ticked}
use borrow.Author.Rules.{rules}
use Rattle.ticking.proofs.stretch.begin.Goals as goal

pub returns : goal.returns
unfolding progress stretch_report last_tick model_ticked
returns c = search rules
