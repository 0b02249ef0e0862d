-- `ticking::tick::report_of` meets its contract.
use borrow.Author.Rules.{rules}
use Rattle.unit.proofs.Tests.{tests}
use Rattle.device.specs.Tick.{report_of}
use Rattle.ticking.proofs.tick.report_of.Goals as goal

pub returns : goal.returns
unfolding report_of
returns c = search (rules, tests)
