-- `ticking::tick::sums_after` meets its contract.
use borrow.Author.Rules.{rules}
use Rattle.unit.proofs.Tests.{tests}
use Rattle.device.specs.Tick.{sums_after}
use Rattle.ticking.proofs.tick.sums_after.Goals as goal

pub returns-then-begins_group : goal.returns-then-begins_group
unfolding sums_after
returns-then-begins_group c = search (rules, tests)

pub returns-else-begins_group : goal.returns-else-begins_group
unfolding sums_after
returns-else-begins_group c = search (rules, tests)
