-- `ticking::stretch::next_is_quiet` meets its contract.
use borrow.Author.Rules.{rules}
use Rattle.unit.proofs.Tests.{tests}
use Rattle.ticking.proofs.stretch.next_is_quiet.Goals as goal

pub returns : goal.returns
returns c = search (rules, tests)
