-- `clock::date::start` meets its contract.
use borrow.Author.Rules.{rules}
use Rattle.unit.proofs.Tests.{tests}
use Rattle.calendar.specs.Calendar.{start}
use Rattle.clock.proofs.date.start.Goals as goal

pub returns : goal.returns
unfolding start
returns c = search (rules, tests)
