-- `clock::date::leap` meets its contract.
use borrow.Author.Rules.{rules}
use Rattle.unit.proofs.Tests.{tests}
use Rattle.calendar.specs.Calendar.{leap}
use Rattle.clock.proofs.date.leap.Goals as goal

pub returns : goal.returns
unfolding leap
returns c = search (rules, tests)
