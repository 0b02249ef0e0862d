-- `clock::words::clock_from` meets its contract.
use borrow.Author.Rules.{rules}
use Rattle.unit.proofs.Tests.{tests}
use Rattle.calendar.specs.Words.{clock_from}
use Rattle.clock.proofs.words.clock_from.Goals as goal

pub returns : goal.returns
unfolding clock_from
returns c = search (rules, tests)
