-- `clock::words::twelve_in` meets its contract.
use borrow.Author.Rules.{rules}
use Rattle.unit.proofs.Tests.{tests}
use Rattle.calendar.specs.Words.{twelve_in}
use Rattle.clock.proofs.words.twelve_in.Goals as goal

pub returns : goal.returns
unfolding twelve_in
returns c = search (rules, tests)
