-- `clock::words::minute_in` meets its contract.
use borrow.Author.Rules.{rules}
use Rattle.unit.proofs.Tests.{tests}
use Rattle.calendar.specs.Words.{minute_in}
use Rattle.clock.proofs.words.minute_in.Goals as goal

pub returns : goal.returns
unfolding minute_in
returns c = search (rules, tests)
