-- `clock::words::ticks_in` meets its contract.
use borrow.Author.Rules.{rules}
use Rattle.unit.proofs.Tests.{tests}
use Rattle.calendar.specs.Words.{ticks_in}
use Rattle.clock.proofs.words.ticks_in.Goals as goal

pub returns : goal.returns
unfolding ticks_in
returns c = search (rules, tests)
