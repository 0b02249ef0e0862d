-- `clock::words::word31` meets its contract.
use borrow.Author.Rules.{rules}
use Rattle.unit.proofs.Tests.{tests}
use Rattle.calendar.specs.Words.{word31}
use Rattle.clock.proofs.words.word31.Goals as goal

pub returns : goal.returns
unfolding word31
returns c = search (rules, tests)
