-- `clock::words::word32` meets its contract.
use borrow.Author.Rules.{rules}
use Rattle.unit.proofs.Tests.{tests}
use Rattle.calendar.specs.Words.{word32}
use Rattle.clock.proofs.words.word32.Goals as goal

pub returns : goal.returns
unfolding word32
returns c = search (rules, tests)
