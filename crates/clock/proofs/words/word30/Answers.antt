-- `clock::words::word30` meets its contract.
use borrow.Author.Rules.{rules}
use Rattle.unit.proofs.Tests.{tests}
use Rattle.calendar.specs.Words.{word30}
use Rattle.clock.proofs.words.word30.Goals as goal

pub returns : goal.returns
unfolding word30
returns c = search (rules, tests)
