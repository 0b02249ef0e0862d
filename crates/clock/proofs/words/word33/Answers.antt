-- `clock::words::word33` meets its contract.
use borrow.Author.Rules.{rules}
use Rattle.unit.proofs.Tests.{tests}
use Rattle.calendar.specs.Words.{word33}
use Rattle.clock.proofs.words.word33.Goals as goal

pub returns : goal.returns
unfolding word33
returns c = search (rules, tests)
