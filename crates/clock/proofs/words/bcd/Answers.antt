-- `clock::words::bcd` meets its contract.
use borrow.Author.Rules.{rules}
use Rattle.unit.proofs.Tests.{tests}
use Rattle.calendar.specs.Words.{bcd}
use Rattle.clock.proofs.words.bcd.Goals as goal

pub returns : goal.returns
unfolding bcd
returns c = search (rules, tests)
