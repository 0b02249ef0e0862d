-- `clock::words::hundredths_of` meets its contract.
use borrow.Author.Rules.{rules}
use Rattle.unit.proofs.Tests.{tests}
use Rattle.calendar.specs.Words.{hundredths_of}
use Rattle.clock.proofs.words.hundredths_of.Goals as goal

pub returns : goal.returns
unfolding hundredths_of
returns c = search (rules, tests)
