-- `clock::words::hour_named` meets its contract.
use borrow.Author.Rules.{rules}
use Rattle.unit.proofs.Tests.{tests}
use Rattle.calendar.specs.Words.{hour_named}
use Rattle.clock.proofs.words.hour_named.Goals as goal

pub returns-then-twelve_in : goal.returns-then-twelve_in
unfolding hour_named
returns-then-twelve_in c = search (rules, tests)

pub returns-else-twelve_in : goal.returns-else-twelve_in
unfolding hour_named
returns-else-twelve_in c = search (rules, tests)
