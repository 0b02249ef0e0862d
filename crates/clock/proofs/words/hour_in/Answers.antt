-- `clock::words::hour_in` meets its contract.
use borrow.Author.Rules.{rules}
use Rattle.unit.proofs.Tests.{tests}
use Rattle.calendar.specs.Words.{hour_in}
use Rattle.clock.proofs.words.hour_in.Goals as goal

pub returns-then-not-twelve_in : goal.returns-then-not-twelve_in
unfolding hour_in
returns-then-not-twelve_in c = search (rules, tests)

pub returns-then-w-eq1 : goal.returns-then-w-eq1
unfolding hour_in
returns-then-w-eq1 c = search (rules, tests)

pub returns-else-w-eq1 : goal.returns-else-w-eq1
unfolding hour_in
returns-else-w-eq1 c = search (rules, tests)
