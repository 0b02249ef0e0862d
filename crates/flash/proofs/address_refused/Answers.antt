-- `flash::address_refused` meets its contract.
use borrow.Author.Rules.{rules}
use Rattle.unit.proofs.Tests.{tests}
use Rattle.flash.specs.Flash.{wrong_size, odd_address, beyond, address_refused}
use Rattle.flash.proofs.address_refused.Goals as goal

pub returns-then-a-eq1 : goal.returns-then-a-eq1
unfolding wrong_size odd_address beyond address_refused
returns-then-a-eq1 c = search (rules, tests)

pub returns-else-a-eq1 : goal.returns-else-a-eq1
unfolding wrong_size odd_address beyond address_refused
returns-else-a-eq1 c = search (rules, tests)
