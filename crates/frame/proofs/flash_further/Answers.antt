-- `frame::flash_further` meets its contract.
use borrow.Author.Rules.{rules}
use Rattle.unit.proofs.Tests.{tests}
use Rattle.frame.specs.Frame.{flash_further}
use Rattle.frame.proofs.flash_further.Goals as goal

pub returns-then-op-eq-BLOCK_ERASE : goal.returns-then-op-eq-BLOCK_ERASE
unfolding flash_further
returns-then-op-eq-BLOCK_ERASE c = search (rules, tests)

pub returns-else-op-eq-BLOCK_ERASE : goal.returns-else-op-eq-BLOCK_ERASE
unfolding flash_further
returns-else-op-eq-BLOCK_ERASE c = search (rules, tests)
