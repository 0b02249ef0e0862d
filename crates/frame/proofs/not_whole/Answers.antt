-- `frame::not_whole` meets its contract.
use borrow.Author.Rules.{rules}
use Rattle.unit.proofs.Tests.{tests}
use Rattle.frame.specs.Frame.{not_whole}
use Rattle.frame.proofs.not_whole.Goals as goal

pub returns-then-further-eq0 : goal.returns-then-further-eq0
unfolding not_whole
returns-then-further-eq0 c = search (rules, tests)

pub returns-else-further-eq0 : goal.returns-else-further-eq0
unfolding not_whole
returns-else-further-eq0 c = search (rules, tests)
