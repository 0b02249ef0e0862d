-- `list_run::begin` meets its contract.
use Rattle.call_list.specs.CallList.{beginning}
use borrow.Author.Rules.{rules}
use Rattle.list_run.proofs.begin.Goals as goal

pub returns : goal.returns
unfolding beginning
returns c = search rules
