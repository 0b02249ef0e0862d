-- `list_run::entry_at` meets its contract.
use Rattle.call_list.specs.CallList.{entry_at}
use borrow.Author.Rules.{rules}
use Rattle.list_run.proofs.entry_at.Goals as goal

pub returns : goal.returns
unfolding entry_at
returns c = search rules
