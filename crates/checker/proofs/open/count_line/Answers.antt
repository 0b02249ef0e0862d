-- `checker::open::count_line` meets its contract.
-- Assumes nothing.
use Rattle.item_state.specs.Log.{added}
use Rattle.item_checks.specs.Open.{line_counted}
use Rattle.checker.proofs.open.count_line.Goals as goal

pub returns : goal.returns
unfolding line_counted added
returns c = rw (← c.more.ensures)
