-- `item_calls::start::start` meets its contract.
-- Assumes nothing.
use mathlib.Core.Path.{refl}
use borrow.Author.Rules.{rules}
use Rattle.item_calls.specs.Lines.{item_counts}
use Rattle.item_calls.proofs.start.start.Goals as goal

pub returns : goal.returns
unfolding item_counts
returns c = (c.fresh.ensures, refl, c.fill.ensures.after (search rules))
