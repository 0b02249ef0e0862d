-- `checker::open::put_item` meets its contract.
-- Assumes nothing.
use mathlib.Core.List.{[], ◌∷◌}
use Rattle.item_state.specs.Log.{said}
use Rattle.wording.specs.Wording.{line_feed}
use Rattle.item_checks.specs.Close.{line_words}
use Rattle.item_checks.specs.Open.{is_item, item_named, named}
use Rattle.checker.proofs.OpenLaws.{put_both, no_item}
use borrow.Enum.Refused.{opened}
use Rattle.checker.proofs.open.put_item.Goals as goal

pub returns-in-Item : goal.returns-in-Item
unfolding named is_item item_named said line_words
returns-in-Item c = let both = put_both _ (line_feed ∷ []) c.put_words-end.ensures c.put_end.ensures in rw (c.in-Item.is, ← c.put_words.ensures, ← both.next, ← both.bytes)

pub returns-in_default : goal.returns-in_default
unfolding named
returns-in_default c = rw (no_item _ (opened c.in_default.in_default-own.keys2))
