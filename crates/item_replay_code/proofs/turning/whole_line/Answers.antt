-- `item_replay_code::turning::whole_line` meets its contract.
-- Assumes nothing.
use Rattle.item_replay_code.specs.OwnLine.{OfSort}
use Rattle.item_replay_code.proofs.LineLaws.{sorted, asks-ready}
use Rattle.item_replay_code.proofs.turning.whole_line.Goals as goal

pub tick_line-requires : goal.tick_line-requires
unfolding OfSort
tick_line-requires c = let entry = c in (c.requires.0.ready, (rw c.in-Tick.is at (sorted c.read_line-said.result c.sort-kind.result _ _ c.sort-kind.ensures c.read_line-said.ensures)), c.requires.2)

pub at_line-requires : goal.at_line-requires
unfolding OfSort
at_line-requires c = let entry = c in (c.requires.0.ready, (rw c.in-At.is at (sorted c.read_line-said.result c.sort-kind.result _ _ c.sort-kind.ensures c.read_line-said.ensures)), c.requires.2)

pub show_line-requires : goal.show_line-requires
unfolding OfSort
show_line-requires c = let entry = c in (c.requires.0.ready, (rw c.in-Show.is at (sorted c.read_line-said.result c.sort-kind.result _ _ c.sort-kind.ensures c.read_line-said.ensures)), c.requires.2)

pub other_line-requires : goal.other_line-requires
unfolding OfSort
other_line-requires c = let entry = c in let k = rw c.in-Other.is at (sorted c.read_line-said.result c.sort-kind.result _ _ c.sort-kind.ensures c.read_line-said.ensures) in (c.requires.0.ready, asks-ready _ c.requires.0 k.0 k.1, c.requires.0.kept, c.read_line-said.ensures, c.requires.2)

pub returns-in-Tick : goal.returns-in-Tick
returns-in-Tick c = rw c.first_bytes-bytes.ensures at (c.tick_line.ensures _ _ _ c.requires.0.kept)

pub returns-in-At : goal.returns-in-At
returns-in-At c = rw c.first_bytes-bytes.ensures at (c.at_line.ensures _ _ _ c.requires.0.kept)

pub returns-in-Show : goal.returns-in-Show
returns-in-Show c = rw c.first_bytes-bytes.ensures at (c.show_line.ensures _ _ _ c.requires.0.kept)

pub returns-in-Other : goal.returns-in-Other
returns-in-Other c = rw c.first_bytes-bytes.ensures at c.other_line.ensures
