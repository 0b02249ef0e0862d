-- `item_replay_code::ended::show_line` meets its contract.
-- Assumes nothing.
use Rattle.item_replay_code.proofs.LineLaws.{none-few, line-turns, show-answered}
use Rattle.item_replay_code.proofs.TurnLaws.{bounded-few}
use Rattle.item_replay_code.proofs.ended.show_line.Goals as goal

pub line_done-requires : goal.line_done-requires
line_done-requires c = let b = bounded-few c.requires.0.bounded in (b.0, none-few c.no_counts.ensures, b.1)

pub returns : goal.returns
returns c = let entry = c in λ fs ds es kept. line-turns c.requires.0 (show-answered c.args.text.now c.requires.1 kept c.requires.0.fits c.requires.2 c.put_page-end.ensures c.no_counts.ensures) c.line_done.ensures
