-- `item_replay_code::ended::past_line` meets its contract.
-- Assumes nothing.
use Rattle.item_line.specs.OwnRead.{as_fault}
use Rattle.item_replay_code.proofs.LineLaws.{bad-few, line-turns, past-answered}
use Rattle.item_replay_code.proofs.TurnLaws.{bounded-few}
use Rattle.item_replay_code.proofs.ended.past_line.Goals as goal

pub line_done-requires : goal.line_done-requires
line_done-requires c = let b = bounded-few c.requires.0.bounded in (b.0, bad-few c.bad_counts.ensures, b.1)

pub returns : goal.returns
unfolding as_fault
returns c = let entry = c in λ fs ds es kept. line-turns c.requires.0 (past-answered c.args.text.now c.requires.1 c.requires.3 kept c.requires.0.fits c.requires.2 c.put_bad-end.ensures c.bad_counts.ensures) c.line_done.ensures
