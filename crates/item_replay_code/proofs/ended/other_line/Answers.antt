-- `item_replay_code::ended::other_line` meets its contract.
-- Assumes nothing.
use Rattle.item_answer.specs.OwnView.{item_of}
use Rattle.item_replay_code.proofs.LineLaws.{answered-few, line-turns, steps-answered}
use Rattle.item_replay_code.proofs.TurnLaws.{bounded-few}
use Rattle.item_replay_code.proofs.ended.other_line.Goals as goal

pub answer_line-r-requires : goal.answer_line-r-requires
answer_line-r-requires c = let entry = c in rw c.requires.3 c.requires.1

pub line_done-requires : goal.line_done-requires
line_done-requires c = let entry = c in let b = bounded-few c.requires.0.bounded in let a = steps-answered {s = c.args.s} c.args.text.now _ c.args.flash.now c.args.recorded.now c.args.probes.now c.requires.3 c.requires.1.ticks c.requires.2 c.requires.4 c.answer_line-r.ensures in (b.0, answered-few c.args.text.now (item_of c.args.s.carried c.args.flash.now c.args.recorded.now c.args.probes.now) a, b.1)

pub returns : goal.returns
returns c = let entry = c in line-turns c.requires.0 (steps-answered c.args.text.now _ c.args.flash.now c.args.recorded.now c.args.probes.now c.requires.3 c.requires.1.ticks c.requires.2 c.requires.4 c.answer_line-r.ensures) c.line_done.ensures
