-- `item_replay_code::ended::tick_line` meets its contract.
-- Assumes nothing.
use native.Mathlib.Omega.{arith}
use Rattle.item_replay_code.proofs.LineLaws.{begins-bounded, tick-bound, tick-turns}
use Rattle.item_replay_code.proofs.ended.tick_line.Goals as goal

pub start-requires : goal.start-requires
start-requires c = let entry = c in let w = c.with_begun-b.ensures in (begins-bounded w c.requires.0.most c.requires.0.bounded, rw w.carried c.requires.0.fits.sound, omega (arith, tick-bound c.args.text.now c.requires.1), omega (arith, c.requires.2))

pub returns : goal.returns
returns c = let entry = c in λ fs ds es kept. tick-turns c.requires.1 c.requires.0 c.with_begun-b.ensures c.requires.2 c.start.ensures kept
