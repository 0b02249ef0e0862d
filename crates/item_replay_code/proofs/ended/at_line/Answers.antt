-- `item_replay_code::ended::at_line` meets its contract.
-- Assumes nothing.
use native.Mathlib.Omega.{arith}
use mathlib.Core.Path.{refl}
use Rattle.item_replay_code.proofs.LineLaws.{begins-bounded, at_bound, at-turns}
use Rattle.item_replay_code.proofs.ended.at_line.Goals as goal

pub start-requires : goal.start-requires
start-requires c = let entry = c in let w = c.with_begun-b.ensures in (begins-bounded w c.requires.0.most c.requires.0.bounded, rw w.carried c.requires.0.fits.sound, omega (arith, at_bound c.args.text.now c.requires.1, c.gap-n.ensures, c.if-wide-moment.false, c.wide.ensures.0), omega (arith, c.requires.2))

pub returns : goal.returns
returns c = let entry = c in λ fs ds es kept. at-turns c.requires.1 (omega (arith, c.if-wide-moment.false, c.wide.ensures.0)) c.gap-n.ensures refl c.requires.0 c.with_begun-b.ensures c.requires.2 c.start.ensures kept
