-- `item_replay_code::turning::turn` meets its contract.
-- Assumes nothing.
use native.Mathlib.Omega.{arith}
use mathlib.Core.Path.{refl}
use Rattle.item_replay_code.proofs.PieceLaws.{turns-held}
use Rattle.item_replay_code.proofs.turning.turn.Goals as goal

pub returns-then-s-gt0 : goal.returns-then-s-gt0
returns-then-s-gt0 c = let entry = c in c.under_way.ensures.any _ _ _ _ c.requires.2 c.requires.0.kept

pub whole_line-requires : goal.whole_line-requires
whole_line-requires c = let entry = c in (record { ready = record { quiet = omega (arith, c.if-s-gt0.false); whole = c.if-h.true; most = c.hold_line-h.ensures.most; fits = c.requires.0.fits; bounded = c.requires.0.bounded }; kept = c.requires.0.kept; flash = c.requires.0.lists.flash; differences = c.requires.0.lists.differences; entries = c.requires.0.lists.entries }, c.requires.1, c.requires.3)

pub returns-then-h : goal.returns-then-h
returns-then-h c = c.whole_line.ensures.any _ _ _ _ c.hold_line-h.ensures refl

pub returns : goal.returns
returns c = let entry = c in turns-held _ _ _ _ _ _ _ _ _ _ _ _ (omega (arith, c.if-s-gt0.false)) c.requires.2 (omega (arith, c.requires.3)) c.requires.0.kept c.requires.0.fits c.hold_line-h.ensures c.if-h.false c.line_held.ensures
