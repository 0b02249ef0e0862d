-- `item_replay_code::lines::bit` meets its contract.
-- Assumes nothing.
use mathlib.Core.Path.{refl}
use native.Mathlib.Omega.{arith}
use Rattle.item_keep_code.proofs.Flags.{flagged, at-most-one}
use Rattle.item_replay_code.proofs.lines.bit.Goals as goal

pub returns : goal.returns
returns c = (flagged c.from.ensures refl, omega (arith, at-most-one c.args.b c.from.ensures))
