-- `item_replay_code::under::ticks_counts` meets its contract.
-- Assumes nothing.
use native.Mathlib.Omega.{arith}
use Rattle.item_answer.specs.OwnView.{tally_of}
use Rattle.item_replay_code.specs.OwnTurn.{ticks_tally}
use mathlib.Core.Path.{refl}
use Rattle.item_keep_code.proofs.Flags.{flagged, at-most-one}
use Rattle.item_replay_code.proofs.under.ticks_counts.Goals as goal

pub returns : goal.returns
unfolding tally_of ticks_tally
returns c =
    let some = at-most-one c.expects.result c.from.ensures in
    let wrong = at-most-one c.args.differs c.from-2.ensures in (
      rw (flagged c.from.ensures c.expects.ensures, flagged c.from-2.ensures refl),
      record {
        calls = omega arith;
        refused = omega arith;
        unannounced = omega arith;
        bad = omega arith;
        expectations = omega arith;
        differ = omega arith;
      },
    )
