-- `item_replay_code::lines::bits` meets its contract.
-- Assumes nothing.
use native.Mathlib.Omega.{arith}
use Rattle.item_answer.specs.Step.{outcome_bits}
use Rattle.item_answer.specs.OwnView.{tally_of}
use Rattle.item_replay_code.specs.OwnGone.{bits_of}
use Rattle.item_replay_code.proofs.lines.bits.Goals as goal

pub returns : goal.returns
unfolding bits_of outcome_bits tally_of
returns c =
    let f = c.bit-f.ensures in
    let e = c.bit-e.ensures in
    let d = c.bit-d.ensures in
    let b = c.bit-b.ensures in
    let a = c.bit-a.ensures in
    (rw (a.0, b.0, d.0, e.0, f.0), omega (arith, a.1, b.1, d.1, e.1, f.1))
