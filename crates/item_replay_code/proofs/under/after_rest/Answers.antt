-- `item_replay_code::under::after_rest` meets its contract.
-- Assumes nothing.
use native.Mathlib.Omega.{arith}
use Rattle.item_replay_code.proofs.StateLaws.{done-own}
use Rattle.item_replay_code.proofs.under.after_rest.Goals as goal

pub returns-then-r-eq0 : goal.returns-then-r-eq0
returns-then-r-eq0 c =
    let d = c.line_done.ensures in
    record {
      done = λ _. done-own d;
      tally = λ _. rw d.adds c.ticks_counts-adds.ensures.0;
      left = λ h. absurd (omega (arith, c.if-r-eq0.true));
    }

pub returns : goal.returns
returns c = record {
  done = λ e. absurd (c.if-r-eq0.false e);
  tally = λ e. absurd (c.if-r-eq0.false e);
  left = λ _. c.line_left.ensures;
}
