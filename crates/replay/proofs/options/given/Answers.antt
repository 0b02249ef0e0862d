-- `replay::options::given` meets its contract.
-- Assumes nothing.
use borrow.Author.Rules.{rules}
use mathlib.Core.Path.{refl, sym, ◌∙◌}
use native.Mathlib.Omega.{arith}
use Rattle.replay.proofs.Handed.{none-handed, one-handed, given-all, given-enough}
use Rattle.replay.proofs.options.given.Goals as goal
use Rattle.replay.proofs.options.given.Goals.{else-loop-i-test, then-loop-i-test+then-not-is_open}

pub loop-i-init : goal.loop-i-init
loop-i-init g c = (refl, none-handed _ c.begin-reading.ensures)

pub loop-i-preserved : goal.loop-i-preserved
loop-i-preserved g c =
    (search rules, one-handed _ c.loop-i.invariant.1 c.loop-i-test.true c.next-reading.ensures)

pub returns : goal.returns
returns g c =
    let handed = c.loop-i.invariant.1 in
    elim c.loop-i-test.branch [
      | else-loop-i-test w ↦ given-all handed (omega (arith, w.loop-i-test.false)) c.asked.ensures
      | then-loop-i-test+then-not-is_open w ↦ given-enough handed (sym w.is_open.ensures ∙ w.if-not-is_open.true) c.asked.ensures
    ]
