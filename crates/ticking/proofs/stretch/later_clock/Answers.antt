-- `ticking::stretch::later_clock` meets its contract.
use Rattle.device.specs.StretchSteps.{later_clock}
use native.Mathlib.Omega.{arith}
use mathlib.Core.Path.{sym, ◌∙◌}
use Rattle.ticking.proofs.Quiet.{clock-room}
use Rattle.ticking.proofs.stretch.later_clock.Goals as goal

pub returns-then-clock_stands : goal.returns-then-clock_stands
unfolding later_clock
returns-then-clock_stands c = simp (c.if-clock_stands.true, ← c.clock_stands.ensures)

pub overflow_add-n : goal.overflow_add-n
overflow_add-n c =
    omega (arith, clock-room _ _ (sym c.clock_stands.ensures ∙ c.if-clock_stands.false) c.requires)

pub returns : goal.returns
unfolding later_clock
returns c = simp (c.if-clock_stands.false, ← c.clock_stands.ensures)
