-- `registers::write::setup_after` meets its contract.
use mathlib.Core.Path.{◌≡◌}
use Rattle.device.specs.Write.{setup_after}
use Rattle.registers.proofs.write.setup_after.Given as goal

abbrev pub invariant-loop-i : goal.invariant-loop-i
invariant-loop-i l = l.s ≡ setup_after l.words l.op l.initial.s l.i
