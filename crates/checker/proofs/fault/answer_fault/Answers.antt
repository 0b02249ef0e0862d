-- `checker::fault::answer_fault` meets its contract.
-- Assumes nothing.
use mathlib.Core.Path.{refl}
use Rattle.item_checks.specs.Fault.{left_of, fault_log}
use Rattle.checker.proofs.fault.answer_fault.Goals as goal

pub returns-then-is_fault : goal.returns-then-is_fault
unfolding left_of fault_log
returns-then-is_fault c = rw (← c.is_fault.ensures, c.if-is_fault.true) (refl, c.tell_fault.ensures)

pub returns : goal.returns
unfolding left_of fault_log
returns c = rw (← c.is_fault.ensures, c.if-is_fault.false) (refl, refl)
