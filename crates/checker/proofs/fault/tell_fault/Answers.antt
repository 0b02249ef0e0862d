-- `checker::fault::tell_fault` meets its contract.
-- Assumes nothing.
use Rattle.item_checks.specs.Fault.{fault_said}
use Rattle.item_state.specs.Log.{added, said}
use Rattle.checker.proofs.fault.tell_fault.Goals as goal

pub returns : goal.returns
unfolding fault_said added said
returns c = rw (← c.more.ensures, ← c.put_fault.ensures.next, ← c.put_fault.ensures.bytes)
