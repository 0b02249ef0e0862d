-- `registers::write::alarm_invalid` meets its contract.
use borrow.Author.Tests.{lt-leb}
use mathlib.Core.Path.{sym}
use Rattle.device.proofs.WriteMeaning.{alarm-kept}
use Rattle.registers.proofs.write.alarm_invalid.Goals as goal

pub returns-else-op-le53 : goal.returns-else-op-le53
returns-else-op-le53 c = rw (lt-leb _ _ c.if-op-le53.false) (sym (alarm-kept _ _ _ _ c.requires.0 c.if-op-le53.false))
