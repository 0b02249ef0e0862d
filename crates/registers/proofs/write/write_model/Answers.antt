-- `registers::write::write_model` meets its contract.
use borrow.Author.Rules.{rules}
use Rattle.unit.proofs.Tests.{tests}
use Rattle.device.proofs.WriteTogether.{keeps-clock}
use Rattle.registers.proofs.write.write_model.Goals.{then-op-gt51, else-op-gt51}
use Rattle.device.specs.Write.{write_model}
use Rattle.registers.proofs.write.write_model.Goals as goal

pub returns : goal.returns
unfolding write_model
returns c =
    let a = c.args in
    elim c.if-op-gt51.branch [
      | then-op-gt51 w ↦
          simp (keeps-clock a.m a.words.now a.op a.n c.requires.0 w.if-op-gt51.true, w.result-is, ← c.setup_after.ensures)
      | else-op-gt51 w ↦ search (rules, tests)
    ]
