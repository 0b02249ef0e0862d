-- `item_questions::register_lines::put_interrupt` meets its contract.
-- Assumes nothing.
use Rattle.item_questions.specs.Answers.{interrupt}
use Rattle.item_questions.proofs.register_lines.put_interrupt.Goals as goal

pub returns : goal.returns
unfolding interrupt
returns c = rw (← c.interrupt_pending.ensures.same, ← c.value-told.ensures) c.put_interrupt.ensures
