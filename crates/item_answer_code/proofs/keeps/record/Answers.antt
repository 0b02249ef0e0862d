-- `item_answer_code::keeps::record` meets its contract. Assumes nothing.
use native.Mathlib.Omega.{arith}
use Rattle.item_answer.specs.Answer.{keep_result}
use Rattle.item_answer.specs.OwnView.{item_of}
use Rattle.item_answer_code.proofs.Adding.{record-steps}
use Rattle.item_answer_code.proofs.keeps.record.Goals as goal

pub put_record-added-requires : goal.put_record-added-requires
put_record-added-requires c = (c.requires.0, c.requires.1.recorded, omega (arith, c.requires.2))

pub settle-requires : goal.settle-requires
settle-requires c = record { recorded = omega (arith, c.min-count.ensures); probes = c.requires.1.probes }

pub returns : goal.returns
unfolding keep_result item_of
returns c = rw (← c.first_words.ensures) (λ fs es. record-steps _ c.args.c c.requires.1 _ c.args.recorded.now _ fs es c.min-count.ensures c.put_record-added.ensures c.settle.ensures)
