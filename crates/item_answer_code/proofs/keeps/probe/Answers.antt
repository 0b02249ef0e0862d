-- `item_answer_code::keeps::probe` meets its contract. Assumes nothing.
use native.Mathlib.Omega.{arith}
use Rattle.item_answer.specs.Answer.{keep_result}
use Rattle.item_answer_code.proofs.Adding.{probe-steps}
use Rattle.item_answer_code.proofs.keeps.probe.Goals as goal

pub put_probe-added-requires : goal.put_probe-added-requires
put_probe-added-requires c = (c.requires.0.probes, omega (arith, c.requires.1))

pub settle-requires : goal.settle-requires
settle-requires c = record { recorded = c.requires.0.recorded; probes = omega (arith, c.min-count.ensures) }

pub returns : goal.returns
unfolding keep_result
returns c = rw (← c.first_words.ensures) (λ fs ds. probe-steps _ c.args.c c.requires.0 c.first_words.result.now c.args.probes.now _ fs ds c.min-count.ensures c.put_probe-added.ensures c.settle.ensures)
