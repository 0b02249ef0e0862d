-- `item_answer_code::calls::call` meets its contract. Assumes nothing.
use Rattle.item_line.specs.OwnRead.{as_call}
use Rattle.item_answer.specs.Step.{line_step}
use Rattle.item_answer.specs.OwnView.{item_of}
use Rattle.item_answer_code.proofs.Closing.{result-steps}
use Rattle.item_answer_code.proofs.Firsts.{call-told}
use Rattle.item_answer_code.proofs.calls.call.Goals as goal

pub put_further-end-requires : goal.put_further-end-requires
put_further-end-requires c = c.requires.sound

pub returns : goal.returns
unfolding line_step
returns c = λ number. result-steps number (item_of c.args.c c.args.flash.now c.args.recorded.now c.args.probes.now) (call-told (as_call c.args.numbers.now c.args.said) (item_of c.args.c c.args.flash.now c.args.recorded.now c.args.probes.now) c.requires.ticks) c.put_first-first.ensures c.close-s.ensures (c.put_further-end.ensures c.args.numbers.now c.args.flash.now c.args.probes.now)
