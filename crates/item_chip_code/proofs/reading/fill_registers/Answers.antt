-- `item_chip_code::reading::fill_registers` meets its contract. Assumes nothing.
use Rattle.item_chip_code.proofs.Filling.{fill-registers-start}
use Rattle.item_chip_code.proofs.Filling.{fill-registers-on, fill-registers-end}
use Rattle.item_chip_code.proofs.reading.fill_registers.Goals as goal

pub loop-i-init : goal.loop-i-init
loop-i-init c = fill-registers-start _ _ _

pub loop-i-preserved : goal.loop-i-preserved
loop-i-preserved c = fill-registers-on c.args.m c.args.a _ c.loop-i.words c.loop-i.i (rw c.loop-i.auto.words c.loop-i-test.true) c.loop-i.auto.words c.register_word.ensures c.loop-i.invariant

pub returns : goal.returns
returns c = fill-registers-end c.args.m c.args.a _ c.loop-i.words c.loop-i.i (rw c.loop-i.auto.words c.loop-i-test.false) c.loop-i.auto.words c.loop-i.invariant
