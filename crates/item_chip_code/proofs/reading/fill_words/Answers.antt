-- `item_chip_code::reading::fill_words` meets its contract. Assumes nothing.
use mathlib.Core.Path.{◌∙◌}
use native.Mathlib.Omega.{arith}
use Rattle.item_chip_code.proofs.Filling.{fill-words-on, fill-words-end}
use Rattle.item_chip_code.proofs.reading.fill_words.Goals as goal

pub loop-i-preserved : goal.loop-i-preserved
loop-i-preserved c = fill-words-on c.args.bytes.now c.loop-i.words c.loop-i.i (rw c.loop-i.auto.words c.loop-i-test.true) (omega (arith, c.requires, c.loop-i.auto.words)) (c.from.ensures ∙ c.from_be_bytes.ensures) c.loop-i.invariant

pub returns : goal.returns
returns c = fill-words-end c.args.bytes.now c.loop-i.words c.loop-i.i (rw c.loop-i.auto.words c.loop-i-test.false) (omega (arith, c.requires, c.loop-i.auto.words)) c.loop-i.invariant
