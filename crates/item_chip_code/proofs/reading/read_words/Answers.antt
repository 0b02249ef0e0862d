-- `item_chip_code::reading::read_words` meets its contract. Assumes nothing.
use Prim.Native.Nat.{◌*◌}
use lib.ListN.{length}
use mathlib.Core.Path.{◌∙◌}
use native.Mathlib.Omega.{arith}
use mathlib.Core.Path.{sym}
use lib.Seq.{length-take-le}
use Rattle.item_chip_code.proofs.FrameFacts.{take-replicate}
use Rattle.item_chip_code.proofs.ReadSteps.{read-frame, reads-words}
use borrow.Author.Rules.{rules}
use Rattle.item_chip_code.proofs.reading.read_words.Goals as goal

pub slice_bounds-out-end : goal.slice_bounds-out-end
slice_bounds-out-end c = sym (length-take-le _ _ (omega (arith, c.requires.2)))

pub fill_words-requires : goal.fill_words-requires
fill_words-requires c = c.exchange-e.ensures.long ∙ length-take-le _ _ (omega (arith, c.requires.2))

pub returns : goal.returns
returns c = reads-words _ (length c.args.words.now) (read-frame _ (length c.args.words.now) c.requires.1 c.requires.2 c.first_bytes-frame.ensures) (take-replicate (2 * length c.args.words.now) 200 0xEE (omega (arith, c.requires.2))) c.exchange-e.ensures c.fill_words.ensures (search rules)
