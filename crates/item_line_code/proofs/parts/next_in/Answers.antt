-- `item_line_code::parts::next_in` meets its contract. Assumes nothing.
use mathlib.Core.Path.{sym}
use lib.Seq.{length-take-le}
use native.Mathlib.Omega.{arith}
use Rattle.item_line_code.proofs.PartLaws.{next-part}
use Rattle.item_line_code.proofs.parts.next_in.Goals as goal

pub slice_bounds-next_word-end : goal.slice_bounds-next_word-end
slice_bounds-next_word-end c = sym (length-take-le _ c.args.text.now c.requires.high)

pub next_word-requires : goal.next_word-requires
next_word-requires c = omega (arith, length-take-le _ c.args.text.now c.requires.high, c.requires.ordered)

pub returns : goal.returns
returns c = next-part c.args.text.now c.args.rest c.requires c.next_word.ensures (length-take-le _ c.args.text.now c.requires.high)
