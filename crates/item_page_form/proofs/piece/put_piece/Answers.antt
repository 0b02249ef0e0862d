-- `item_page_form::piece::put_piece` meets its contract. Assumes nothing.
use native.Mathlib.Omega.{arith}
use borrow.Author.Rules.{rules}
use Rattle.text.proofs.Putting.{puts_then, puts_first}
use Rattle.item_page.specs.Registers.{result_text, port_text}
use Rattle.item_page_form.specs.OwnForm.{piece_then}
use Rattle.item_page_form.proofs.Fill.{twice, word-piece, other-piece}
use Rattle.item_page_form.proofs.piece.put_piece.Goals as goal

pub returns-in-35 : goal.returns-in-35
unfolding piece_then
returns-in-35 c = record { on = λ rest s k after. rw (← c.byte.ensures, c.in-35.is) (puts_first (rw c.from.ensures at c.put_decimal.ensures) after) }

pub returns-in-36 : goal.returns-in-36
returns-in-36 c = record { on = λ rest s k after. rw (word-piece c.args.piece.now c.args.v c.args.w rest c.byte.ensures c.in-36.is) (puts_first c.put_hex.ensures after) }

pub returns-in-37 : goal.returns-in-37
unfolding piece_then
returns-in-37 c = record { on = λ rest s k after. rw (← c.byte.ensures, c.in-37.is) (puts_first c.put_hex-in-37.ensures after) }

pub returns-in-38 : goal.returns-in-38
unfolding piece_then
returns-in-38 c = record { on = λ rest s k after. rw (← c.byte.ensures, c.in-38.is) (rw (← c.bytes_from.ensures) (c.put_plural.ensures.on rest s k after)) }

pub returns-in-63 : goal.returns-in-63
unfolding piece_then
returns-in-63 c = record { on = λ rest s k after. rw (← c.byte.ensures, c.in-63.is) (rw (← c.bytes_from-in-63.ensures, ← c.digit.ensures) (puts_then c.put_where.ensures after)) }

pub returns-in-60 : goal.returns-in-60
unfolding piece_then
returns-in-60 c = record { on = λ rest s k after. rw (← c.byte.ensures, c.in-60.is) (rw (← c.pair_of.ensures) (c.put_pair.ensures.on rest s k after)) }

pub returns-in-61 : goal.returns-in-61
unfolding piece_then
returns-in-61 c = record { on = λ rest s k after. rw (← c.byte.ensures, c.in-61.is) (twice result_text c.pair_of-in-61.ensures c.pair_of-in-61-2.ensures c.put_pair-a.ensures c.put_result.ensures after) }

pub returns-in-62 : goal.returns-in-62
unfolding piece_then
returns-in-62 c = record { on = λ rest s k after. rw (← c.byte.ensures, c.in-62.is) (twice port_text c.pair_of-in-62.ensures c.pair_of-in-62-2.ensures c.put_pair-a-in-62.ensures c.put_port.ensures after) }

pub returns-in_default : goal.returns-in_default
returns-in_default c =
    record {
      on = λ rest s k after.
          rw (other-piece c.args.piece.now c.args.v c.args.w rest c.byte.ensures (record { n35 = omega arith; n36 = grind arith; n37 = omega arith; n38 = omega arith; n63 = omega arith; n64 = search rules; n60 = omega arith; n61 = omega arith; n62 = omega arith }))
          (puts_first c.put_text.ensures after);
    }
