-- `item_words_code::fault::put_shown_bytes` meets its contract: a byte more in each turn.
-- Assumes nothing.
use Rattle.text.proofs.Putting.{puts}
use Rattle.item_words_code.proofs.Turns.{leads-on, leads-end, shown-on, shown-end}
use Rattle.item_words_code.proofs.fault.put_shown_bytes.Goals as goal

pub loop-byte-init : goal.loop-byte-init
loop-byte-init c = λ r l' p. p

pub loop-byte-preserved : goal.loop-byte-preserved
loop-byte-preserved c = leads-on (shown-on c.args.bytes.now c.loop-byte.byte-index c.loop-byte-test.true) (puts (rw c.shown_byte.ensures at c.put_text-place.ensures)) c.loop-byte.invariant

pub returns : goal.returns
returns c = leads-end (shown-end c.args.bytes.now c.loop-byte.byte-index c.loop-byte-test.false) c.loop-byte.invariant
