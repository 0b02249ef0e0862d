-- `item_words_code::kept::put_bytes` meets its contract: a byte more in each turn.
-- Assumes nothing.
use Rattle.numeral.specs.Ascii.{ascii}
use Rattle.text.proofs.Putting.{puts, puts-last}
use Rattle.item_words_code.proofs.Turns.{leads-on, leads-end, bytes_on, bytes-end}
use Rattle.item_words_code.proofs.kept.put_bytes.Goals as goal

pub loop-byte-init : goal.loop-byte-init
loop-byte-init c = λ r l' p. p

pub loop-byte-preserved : goal.loop-byte-preserved
unfolding ascii
loop-byte-preserved c = leads-on (bytes_on c.args.bytes.now c.loop-byte.byte-index c.loop-byte-test.true) (puts-last (puts c.put_text-blank.ensures) (rw c.from.ensures at c.put_hex-place.ensures)) c.loop-byte.invariant

pub returns : goal.returns
returns c = leads-end (bytes-end c.args.bytes.now c.loop-byte.byte-index c.loop-byte-test.false) c.loop-byte.invariant
