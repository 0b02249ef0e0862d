-- `phrase::frames::put_bytes` meets its contract: a byte more in each turn.
-- Assumes nothing.
use Rattle.std.proofs.Common.{refl, rules}
use Rattle.numeral.specs.Ascii.{ascii}
use Rattle.phrase.proofs.Loops.{bytes_on, bytes-end}
use Rattle.phrase.proofs.frames.put_bytes.Goals as goal

pub loop-byte-init : goal.loop-byte-init
loop-byte-init c = (refl, refl)

pub loop-byte-preserved : goal.loop-byte-preserved
unfolding ascii
loop-byte-preserved c =
    (search rules, bytes_on c.args.bytes.now c.loop-byte.byte-index c.loop-byte-test.true c.put_text-blank.ensures (rw c.from.ensures at c.put_hex-place.ensures) c.loop-byte.invariant.1)

pub returns : goal.returns
returns c = bytes-end c.args.bytes.now c.loop-byte.byte-index c.loop-byte-test.false c.loop-byte.invariant.1
