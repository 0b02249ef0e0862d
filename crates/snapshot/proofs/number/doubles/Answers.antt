-- `snapshot::number::doubles` meets its contract.
use native.Mathlib.Omega.{arith}
use mathlib.Core.Path.{refl, ap}
use lib.ListN.{length, length-drop}
use mir.Syntax.{w16}
use Rattle.std.specs.Int.{from_le_bytes}
use Rattle.layout.proofs.Loops.{reading-starts, reading-on, reading-ends}
use Rattle.snapshot.proofs.Bytes.{value_2, rest-is, read-chunk}
use Rattle.snapshot.proofs.number.doubles.Goals as goal

pub loop-i-init : goal.loop-i-init
loop-i-init c = reading-starts _ _ _ _ _ refl

pub loop-i-preserved : goal.loop-i-preserved
loop-i-preserved c =
    let bytes = c.args.bytes.now in
    let i = c.loop-i.i in
    reading-on _ _ _ _ _ _ _ (omega arith)
    (read-chunk 2 25 (from_le_bytes w16) bytes i _ value_2 c.as_chunks.ensures.front (omega (arith, ap length (rest-is 25 bytes), length-drop 25 bytes)) (omega arith) c.from_le_bytes.ensures)
    c.loop-i.invariant

pub returns : goal.returns
returns c = reading-ends _ _ _ _ _ _ (omega arith) c.loop-i.invariant
