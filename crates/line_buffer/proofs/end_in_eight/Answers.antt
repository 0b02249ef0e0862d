-- `line_buffer::end_in_eight` meets its contract.
-- Assumes nothing.
use Rattle.std.proofs.Common.{arith}
use Rattle.line_buffer.proofs.LineLaws.{passed, found}
use Rattle.line_buffer.proofs.end_in_eight.Goals as goal

pub returns-then-bytes-i-eq10 : goal.returns-then-bytes-i-eq10
returns-then-bytes-i-eq10 c =
    let k = c.loop-k in
    (omega arith, omega arith, λ _. found _ _ c.requires k.k c.loop-k-test.true c.if-bytes-i-eq10.true k.invariant, λ all. absurd (omega arith))

pub loop-k-preserved : goal.loop-k-preserved
loop-k-preserved c =
    let k = c.loop-k in passed _ _ c.requires k.k c.loop-k-test.true c.if-bytes-i-eq10.false k.invariant
