-- `line_reader::numbers::pairs` meets its contract.
-- Assumes nothing.
use Rattle.std.proofs.Common.{arith}
use lib.ListN.{length-set}
use Rattle.line.proofs.CleanLaws.{passed-pair}
use Rattle.line_reader.proofs.numbers.pairs.Goals as goal

pub loop-i-preserved : goal.loop-i-preserved
loop-i-preserved c =
    let k = c.loop-i in (
      omega arith,
      simp length-set k.invariant.1,
      λ f m l r. passed-pair (k.invariant.2 f m l r) m l c.in-Some.ensures (omega arith),
    )
