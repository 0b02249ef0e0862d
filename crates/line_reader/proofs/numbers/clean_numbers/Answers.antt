-- `line_reader::numbers::clean_numbers` meets its contract.
-- Assumes nothing.
use Rattle.std.proofs.Common.{arith}
use lib.ListN.{length-set}
use Rattle.line.proofs.CleanLaws.{passed-more}
use Rattle.line_reader.proofs.numbers.clean_numbers.Goals as goal

pub loop-i-preserved : goal.loop-i-preserved
loop-i-preserved c =
    let k = c.loop-i in
    let d = c.digits_at-digits.ensures in
    let b = c.skip_blanks-start.ensures in (
      d.high,
      simp length-set k.invariant.1,
      passed-more k.invariant.2 d (c.is_whole.ensures c.if-is_whole.true) b.alike b.low (omega arith),
    )
