-- `line_reader::numbers::digits_at` meets its contract.
-- Assumes nothing.
use Rattle.std.proofs.Common.{◌≡◌, ◌+◌, arith}
use Rattle.line.proofs.CleanLaws.{digits-none, digits_more, digits-fit}
use Rattle.line_reader.proofs.numbers.digits_at.Goals as goal

pub loop-i-init : goal.loop-i-init
loop-i-init c = digits-none _ _ _ c.requires

pub overflow_mul-value : goal.overflow_mul-value
overflow_mul-value c = omega (arith, digits-fit c.loop-i.invariant (omega arith))

pub overflow_add-value : goal.overflow_add-value
overflow_add-value c = omega (arith, digits-fit c.loop-i.invariant (omega arith))

pub loop-i-preserved : goal.loop-i-preserved
loop-i-preserved c =
    let d = c.in-Some.ensures in
    rw d.1 (digits_more c.loop-i.invariant (omega arith) (omega arith) (omega arith) d.0)

pub returns : goal.returns
returns c =
    let k = c.loop-i in
    let all : k.i ≡ c.args.start + c.min-2.result = omega arith in
    rw all at k.invariant
