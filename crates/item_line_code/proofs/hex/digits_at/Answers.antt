-- `item_line_code::hex::digits_at` meets its contract. Assumes nothing.
use native.Mathlib.Omega.{arith}
use Rattle.item_line_code.proofs.DigitLaws.{digits-none, digits_more, digits-fit}
use Rattle.item_line_code.proofs.hex.digits_at.Goals as goal

pub loop-i-init : goal.loop-i-init
loop-i-init c = digits-none _ _ _ c.requires

pub overflow_mul-value : goal.overflow_mul-value
overflow_mul-value c = omega (arith, digits-fit c.loop-i.invariant (omega arith))

pub overflow_add-value : goal.overflow_add-value
overflow_add-value c = omega (arith, digits-fit c.loop-i.invariant (omega arith))

pub loop-i-preserved : goal.loop-i-preserved
loop-i-preserved c =
    let d = c.in-Some.ensures in
    rw d.1 (digits_more c.loop-i.invariant (omega arith) (omega arith) (omega arith) d.0)
