-- `form::put_form` meets its contract: what is left of the form fills the buffer as the whole form would.
-- Assumes nothing.
use Rattle.form.proofs.Fill.{read, takes-most, length-read, bar-on, byte-on, form-end}
use lib.ListN.{length}
use mathlib.Core.Path.{refl, ◌∙◌}
use Prim.Native.Nat.{◌+◌, ◌≤◌}
use native.Mathlib.Omega.{arith}
use Rattle.form.proofs.put_form.Goals as goal
use Rattle.form.proofs.put_form.Goals.{then-c-eq124, else-c-eq124}

pub loop-i-init : goal.loop-i-init
loop-i-init c = (refl, omega arith, omega arith, refl)

pub overflow_add-next-then-c-eq124 : goal.overflow_add-next-then-c-eq124
overflow_add-next-then-c-eq124 c = let p = read c.args.form.now c.loop-i.start c.loop-i.i in
    let few : c.takes-next.result ≤ length p + 1 = rw (c.takes-next.ensures, c.byte.ensures) (takes-most p) in
    omega (arith, length-read c.args.form.now c.loop-i.start c.loop-i.i)

pub loop-i-preserved : goal.loop-i-preserved
loop-i-preserved c = let form = c.args.form.now in
    let vs = c.args.values.now in
    let start = c.loop-i.start in
    let next = c.loop-i.next in
    let i = c.loop-i.i in
    let less = c.loop-i-test.true in
    elim c.if-c-eq124.branch [
      | then-c-eq124 w ↦
          let p = read form start i in
          let few : w.takes-next.result ≤ length p + 1 = rw (w.takes-next.ensures, w.byte.ensures) (takes-most p) in
          rw (w.buf-is, w.place-is, w.start-is, w.next-is) (
            w.put_piece-place.auto.buf ∙ c.loop-i.invariant.0,
            omega arith,
            omega (arith, length-read form start i),
            bar-on form vs start next i less w.if-c-eq124.true w.value.ensures w.value-then-c-eq124.ensures (w.takes-next.ensures ∙ rw w.byte.ensures) w.put_piece-place.ensures c.loop-i.invariant.3,
          )
      | else-c-eq124 w ↦
          rw (w.buf-is, w.place-is, w.start-is, w.next-is) (c.loop-i.invariant.0, omega arith, omega arith, byte-on form vs start next i less w.if-c-eq124.false (omega arith) _ _ c.loop-i.invariant.3)
    ]

pub returns : goal.returns
returns c = record { put = form-end c.args.form.now c.args.values.now c.loop-i.start c.loop-i.next c.loop-i.i c.loop-i-test.false c.loop-i.invariant.3 }
