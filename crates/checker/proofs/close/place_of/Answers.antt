-- `checker::close::place_of` meets its contract: the place in what is left decides.
-- Assumes nothing.
use native.Mathlib.Omega.{arith}
use Rattle.checker.proofs.CloseLaws.{place_here, place-later, place_none}
use Rattle.checker.proofs.close.place_of.Goals as goal

pub returns-then-byte-c : goal.returns-then-byte-c
returns-then-byte-c c =
    let here = place_here c.args.c c.args.bytes.now c.loop-i.i c.loop-i-test.true c.if-byte-c.true in
    omega (arith, here, c.loop-i.invariant)

pub loop-i-preserved : goal.loop-i-preserved
loop-i-preserved c =
    let later = place-later c.args.c c.args.bytes.now c.loop-i.i c.loop-i-test.true c.if-byte-c.false in
    omega (arith, later, c.loop-i.invariant)

pub returns : goal.returns
returns c = let none = place_none c.args.c c.args.bytes.now c.loop-i.i c.loop-i-test.false in omega (arith, none, c.loop-i.invariant)
