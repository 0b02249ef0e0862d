-- `line_reader::words::is_blank` meets its contract.
-- Assumes nothing.
use native.Mathlib.Omega.{arith}
use borrow.Author.Tests.{eq-eqb, ne_eqb}
use Rattle.line.specs.Words.{is_blank}
use Rattle.line_reader.proofs.words.is_blank.Goals as goal

pub returns-then-c-gt32 : goal.returns-then-c-gt32
unfolding is_blank
returns-then-c-gt32 c =
    let b = c.args.c in
    rw (ne_eqb b 32 (omega (arith, c.if-c-gt32.true)), ne_eqb b 9 (omega (arith, c.if-c-gt32.true)))

pub returns-then-c-eq32 : goal.returns-then-c-eq32
unfolding is_blank
returns-then-c-eq32 c = rw (eq-eqb _ _ c.if-c-eq32.true)

pub returns-else-c-eq32 : goal.returns-else-c-eq32
unfolding is_blank
returns-else-c-eq32 c = rw (ne_eqb _ _ c.if-c-eq32.false)
