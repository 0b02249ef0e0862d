-- `line_reader::words::skip_blanks` meets its contract.
-- Assumes nothing.
use Rattle.std.proofs.Common.{◌≡◌, length, arith, sym, ◌∙◌}
use Rattle.line.proofs.WordLaws.{words-blank}
use Rattle.line_reader.proofs.words.skip_blanks.Goals as goal

pub loop-i-preserved : goal.loop-i-preserved
loop-i-preserved c =
    words-blank _ _ c.loop-i-test.true (sym c.is_blank.ensures ∙ c.if-not-is_blank.false) ∙ c.loop-i.invariant

pub returns-then-not-is_blank : goal.returns-then-not-is_blank
returns-then-not-is_blank c =
    let k = c.loop-i in
    record { low = omega arith; high = omega arith; alike = k.invariant; stops = λ _. sym c.is_blank.ensures ∙ c.if-not-is_blank.true }

pub returns : goal.returns
returns c =
    let k = c.loop-i in
    let all : k.i ≡ length c.args.s.now = omega arith in
    record { low = omega arith; high = omega arith; alike = rw all at k.invariant; stops = λ h. absurd (omega arith) }
