-- `line_reader::words::word_end` meets its contract.
-- Assumes nothing.
use Rattle.std.proofs.Common.{◌≡◌, length, arith, sym, ◌∙◌}
use Rattle.line.proofs.WordLaws.{word-begins, word-grows, word-stops, word-ends}
use Rattle.line_reader.proofs.words.word_end.Goals as goal

pub loop-i-init : goal.loop-i-init
loop-i-init c = word-begins _ _ c.requires.0 c.requires.1

pub returns-then-is_blank : goal.returns-then-is_blank
returns-then-is_blank c =
    let k = c.loop-i in
    record {
      low = omega arith;
      high = omega arith;
      first = k.invariant ∙ word-stops _ _ c.loop-i-test.true _ (omega arith) (sym c.is_blank.ensures ∙ c.if-is_blank.true);
      stops = λ _. sym c.is_blank.ensures ∙ c.if-is_blank.true;
    }

pub loop-i-preserved : goal.loop-i-preserved
loop-i-preserved c =
    c.loop-i.invariant ∙ word-grows _ _ c.loop-i-test.true _ (omega arith) (sym c.is_blank.ensures ∙ c.if-is_blank.false)

pub returns : goal.returns
returns c =
    let k = c.loop-i in
    let all : k.i ≡ length c.args.s.now = omega arith in
    record {
      low = omega arith;
      high = omega arith;
      first = rw all at (k.invariant ∙ word-ends _ _ k.i (omega arith) (omega arith) c.loop-i-test.false);
      stops = λ h. absurd (omega arith);
    }
