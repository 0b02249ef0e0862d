-- `text_code::words::word_end` meets its contract. Assumes nothing.
use mathlib.Core.Path.{◌≡◌, sym, ap, ◌∙◌}
use native.Mathlib.Omega.{arith}
use lib.ListN.{length, drop}
use Rattle.text.specs.Text.{words_after}
use Rattle.text_code.specs.OwnWords.{between}
use Rattle.text_code.proofs.WordLaws.{word-begins, word-grows, word-stops, word-ends}
use Rattle.text_code.proofs.words.word_end.Goals as goal

pub loop-i-init : goal.loop-i-init
loop-i-init c = word-begins _ _ c.requires.0 c.requires.1

pub returns-then-is_blank : goal.returns-then-is_blank
returns-then-is_blank c =
    let blank = sym c.is_blank.ensures ∙ c.if-is_blank.true in
    record {
      low = omega arith;
      high = omega arith;
      first = c.loop-i.invariant ∙ word-stops _ _ c.loop-i-test.true _ (omega arith) blank;
      stops = λ _. blank;
    }

pub loop-i-preserved : goal.loop-i-preserved
loop-i-preserved c = c.loop-i.invariant ∙ word-grows _ _ c.loop-i-test.true _ (omega arith) (sym c.is_blank.ensures ∙ c.if-is_blank.false)

pub returns : goal.returns
returns c =
    let s = c.args.s.now in
    let start = c.args.start in
    let end : c.loop-i.i ≡ length s = omega arith in
    record {
      low = c.requires.0;
      high = omega arith;
      first =
          c.loop-i.invariant ∙ ap (λ i. words_after (between start i s) (drop i s)) end ∙ word-ends s start _ c.requires.0 (omega arith) (omega arith);
      stops = λ h. absurd (omega arith);
    }
