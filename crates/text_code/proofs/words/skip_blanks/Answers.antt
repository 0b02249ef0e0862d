-- `text_code::words::skip_blanks` meets its contract. Assumes nothing.
use mathlib.Core.Path.{◌≡◌, sym, ap, ◌∙◌}
use native.Mathlib.Omega.{arith}
use lib.ListN.{length, drop}
use Rattle.text.specs.Text.{words}
use Rattle.text_code.proofs.WordLaws.{words-blank}
use Rattle.text_code.proofs.words.skip_blanks.Goals as goal

pub returns-then-not-is_blank : goal.returns-then-not-is_blank
returns-then-not-is_blank c =
    record { low = c.loop-i.auto.i; high = omega arith; alike = c.loop-i.invariant; stops = λ _. sym c.is_blank.ensures ∙ c.if-not-is_blank.true }

pub loop-i-preserved : goal.loop-i-preserved
loop-i-preserved c = words-blank _ _ c.loop-i-test.true (sym c.is_blank.ensures ∙ c.if-not-is_blank.false) ∙ c.loop-i.invariant

pub returns : goal.returns
returns c =
    let end : c.loop-i.i ≡ length c.args.s.now = omega arith in
    record {
      low = c.requires;
      high = omega arith;
      alike = sym (ap (λ i. words (drop i c.args.s.now)) end) ∙ c.loop-i.invariant;
      stops = λ h. absurd (omega arith);
    }
