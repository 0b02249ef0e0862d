-- `text_code::words::next_word` meets its contract.
-- Assumes nothing.
use mathlib.Core.Path.{sym, ◌∙◌}
use native.Mathlib.Omega.{arith}
use Rattle.text_code.proofs.WordLaws.{words-end}
use Rattle.text_code.proofs.words.next_word.Goals as goal

pub returns-else-start-s : goal.returns-else-start-s
returns-else-start-s c =
    let k = c.skip_blanks-start.ensures in
    record {
      low = k.low;
      ordered = omega arith;
      high = k.high;
      some = λ h. absurd (omega arith);
      none = λ _. sym k.alike ∙ words-end _ _ c.if-start-s.false;
      rest = rw (← k.alike, words-end _ _ c.if-start-s.false);
      stops = λ h. absurd (omega arith);
    }
