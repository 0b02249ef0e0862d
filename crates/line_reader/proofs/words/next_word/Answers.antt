-- `line_reader::words::next_word` meets its contract.
-- Assumes nothing.
use mathlib.Core.Path.{sym, ◌∙◌}
use native.Mathlib.Omega.{arith}
use Rattle.line.proofs.WordLaws.{words-end}
use Rattle.line_reader.proofs.words.next_word.Goals as goal

pub word_end-requires : goal.word_end-requires
word_end-requires c = (c.if-start-s.true, c.skip_blanks-start.ensures.stops c.if-start-s.true)

pub returns-then-start-s : goal.returns-then-start-s
returns-then-start-s c =
    let k = c.skip_blanks-start.ensures in
    let e = c.word_end.ensures in
    record {
      low = k.low;
      ordered = omega arith;
      high = e.high;
      some = λ _. sym k.alike ∙ e.first;
      none = λ h. absurd (omega arith);
      stops = λ _. e.stops;
    }

pub returns-else-start-s : goal.returns-else-start-s
returns-else-start-s c =
    let k = c.skip_blanks-start.ensures in
    record {
      low = k.low;
      ordered = omega arith;
      high = k.high;
      some = λ h. absurd (omega arith);
      none = λ _. sym k.alike ∙ words-end _ _ c.if-start-s.false;
      stops = λ h. absurd (omega arith);
    }
