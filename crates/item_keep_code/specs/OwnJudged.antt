-- What code tells of an answer that is held against what its line expects. Assumes nothing.
use Rattle.std.specs.Prelude.{ℕ, Bool, List, [], ◌∷◌, ◌++◌, ◌≡◌}
use Rattle.unit.specs.Choice.{both, negate}
use Rattle.device.specs.Reply.{flag}
use Rattle.text.specs.Text.{Text, text_where}
use Rattle.text.specs.OwnPut.{Puts}
use Rattle.text.specs.OwnPart.{part}
use Rattle.item_line.specs.Line.{Expected}
use Rattle.item_answer.specs.Step.{Tally, agrees, disagrees, expected_text, expects}
use Rattle.item_keep_code.specs.declared.Judged.{Judged}

-- What is expected, where the line disagrees, and the line feed are put into l after the line, at the place `at`, which leaves l'.
pub record Judges (l : List ℕ) (at : ℕ) (line : Text) (x : Expected) (j : Judged) (l' : List ℕ) : Type 0 where
  pub text : Puts l at (text_where (disagrees x line) (expected_text x) ++ (10 ∷ [])) j.end l'
  pub agrees : j.agrees ≡ agrees x line
  pub differs : j.differs ≡ disagrees x line
  pub expects : j.expects ≡ expects x

-- The line that stands in l from a place to another.
abbrev pub line_at : List ℕ → ℕ → ℕ → Text
line_at l start end = part l record { start = start; end = end }

-- What an answer adds to the counts.
unfoldable pub tallied : ℕ → Bool → Judged → Tally
tallied calls refused j = record {
  calls = calls;
  refused = flag refused;
  unannounced = flag (both refused (negate j.agrees));
  bad = 0;
  expectations = flag j.expects;
  differ = flag j.differs;
}

-- And a bad line.
abbrev pub bad_tally : Tally
bad_tally = record { calls = 0; refused = 0; unannounced = 0; bad = 1; expectations = 0; differ = 0 }
