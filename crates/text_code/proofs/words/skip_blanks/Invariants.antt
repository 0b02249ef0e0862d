-- `text_code::words::skip_blanks` meets its contract. The invariant: the words from i on are those from the start on.
use mathlib.Core.Path.{◌≡◌}
use lib.ListN.{drop}
use Rattle.text.specs.Text.{words}
use Rattle.text_code.proofs.words.skip_blanks.Given as goal

abbrev pub invariant-loop-i : goal.invariant-loop-i
invariant-loop-i l = words (drop l.i l.s) ≡ words (drop l.at l.s)
