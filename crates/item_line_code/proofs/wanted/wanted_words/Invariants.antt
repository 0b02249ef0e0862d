-- `item_line_code::wanted::wanted_words` meets its contract. Assumes nothing.
use Prim.Native.Nat.{◌-◌, ◌≤◌}
use Rattle.text.specs.Text.{words}
use Rattle.text_code.specs.OwnWords.{between}
use Rattle.item_line_code.proofs.WantedLaws.{Judged}
use Rattle.item_line_code.proofs.wanted.wanted_words.Given as goal

abbrev pub invariant-loop-i : goal.invariant-loop-i
invariant-loop-i l = (l.initial.i ≤ l.i) × (l.i ≤ l.end) × (l.count ≤ l.i) × Judged l.most (words (between l.initial.i l.end l.text)) (words (between l.i l.end l.text)) l.count

abbrev pub decreases-loop-i : goal.decreases-loop-i
decreases-loop-i l = l.end - l.i
