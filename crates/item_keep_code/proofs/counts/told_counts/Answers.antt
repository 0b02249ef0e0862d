-- `item_keep_code::counts::told_counts` meets its contract.
-- Assumes nothing.
use mathlib.Core.Path.{◌≡◌, refl, ◌∙◌}
use Rattle.unit.specs.Choice.{both, negate}
use Rattle.item_answer.specs.OwnView.{tally_of}
use Rattle.item_words_code.proofs.Flags.{flagged, opposite}
use Rattle.item_keep_code.specs.OwnJudged.{tallied}
use Rattle.item_keep_code.proofs.counts.told_counts.Goals as goal
use Rattle.item_keep_code.proofs.counts.told_counts.Goals.{then-refused, else-refused}

pub returns : goal.returns
unfolding tally_of tallied
returns c =
    let unannounced : c.if-refused.from ≡ both c.args.refused (negate c.args.judged.agrees) =
    elim c.if-refused.branch [
      | then-refused w ↦ rw w.if-refused.true (w.from-is ∙ opposite c.args.judged.agrees)
      | else-refused w ↦ rw w.if-refused.false (w.from-is ∙ w.if-refused.false)
    ] in
    rw (flagged c.from.ensures refl, flagged c.from-2.ensures unannounced, flagged c.from-3.ensures refl, flagged c.from-4.ensures refl)
