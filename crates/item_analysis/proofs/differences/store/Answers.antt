-- `item_analysis::differences::store` meets its contract: a value more in each turn.
-- Assumes nothing.
use borrow.Author.Rules.{rules}
use mathlib.Core.Path.{ap, ◌∙◌}
use lib.IntN.{ℤ}
use mir.Syntax.{w32}
use mir.ValLaws.{to_z-of_z}
use Rattle.difference.specs.Difference.{signed_of}
use Rattle.item_analysis.specs.Kept.{kept_one}
use Rattle.item_analysis.proofs.Steps.{kept_on, kept-end}
use Rattle.item_analysis.proofs.differences.store.Goals as goal

pub loop-word-preserved : goal.loop-word-preserved
loop-word-preserved c = kept_on signed_of c.args.words.now c.loop-word.word-index c.loop-word-test.true record { values = c.loop-word.kept; used = c.loop-word.end } (c.put-end.ensures ∙ ap (λ (z : ℤ). kept_one z record { values = c.loop-word.kept; used = c.loop-word.end }) (to_z-of_z w32 c.signed.result (search rules) ∙ c.signed.ensures)) c.loop-word.invariant

pub returns : goal.returns
returns c = kept-end signed_of c.args.words.now c.loop-word.word-index c.loop-word-test.false record { values = c.loop-word.kept; used = c.loop-word.end } c.loop-word.invariant
