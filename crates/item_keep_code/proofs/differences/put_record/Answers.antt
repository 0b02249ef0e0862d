-- `item_keep_code::differences::put_record` meets its contract.
-- Assumes nothing.
use Rattle.item_answer.specs.Answer.{added}
use Rattle.item_keep_code.proofs.Adding.{length-zero, added-some}
use mathlib.Core.Path.{sym, ◌∙◌}
use lib.ListN.{length}
use borrow.Author.Tests.{eqb-true, eqb-false}
use Rattle.item_keep_code.proofs.differences.put_record.Goals as goal

pub returns-then-is_empty : goal.returns-then-is_empty
unfolding added
returns-then-is_empty c = let none = length-zero c.args.words.now (eqb-true (length c.args.words.now) 0 (sym c.is_empty.ensures ∙ c.if-is_empty.true)) in rw (none, ← c.tof_diff.ensures) c.put_added.ensures

pub returns : goal.returns
unfolding added
returns c = rw (added-some c.args.words.now c.args.m (eqb-false (length c.args.words.now) 0 (sym c.is_empty.ensures ∙ c.if-is_empty.false))) c.put_added-2.ensures
