-- `item_analysis::questions::first_of` meets its contract.
-- Assumes nothing.
use mathlib.Core.Path.{sym}
use native.Mathlib.Omega.{arith}
use lib.Seq.{length-take-le, take_all}
use Rattle.item_analysis.proofs.questions.first_of.Goals as goal

pub slice_bounds-result-end : goal.slice_bounds-result-end
slice_bounds-result-end c = sym (length-take-le _ c.args.kept.now c.if-n-kept.true)

pub returns-else-n-kept : goal.returns-else-n-kept
returns-else-n-kept c = sym (take_all c.args.n c.args.kept.now (omega arith))
