-- `item_keep_code::analysis::last_above` meets its contract.
-- Assumes nothing.
use mathlib.Core.Bool.{true}
use mathlib.Core.Logic.Iff
use mathlib.Core.Logic.{◌↔◌}
use mathlib.Core.Path.{◌≡◌}
use borrow.Author.Rules.{rules}
use Rattle.refusal.specs.declared.Refusal.{Refusal}
use Rattle.item_keep_code.proofs.Listed.{above-written, above-refused, same_by}
use Rattle.item_keep_code.proofs.analysis.last_above.Goals as goal

pub returns-in-Ok : goal.returns-in-Ok
returns-in-Ok c = above-written _ _ _ _ c.write_listing_as.ensures.same c.in-Ok.is

pub returns-in-Err : goal.returns-in-Err
returns-in-Err c =
    let same : (c.eq.result ≡ true) ↔ (c.in-Err.refusal ≡ Refusal.LastCapture) = search rules in
    same_by _ _ (Iff.trans same (above-refused _ _ _ _ c.write_listing_as.ensures.same c.in-Err.is))
