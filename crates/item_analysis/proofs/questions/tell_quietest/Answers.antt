-- `item_analysis::questions::tell_quietest` meets its contract.
-- Assumes nothing.
use Prim.Native.Nat.{ℕ}
use mathlib.Core.List.{List}
use mathlib.Core.Path.{◌≡◌, ap, ◌∙◌}
use lib.IntN.{ℤ}
use denote.Ref.{Bor}
use Rattle.quietest.specs.Quietest.{quietest_place, PartOf, Handed, run_spread}
use Rattle.item_analysis.specs.Lines.{quietest_told}
use Rattle.item_state.specs.Log.{called}
use Rattle.item_analysis.proofs.questions.tell_quietest.Goals as goal
use Rattle.refusal.specs.declared.Refusal.{Refusal}
use Rattle.std.specs.Prelude.{Result, Ok}

handed : {place : Result ℕ Refusal} {w start : ℕ} {s r : Bor (List ℤ)} (given : Result ℕ Refusal) → place ≡ given → place ≡ Ok start → Handed given w s r
    → PartOf s r start w
handed given e found h = rw (← e, found) at h

pub returns-in-Ok : goal.returns-in-Ok
unfolding quietest_told called
returns-in-Ok c = let run = handed (quietest_place c.args.values.now c.args.width) c.requires c.in-Ok.is c.quietest.ensures.0 in rw (c.in-Ok.is, ← (c.run_spread-spread.ensures ∙ ap run_spread run.elements), ← c.put_quietest-used.ensures.next, ← c.put_quietest-used.ensures.bytes, ← c.count.ensures)

pub returns-in-Err : goal.returns-in-Err
unfolding quietest_told called
returns-in-Err c = rw (c.in-Err.is, ← c.put_quietest_refused-used.ensures.next, ← c.put_quietest_refused-used.ensures.bytes, ← c.count-in-Err.ensures)
