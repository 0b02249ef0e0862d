-- `finding::framed` meets its contract.
use Prim.Native.Nat.{ℕ}
use mathlib.Core.List.{List}
use mathlib.Core.Path.{ap, ◌∙◌}
use lib.ListN.{set}
use Rattle.finding.proofs.framed.Goals as goal

pub returns-in-Ok : goal.returns-in-Ok
returns-in-Ok c =
    record { coded = rw c.in-Ok.is; worded = rw c.in-Ok.is (c.put-in-Ok.ensures ∙ ap (λ (l : List ℕ). set l 1 c.in-Ok.counts.frames) c.put.ensures) }

pub returns-in-Err : goal.returns-in-Err
returns-in-Err c = record { coded = rw c.in-Err.is c.number.ensures.0; worded = rw c.in-Err.is }
