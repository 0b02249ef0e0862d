-- An event ends when all are settled: a list of calls after which a write is number 6, busy, and one call later is not. The third
-- demand's `running` and `ended` speak of such lists.
use Prim.Native.Nat.{ℕ}
use mathlib.Core.List.{List, [], ◌∷◌, map}
use mathlib.Core.Path.{◌≡◌, refl}
use Rattle.device.specs.declared.Reply.{Reply}
use Rattle.device.specs.Model.{fresh_model}
use Rattle.device.specs.Call.{Call, flight}
use Rattle.device.specs.Reply.{reply}
use Rattle.device.specs.History.{after, log, differences}
use Rattle.demands.specs.EventHistory.{plan_of, settled_of}
use Rattle.demands.specs.Claim.{write_number, command, told_of}
use Rattle.demands.specs.SetupTold.{setup_told}
use Rattle.worked_examples.proofs.Computed.{computed}
use Rattle.worked_examples.proofs.Witness.{before}

-- An event of one difference, accepted; and its delivery.
abbrev pub begun : Reply
begun = reply (after fresh_model before) (command 8 [] [])

abbrev pub delivered : List Call
delivered = flight (20000000 ∷ []) (19000000 ∷ []) ∷ []

-- 38h := 0110h, before and after it
pub event-ends :
    map (λ (cs : List Call). write_number (after begun.model cs) 0x38 0x01 0x10 [] []) ([] ∷ delivered ∷ []) ≡ (6 ∷ []) ∷ [] ∷ []
unfolding computed
event-ends = refl

-- 0 of its 1 difference are settled before the delivery, and all after it: what `running` and `ended` ask
pub settled-told :
    let s : List ℕ = setup_told (log fresh_model before) in
    (map (λ (cs : List Call). settled_of (told_of s (after fresh_model before) begun (log begun.model cs) differences)) ([] ∷ delivered ∷ [])
    ≡ 0 ∷ 1 ∷ []) ×
    ((plan_of differences s).count ≡ 1)
unfolding computed
settled-told = (refl, refl)
