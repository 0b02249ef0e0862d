-- The third demand's hypotheses can be met: a list of calls after which each event command is accepted, and calls that may
-- follow it. Two lists that differ in their probes alone, and what they leave.
use Prim.Native.Nat.{ℕ}
use mathlib.Core.Bool.{true, false}
use mathlib.Core.List.{List, [], ◌∷◌, ◌++◌, map}
use mathlib.Core.Path.{◌≡◌, refl}
use Rattle.device.specs.Model.{fresh_model}
use Rattle.device.specs.Registers.{register_word}
use Rattle.device.specs.Call.{Call, transaction, tick, flight, temperature, stretch}
use Rattle.device.specs.Reply.{number_in, reply}
use Rattle.device.specs.History.{Entry, after, log}
use Rattle.demands.specs.EventHistory.{is_refusal, only_reads}
use Rattle.demands.specs.Claim.{command}
use Rattle.demands.specs.Probes.{OtherProbesIn, same, values, none, next, Flow, flow_through}
use Rattle.worked_examples.proofs.Computed.{computed}

-- PL and DPL, TP, Initialize
abbrev pub before : List Call
before =
    transaction (0x38 ∷ 0x01 ∷ 0x10 ∷ []) [] [] ∷
    transaction (0x40 ∷ 0x00 ∷ 0x60 ∷ []) [] [] ∷
    transaction (0x05 ∷ []) [] [] ∷
    []

-- a tick, a stretch and a read of the status
abbrev pub later : List Call
later = tick ∷ stretch 2 ∷ transaction (0xFE ∷ 0 ∷ 0 ∷ []) (0 ∷ 0 ∷ []) [] ∷ []

pub events-accepted :
    map (λ (op : ℕ). number_in (reply (after fresh_model before) (command op [] [])).answer) (7 ∷ 8 ∷ 9 ∷ []) ≡ [] ∷ [] ∷ [] ∷ []
unfolding computed
events-accepted = refl

-- such a list, and none of its calls is refused
pub later-read :
    (map (λ (op : ℕ). only_reads (log (reply (after fresh_model before) (command op [] [])).model later)) (7 ∷ 8 ∷ 9 ∷ [])
    ≡ true ∷ true ∷ true ∷ []) ×
    (map (λ (e : Entry). is_refusal e.answer) (log (reply (after fresh_model before) (command 7 [] [])).model later)
    ≡ false ∷ false ∷ false ∷ [])
unfolding computed
later-read = (refl, refl)

-- An event of both kinds, with a delivery of each.
abbrev pub with_probes : List ℕ → List Call
with_probes w =
    before ++
    (command 7 [] [] ∷ temperature w ∷ flight (20000000 ∷ []) (19000000 ∷ []) ∷ tick ∷ stretch 2 ∷ [])

-- four whole ports, and four open ones
abbrev pub whole : List ℕ
whole = 4000000 ∷ 4000000 ∷ 4000000 ∷ 4000000 ∷ []

abbrev pub cut : List ℕ
cut = 0x80000000 ∷ 0x80000000 ∷ 0x80000000 ∷ 0x80000000 ∷ []

pub other-probes : OtherProbesIn (with_probes whole) (with_probes cut)
other-probes =
    next _ _ _ _ (same _)
    (next _ _ _ _ (same _)
    (next _ _ _ _ (same _)
    (next _ _ _ _ (same _)
    (next _ _ _ _ (values whole cut refl)
    (next _ _ _ _ (same _) (next _ _ _ _ (same _) (next _ _ _ _ (same _) none)))))))

-- HIT1UP, HIT1DN, TOF_DIFF, E4h and TOF_DIFF_AVG are those of 20,000,000 and 19,000,000 in both; T1 and EFh are not the same
pub probes-seen :
    map (λ (w : List ℕ). map (register_word (after fresh_model (with_probes w))) (0xC5 ∷ 0xD4 ∷ 0xE2 ∷ 0xE4 ∷ 0xE5 ∷ 0xE7 ∷ 0xEF ∷ []))
    (whole ∷ cut ∷ [])
    ≡ (305 ∷ 289 ∷ 15 ∷ 1 ∷ 15 ∷ 61 ∷ 1 ∷ []) ∷ (305 ∷ 289 ∷ 15 ∷ 1 ∷ 15 ∷ 0xFFFF ∷ 0 ∷ []) ∷ []
unfolding computed
probes-seen = refl

-- and the command's answer reports a start
pub start_seen :
    map (λ (f : Flow). f.started) (flow_through fresh_model [] (with_probes cut))
    ≡ 0 ∷ 0 ∷ 0 ∷ 1 ∷ 0 ∷ 0 ∷ 0 ∷ 0 ∷ []
unfolding computed
start_seen = refl
