-- A continuous event of both kinds over more than one group: what reads of FEh give, and what the third demand says of it.
use Prim.Native.Nat.{ℕ, ◌/◌, ◌%◌}
use native.Mathlib.Omega.{arith}
use mathlib.Core.Bool.{true, false}
use mathlib.Core.List.{List, [], ◌∷◌, ◌++◌, map}
use mathlib.Core.Path.{◌≡◌, refl, ap, ◌∙◌}
use lib.ListN.{length, get_or}
use Rattle.device.specs.declared.Reply.{Reply}
use Rattle.device.specs.Model.{is_sound, fresh_model}
use Rattle.device.specs.Registers.{register_word}
use Rattle.device.specs.Call.{Call, transaction, flight, temperature, stretch}
use Rattle.device.specs.Reply.{number_in, reply}
use Rattle.device.specs.History.{after, log, Kind, differences, temperatures}
use Rattle.demands.specs.EventHistory.{only_reads, Plan, plan_of, runs, History}
use Rattle.demands.specs.Claim.{reached, planned_starts, tick_count, command, told_of, EventClaim}
use Rattle.demands.specs.SetupTold.{setup_told}
use Rattle.device.proofs.Sound.{keeps-sound}
use Rattle.demands.proofs.SoundMeaning.{made-sound}
use Rattle.demands.proofs.ThirdDemand.{third-demand}
use Rattle.worked_examples.proofs.Computed.{computed}
use Rattle.worked_examples.proofs.Quickly.{moves, reply_to, quick_reply, Run, quick_run, outputs, same-run}
use Rattle.worked_examples.proofs.Witness.{before, whole}

-- A continuous event of both kinds with N = 2, so that each has groups of two: 3Fh has TDM 1 (P 16,384) and TMF 0 (P 32,768), 40h TMM 1,
-- 42h ET_CONT, and CONT_INT where its low byte is 80h.
abbrev pub set_up : ℕ → List Call
set_up low =
    before ++
    (transaction (0x3F ∷ 0x00 ∷ 0x80 ∷ 0x08 ∷ 0x60 ∷ []) [] [] ∷ transaction (0x42 ∷ 0x01 ∷ low ∷ []) [] [] ∷ [])

-- The answer to 07h, and the model that accepted it.
abbrev pub started : ℕ → Reply
started low = reply (after fresh_model (set_up low)) (command 7 [] [])

sound-started : (low : ℕ) → is_sound (started low).model ≡ true
sound-started low = keeps-sound (after fresh_model (set_up low)) (command 7 [] []) (made-sound (set_up low))

-- a delivery with a good difference of 2,000,000 quanta, one with a late word, and a read of FEh
abbrev good : Call
good = flight (20000000 ∷ []) (18000000 ∷ [])

abbrev late : Call
late = flight (33554432 ∷ []) (19000000 ∷ [])

abbrev pub read_status : Call
read_status = transaction (0xFE ∷ 0 ∷ 0 ∷ []) (0 ∷ 0 ∷ []) []

-- Both settle their first at 0. Differences settle the second of their first group at 16,384, with a late word, and start the next group
-- at 32,768, where temperatures settle the second of their first. The difference of 32,768 expires, and the next, at 49,152, is good.
abbrev pub over_groups : List Call
over_groups =
    good ∷
    temperature whole ∷
    read_status ∷
    stretch 16384 ∷
    late ∷
    read_status ∷
    stretch 16384 ∷
    temperature whole ∷
    read_status ∷
    stretch 8192 ∷
    read_status ∷
    stretch 8192 ∷
    good ∷
    []

pub continuous-accepted : number_in (started 0x00).answer ≡ []
unfolding computed
continuous-accepted = refl

pub plans-are :
    map (λ (k : Kind). plan_of k (setup_told (log fresh_model (set_up 0x00)))) (differences ∷ temperatures ∷ [])
    ≡ record { period = 16384; count = 2; continuous = true; each = false } ∷
    record { period = 32768; count = 2; continuous = true; each = false } ∷
    []
unfolding computed
plans-are = refl

-- The calls of `over_groups` are accepted, and hold 49,152 ticks.
quick-log :
    (only_reads (quick_run (started 0x00).model over_groups).log ≡ true) ×
    (tick_count (quick_run (started 0x00).model over_groups).log ≡ 49152)
unfolding computed quick_run quick_reply reply_to moves
quick-log = (refl, refl)

same_log : log (started 0x00).model over_groups ≡ (quick_run (started 0x00).model over_groups).log
same_log = ap (λ (r : Run). r.log) (same-run (started 0x00).model over_groups (sound-started 0x00))

pub groups-read :
    (only_reads (log (started 0x00).model over_groups) ≡ true) × (tick_count (log (started 0x00).model over_groups) ≡ 49152)
groups-read = rw same_log quick-log

-- What the five reads of FEh give, the last behind `over_groups`: INIT and POR; TO and TOF_EVTMG; TEMP_EVTMG; TO; TOF_EVTMG of the second
-- group. With CONT_INT also TOF and TE; TOF; TE; TOF; TOF.
quick-bits :
    map (λ (low : ℕ). (quick_run (started low).model (over_groups ++ (read_status ∷ []))).outputs) (0x00 ∷ 0x80 ∷ [])
    ≡ (0x00 ∷ 0x0C ∷ 0x82 ∷ 0x00 ∷ 0x01 ∷ 0x00 ∷ 0x80 ∷ 0x00 ∷ 0x02 ∷ 0x00 ∷ []) ∷
    (0x18 ∷ 0x0C ∷ 0x92 ∷ 0x00 ∷ 0x09 ∷ 0x00 ∷ 0x90 ∷ 0x00 ∷ 0x12 ∷ 0x00 ∷ []) ∷
    []
unfolding computed quick_run quick_reply reply_to moves
quick-bits = refl

pub bits-read :
    map (λ (low : ℕ). outputs (started low).model (over_groups ++ (read_status ∷ []))) (0x00 ∷ 0x80 ∷ [])
    ≡ (0x00 ∷ 0x0C ∷ 0x82 ∷ 0x00 ∷ 0x01 ∷ 0x00 ∷ 0x80 ∷ 0x00 ∷ 0x02 ∷ 0x00 ∷ []) ∷
    (0x18 ∷ 0x0C ∷ 0x92 ∷ 0x00 ∷ 0x09 ∷ 0x00 ∷ 0x90 ∷ 0x00 ∷ 0x12 ∷ 0x00 ∷ []) ∷
    []
bits-read = rw (put 0x00, put 0x80) quick-bits
  where
    put :
        (low : ℕ) →
        outputs (started low).model (over_groups ++ (read_status ∷ []))
        ≡ (quick_run (started low).model (over_groups ++ (read_status ∷ []))).outputs
    put low = ap (λ (r : Run). r.outputs) (same-run (started low).model (over_groups ++ (read_status ∷ [])) (sound-started low))

-- E4h to E6h of the differences' second group: one good of 2,000,000 quanta; EFh of the temperatures' first: two; FEh: TOF_EVTMG
quick-held :
    map (register_word (quick_run (started 0x00).model over_groups).end) (0xE4 ∷ 0xE5 ∷ 0xE6 ∷ 0xEF ∷ 0xFE ∷ [])
    ≡ 1 ∷ 0x001E ∷ 0x8480 ∷ 2 ∷ 0x0200 ∷ []
unfolding computed quick_run quick_reply reply_to moves
quick-held = refl

pub groups-held :
    map (register_word (after (started 0x00).model over_groups)) (0xE4 ∷ 0xE5 ∷ 0xE6 ∷ 0xEF ∷ 0xFE ∷ [])
    ≡ 1 ∷ 0x001E ∷ 0x8480 ∷ 2 ∷ 0x0200 ∷ []
groups-held =
    rw (ap (λ (r : Run). r.end) (same-run (started 0x00).model over_groups (sound-started 0x00))) quick-held

-- What the third demand says of it.
both_run : (k : Kind) → runs k 7 ≡ true
unfolding runs
both_run k = refl

abbrev told : Kind → History
told = told_of (setup_told (log fresh_model (set_up 0x00))) (after fresh_model (set_up 0x00)) (started 0x00) (log (started 0x00).model over_groups)

claim :
    EventClaim (setup_told (log fresh_model (set_up 0x00))) (after fresh_model (set_up 0x00)) 7 (log (started 0x00).model over_groups) told
    (after (started 0x00).model over_groups)
claim = third-demand (set_up 0x00) 7 [] [] over_groups (omega arith) (omega arith) continuous-accepted groups-read.0

planned :
    map (λ (p : Plan). planned_starts p 49152)
    (record { period = 16384; count = 2; continuous = true; each = false } ∷
    record { period = 32768; count = 2; continuous = true; each = false } ∷
    [])
    ≡ (0 ∷ 16384 ∷ 32768 ∷ 49152 ∷ []) ∷ (0 ∷ 32768 ∷ []) ∷ []
unfolding planned_starts reached
planned = refl

starts-told : (k : Kind) → (told k).starts ≡ planned_starts (plan_of k (setup_told (log fresh_model (set_up 0x00)))) 49152
starts-told k =
    (claim.kinds k (both_run k)).starts ∙
    ap (planned_starts (plan_of k (setup_told (log fresh_model (set_up 0x00))))) (claim.ticks k ∙ groups-read.1)

-- The starts are those of two groups, the kinds each in its own time;
pub two-groups : map (λ (k : Kind). (told k).starts) (differences ∷ temperatures ∷ []) ≡ (0 ∷ 16384 ∷ 32768 ∷ 49152 ∷ []) ∷ (0 ∷ 32768 ∷ []) ∷ []
two-groups = rw (starts-told differences, starts-told temperatures) (ap (map (λ (p : Plan). planned_starts p 49152)) plans-are ∙ planned)

-- the good deliveries of the current group alone are counted;
pub current-alone : map (λ (k : Kind). length (told k).good) (differences ∷ temperatures ∷ []) ≡ 1 ∷ 2 ∷ []
current-alone =
    rw (← (claim.kinds differences (both_run differences)).count, ← (claim.kinds temperatures (both_run temperatures)).count)
    (ap (λ (l : List ℕ). get_or l 0 0 ∷ get_or l 3 0 ∷ []) groups-held)

-- and TOF_EVTMG is told, of the N-th settling since FEh was read.
pub bits-told : map (λ (k : Kind). (told k).evtmg) (differences ∷ temperatures ∷ []) ≡ 1 ∷ 0 ∷ []
bits-told =
    rw (← claim.evtmg differences, ← claim.evtmg temperatures)
    (ap (λ (l : List ℕ). get_or l 4 0 / 512 % 2 ∷ get_or l 4 0 / 256 % 2 ∷ []) groups-held)
