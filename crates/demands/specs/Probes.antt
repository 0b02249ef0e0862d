-- A change of probes and the flow. Quotations are from Note 14 of the change requests where no other place is named.
use Rattle.std.specs.Prelude.{ℕ, List, [], ◌∷◌, ◌++◌, map, ◌≡◌, length}
use Rattle.device.specs.declared.Model.{Model}
use Rattle.device.specs.declared.Reply.{Reply}
use Rattle.device.specs.declared.Answer.{Answer}
use Rattle.device.specs.Registers.{register_word, upwards}
use Rattle.device.specs.Call.{Call, transaction, temperature, on_delivery}
use Rattle.device.specs.Reply.{reply}
use Rattle.demands.specs.EventHistory.{value_at}
use Rattle.demands.specs.FlashRun.{lent, memory_left}

-- Calls "that differ only in the values of delivered temperature words": as many words, of any values.
pub data OtherProbes : Call → Call → Type 0 where
  same : (c : Call) → OtherProbes c c
  values : (v w : List ℕ) → length v ≡ length w → OtherProbes (temperature v) (temperature w)
  -- "temperature registers and what reads of them return may differ": a buffer that is lent again may hold such bytes
  buffer : (f o p x : List ℕ) → length o ≡ length p → OtherProbes (transaction f o x) (transaction f p x)

-- "equal call lists" but for the values of delivered temperature words, call by call
pub data OtherProbesIn : List Call → List Call → Type 0 where
  none : OtherProbesIn [] []
  next : (c d : Call) (cs ds : List Call) → OtherProbes c d → OtherProbesIn cs ds → OtherProbesIn (c ∷ cs) (d ∷ ds)

-- Where "HIT, AVG, TOF_DIFF, E4h and TOF_DIFF_AVG" are read. 01: "Up results stand at C5h to D2h, down at D4h to E1h (HIT 1 to
-- 6, then AVG ..), TOF_DIFF E2h, E3h"; "averages (E5h, E6h; ..)"
unfoldable pub flow_registers : List ℕ
flow_registers =
    upwards 0xC5 14 ++
    upwards 0xD4 14 ++
    (0xE2 ∷ 0xE3 ∷ []) ++
    (0xE4 ∷ []) ++
    (0xE5 ∷ 0xE6 ∷ [])

-- What is compared after a call.
pub record Flow : Type 0 where
  -- "difference starts": 1 where a command's or a tick's answer reports one, the tick that a stretch's answer names, 0 for none
  pub started : ℕ
  pub words : List ℕ
  -- the user flash: no probe touches it
  pub memory : List ℕ

-- The first value of an answer is about difference starts, but for that of a delivery.
unfoldable pub start_of : Call → Answer → ℕ
start_of c a = on_delivery c (value_at 0 a) (λ u d. 0) (λ w. 0)

unfoldable pub flow_of : Call → Reply → List ℕ → Flow
flow_of c r x = record { started = start_of c r.answer; words = map (register_word r.model) flow_registers; memory = x }

-- A run has one user flash: each transaction is lent the memory that the calls before it left, whatever memory the list has there.
-- "after every call", from a model and a memory on
unfoldable pub flow_through : Model → List ℕ → List Call → List Flow
flow_through m x [] = []
flow_through m x (c ∷ cs) =
    flow_of (lent x c) (reply m (lent x c)) (memory_left m x c) ∷ flow_through (reply m (lent x c)).model (memory_left m x c) cs

-- "Two runs from equal models with equal call lists that differ only in the values of delivered temperature words must report
-- the same difference starts and the same .. words after every call." For every model, sound or not, every memory and every list,
-- refused calls among them.
abbrev pub ProbesClaim : Type 0
ProbesClaim = (m : Model) (x : List ℕ) (cs ds : List Call) → OtherProbesIn cs ds → flow_through m x cs ≡ flow_through m x ds
