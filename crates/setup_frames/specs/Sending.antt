-- What the frames do when they are sent. Quotations are from Note 10 of the change requests.
use Rattle.std.specs.Prelude.{ℕ, ◌≤◌, Bool, true, List, [], ◌∷◌, map, ◌≡◌, length, take, drop}
use Rattle.unit.specs.Choice.{both}
use Rattle.frame.specs.Frame.{is_write}
use Rattle.device.specs.Model.{fresh_model}
use Rattle.device.specs.Call.{Call, transaction, opcode}
use Rattle.device.specs.History.{after}
use Rattle.setup_frames.specs.Frames.{all_bytes}
use Rattle.refusal.specs.declared.Refusal.{Refusal}
use Rattle.setup_frames.specs.declared.put.Counts.{Counts}
use Rattle.std.specs.Prelude.{Result, Ok, Err}
use Rattle.refusal.specs.Number.{number_told}

-- "Sending them": each frame is one transaction, with no output buffer and no memory
abbrev pub sent : List (List ℕ) → List Call
sent fs = map (λ (f : List ℕ). transaction f [] []) fs

-- "Sending them to a fresh model gives": its set-up afterwards
unfoldable pub setup_from : List (List ℕ) → List ℕ
setup_from fs = (after fresh_model (sent fs)).setup

-- a "list of write frames"
unfoldable pub only_writes : List (List ℕ) → Bool
only_writes [] = true
only_writes (f ∷ fs) = both (is_write (opcode f)) (only_writes fs)

-- "Bytes go to one lent buffer, frame lengths to another": bytes cut into frames by their lengths
unfoldable pub cut : List ℕ → List ℕ → List (List ℕ)
cut [] bytes = []
cut (n ∷ ns) bytes = take n bytes ∷ cut ns (drop n bytes)

-- the frames that a call's answer and the buffers that it leaves hold; a refusal has none
unfoldable pub frames_left : Result Counts Refusal → List ℕ → List ℕ → List (List ℕ)
frames_left (Ok c) bytes lengths = cut (take c.frames lengths) (take c.bytes bytes)
frames_left (Err r) bytes lengths = []

-- "Sending them to a fresh model gives the same sixteen words, and every other list of write frames that does so has at least as many
-- bytes."
pub record Brings (fs : List (List ℕ)) (s : List ℕ) : Type 0 where
  pub writes : only_writes fs ≡ true
  pub same : setup_from fs ≡ s
  pub fewest : (others : List (List ℕ)) → only_writes others ≡ true → setup_from others ≡ s → length (all_bytes fs) ≤ length (all_bytes others)

-- What an accepted call leaves, sent to a fresh model.
abbrev pub Sent : List ℕ → Result Counts Refusal → List ℕ → List ℕ → Type 0
Sent s r bytes lengths = number_told r ≡ [] → Brings (frames_left r bytes lengths) s
