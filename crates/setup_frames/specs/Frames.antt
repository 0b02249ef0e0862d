-- The frames that bring 34h to 43h of a fresh model to a set-up's words, and the call that writes them. Quotations are from
-- Note 10 of the change requests, but for those that name 01. A set-up is the sixteen words, 34h first.
use Rattle.std.specs.Prelude.{ℕ, zero, suc, ◌+◌, ◌-◌, ◌/◌, ◌%◌, Bool, false, ◌≡◌, List, [], ◌∷◌, ◌++◌, map, length, get_or, drop, ltb, eqb}
use Rattle.unit.specs.Choice.{pick, either, negate}
use Rattle.unit.specs.Says.{Says}
use Rattle.setup.specs.Setup.{factory}
use Rattle.device.specs.declared.Model.{Model}
use Rattle.device.specs.Model.{is_sound}
use Rattle.device.specs.Call.{Verdict, accepted, refused, row, first_of}
use Rattle.refusal.specs.declared.Refusal.{Refusal}
use Rattle.setup_frames.specs.declared.put.Counts.{Counts}
use Rattle.std.specs.Prelude.{Result, Ok, Err}
use Rattle.refusal.specs.Number.{number_told, values_told}

-- "differing words": the word of register 34h + i is not that of a fresh model
unfoldable pub differs : List ℕ → ℕ → Bool
differs s i = negate (eqb (get_or s i 0) (get_or factory i 0))

-- whether the word before that of 34h + i differs; before 34h there is none
unfoldable pub differs_before : List ℕ → ℕ → Bool
differs_before s i = pick (eqb i 0) false (differs s (i - 1))

-- "maximal runs of differing words": one starts where a word differs and the word before it does not
unfoldable pub starts : List ℕ → ℕ → Bool
starts s i = pick (differs_before s i) false (differs s i)

-- The words of a run: as many as differ, of the k from i on, up to the first that does not.
unfoldable pub run_length : List ℕ → ℕ → ℕ → ℕ
run_length s i zero = 0
run_length s i (suc k) = pick (differs s i) (suc (run_length s (suc i) k)) 0

-- 01: "Words go high byte first": n words from i on
unfoldable pub bytes_of : List ℕ → ℕ → ℕ → List ℕ
bytes_of s i zero = []
bytes_of s i (suc n) = get_or s i 0 / 256 % 256 ∷ get_or s i 0 % 256 ∷ bytes_of s (suc i) n

-- "one write each" (01: "The opcode is the first byte", "30h to 43h write")
unfoldable pub frame_at : List ℕ → ℕ → List ℕ
frame_at s i = (0x34 + i) ∷ bytes_of s i (run_length s i (16 - i))

-- "in rising address order": of the runs that start at one of the k registers from i on
unfoldable pub frames_from : List ℕ → ℕ → ℕ → List (List ℕ)
frames_from s i zero = []
frames_from s i (suc k) = pick (starts s i) (frame_at s i ∷ frames_from s (suc i) k) (frames_from s (suc i) k)

unfoldable pub frames : List ℕ → List (List ℕ)
frames s = frames_from s 0 16

-- "Bytes go to one lent buffer, frame lengths to another"
unfoldable pub all_bytes : List (List ℕ) → List ℕ
all_bytes [] = []
all_bytes (f ∷ fs) = f ++ all_bytes fs

unfoldable pub lengths_of : List (List ℕ) → List ℕ
lengths_of fs = map length fs

-- "places past those counts keep their values"
unfoldable pub over : List ℕ → List ℕ → List ℕ
over buffer values = values ++ drop (length values) buffer

-- "number 19, short buffer, when there are fewer than 33 byte or 8 length places, whatever words the model holds, after
-- number 0": by the number of byte and length places
unfoldable pub frames_verdict : Model → ℕ → ℕ → Verdict
frames_verdict m bytes lengths =
    first_of (row Refusal.NotSound (negate (is_sound m)) ∷ row Refusal.ShortBuffer (either (ltb bytes 33) (ltb lengths 8)) ∷ [])

-- "counts in the answer": bytes, frames
unfoldable pub answer_by : Verdict → List ℕ → Result Counts Refusal
answer_by accepted s = Ok (record { bytes = length (all_bytes (frames s)); frames = length (frames s) })
answer_by (refused r) s = Err r

unfoldable pub bytes_by : Verdict → List ℕ → List ℕ → List ℕ
bytes_by accepted s buffer = over buffer (all_bytes (frames s))
bytes_by (refused r) s buffer = buffer

unfoldable pub lengths_by : Verdict → List ℕ → List ℕ → List ℕ
lengths_by accepted s buffer = over buffer (lengths_of (frames s))
lengths_by (refused r) s buffer = buffer

-- What an answer says where it is no refusal: the counts of bytes and of frames.
abbrev pub values_framed : Result Counts Refusal → List ℕ
values_framed = values_told (λ c. c.bytes ∷ c.frames ∷ [])

-- The call, by the model and both buffers as they were: its answer, and both as it leaves them.
pub record Written (m : Model) (bytes lengths : List ℕ) (r : Result Counts Refusal) (bytes' lengths' : List ℕ) : Type 0 where
  pub answer : Says number_told values_framed r (answer_by (frames_verdict m (length bytes) (length lengths)) m.setup)
  pub in_bytes : bytes' ≡ bytes_by (frames_verdict m (length bytes) (length lengths)) m.setup bytes
  pub in_lengths : lengths' ≡ lengths_by (frames_verdict m (length bytes) (length lengths)) m.setup lengths
