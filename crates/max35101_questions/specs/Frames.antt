-- The set-up as bus frames, in lent buffers.
use Rattle.std.specs.Prelude.{ℕ, ◌≡◌, List, length}
use Rattle.device.specs.declared.Model.{Model}
use Rattle.setup_frames.specs.Frames.{frames_verdict, answer_by, bytes_by, lengths_by, values_framed}
use Rattle.layout.specs.Code.{Gives}
use Rattle.refusal.specs.Number.{number_told}

-- Set-up frames: the answer's number and sizes, and both buffers.
pub record SetUp (m : Model) (bytes lengths sizes : List ℕ) (code : ℕ) (bytes' lengths' sizes' : List ℕ) : Type 0 where
  pub answer :
      Gives number_told values_framed (answer_by (frames_verdict m (length bytes) (length lengths)) m.setup) sizes code sizes'
  pub in_bytes : bytes' ≡ bytes_by (frames_verdict m (length bytes) (length lengths)) m.setup bytes
  pub in_lengths : lengths' ≡ lengths_by (frames_verdict m (length bytes) (length lengths)) m.setup lengths
