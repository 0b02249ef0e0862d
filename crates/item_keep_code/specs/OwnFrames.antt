-- The frames of a model's set-up, as code holds them. Assumes nothing.
use Rattle.std.specs.Prelude.{ℕ, List, ◌≡◌, length, take}
use Rattle.device.specs.declared.Model.{Model}
use Rattle.setup_frames.specs.Frames.{frames}
use Rattle.setup_frames.specs.Sending.{cut}

-- The first `used` bytes are the frames, and the first `count` lengths theirs.
pub record Holds (m : Model) (bytes lengths : List ℕ) (used count : ℕ) : Type 0 where
  pub held : cut (take count lengths) (take used bytes) ≡ frames m.setup
  pub counted : count ≡ length (frames m.setup)
