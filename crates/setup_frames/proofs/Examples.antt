-- Frames of some set-ups, computed.
use mathlib.Core.List.{[], ◌∷◌}
use mathlib.Core.Path.{◌≡◌, refl}
use Rattle.setup.specs.Setup.{factory}
use Rattle.setup_frames.specs.Frames.{differs, differs_before, starts, run_length, bytes_of, frame_at, frames_from, frames}
use Rattle.refusal.specs.declared.Refusal.{Refusal}
use Rattle.setup_frames.specs.declared.put.Counts.{Counts}
use Rattle.std.specs.Prelude.{Result, Ok, Err}

-- a fresh model's own words need no frame
pub none-of-factory : frames factory ≡ []
unfolding factory differs differs_before starts run_length bytes_of frame_at frames_from frames
none-of-factory = refl

-- PL, DPL and STOP in 38h and 39h, INT_EN in 42h: two frames
pub two-frames :
    frames (0 ∷ 0 ∷ 0 ∷ 0 ∷ 0x1010 ∷ 0x2000 ∷ 0 ∷ 0 ∷ 0 ∷ 0 ∷ 0 ∷ 0 ∷ 0 ∷ 0 ∷ 0x0200 ∷ 0 ∷ [])
    ≡ (0x38 ∷ 0x10 ∷ 0x10 ∷ 0x20 ∷ 0x00 ∷ []) ∷ (0x42 ∷ 0x02 ∷ 0x00 ∷ []) ∷ []
unfolding factory differs differs_before starts run_length bytes_of frame_at frames_from frames
two-frames = refl

-- 38h is 0010h in a fresh model, so 0000h there differs; a word that does not differ parts two runs
pub parted :
    frames (0 ∷ 0 ∷ 0 ∷ 0x0001 ∷ 0x0010 ∷ 0x0003 ∷ 0 ∷ 0 ∷ 0 ∷ 0 ∷ 0 ∷ 0 ∷ 0 ∷ 0 ∷ 0 ∷ 0x0004 ∷ [])
    ≡ (0x37 ∷ 0x00 ∷ 0x01 ∷ []) ∷ (0x39 ∷ 0x00 ∷ 0x03 ∷ []) ∷ (0x43 ∷ 0x00 ∷ 0x04 ∷ []) ∷ []
unfolding factory differs differs_before starts run_length bytes_of frame_at frames_from frames
parted = refl
