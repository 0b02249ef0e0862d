-- What is kept is in form before the first line: buffers of the program's places, a fresh model and an empty record. Assumes nothing.
use Prim.Native.Nat.{ℕ, ◌≤◌, ◌<◌}
use mathlib.Core.Path.{◌≡◌}
use mathlib.Core.List.{List}
use native.Mathlib.Omega.{arith}
use lib.IntN.{ℤ, pos, nat_abs}
use lib.ListN.{length, get_or, replicate, length-replicate, get_or-replicate}
use Rattle.device.specs.Model.{fresh_model}
use Rattle.device.proofs.Sound.{fresh-sound}
use Rattle.item_state.specs.Log.{Log}
use Rattle.session.specs.Line.{Replay}
use Rattle.line_room.specs.Form.{InForm, NumbersFit}
use Rattle.line_room.proofs.Waits.{fresh-waits}

-- an empty record has 4,096 places of 0
abbrev pub empty_record : List ℤ
empty_record = replicate 4096 (pos 0)

empty-fits : (k : ℕ) → k < length empty_record → nat_abs (get_or empty_record k (pos 0)) ≤ 2147483648
empty-fits k h = rw (get_or-replicate 4096 k (pos 0) (pos 0) (rw (length-replicate 4096 (pos 0)) at h)) (omega arith)

abbrev pub starting_with : List ℕ → List ℕ → List ℕ → Log → Replay
starting_with flash probes names log = record {
  state = record { model = fresh_model; flash = flash; differences = empty_record; probes = probes; log = log };
  names = names;
}

pub start-form : (flash probes names : List ℕ) (log : Log) → length log.counts ≡ 22 → length log.answers ≡ 163840 → length names ≡ 5120
    → InForm (starting_with flash probes names log)
start-form flash probes names log counts places long = record {
  counts = counts;
  places = places;
  names = long;
  sound = fresh-sound;
  waits = fresh-waits;
  many = length-replicate 4096 (pos 0);
  fit = empty-fits;
}

pub start-numbers : NumbersFit (replicate 512 0)
start-numbers = record {
  few = length-replicate {A = ℕ} 512 0;
  fit = λ k h. rw (get_or-replicate {A = ℕ} 512 k 0 0 (rw (length-replicate {A = ℕ} 512 0) at h)) (omega arith);
}
