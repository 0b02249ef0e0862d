-- A list of calls, with the model as bytes.
use Rattle.std.specs.Prelude.{ℕ, ◌/◌, ◌≡◌, List, length}
use Rattle.unit.specs.Choice.{pick}
use Rattle.device.specs.Model.{is_sound}
use Rattle.layout.specs.Layout.{loaded}
use Rattle.call_list.specs.CallList.{Run, beginning, runs}
use Rattle.layout.specs.Code.{kept}

-- A model that is not sound refuses each of them, and its bytes stay.
unfoldable pub list_run : List ℕ → List ℕ → List ℕ → List ℕ → List ℕ → List ℕ → List ℕ → Run
list_run bytes calls frames hits out flash answers =
    runs (length calls / 3) calls frames hits
    record { progress = beginning (loaded bytes); output = out; flash = flash; answers = answers }

unfoldable pub list_bytes : List ℕ → Run → List ℕ
list_bytes bytes s = pick (is_sound (loaded bytes)) (kept s.progress.model bytes) bytes

pub record Ran (bytes calls frames hits out flash answers : List ℕ) (done : ℕ) (bytes' out' flash' answers' : List ℕ) : Type 0 where
  pub count : done ≡ (list_run bytes calls frames hits out flash answers).progress.place.calls
  pub model : bytes' ≡ list_bytes bytes (list_run bytes calls frames hits out flash answers)
  pub output : out' ≡ (list_run bytes calls frames hits out flash answers).output
  pub memory : flash' ≡ (list_run bytes calls frames hits out flash answers).flash
  pub told : answers' ≡ (list_run bytes calls frames hits out flash answers).answers
