-- A file that the operating system hands over. Assumes nothing.
use mathlib.Core.Bool.{Bool, true, false}
use mathlib.Core.List.{List}
use mathlib.Core.Path.{◌≡◌, refl}
use Prim.Native.Nat.{ℕ}
use Rattle.std.specs.Prelude.{Result, Ok, Err}
use Rattle.collection.specs.declared.Outcome.{Outcome}
use Rattle.session.specs.Turns.{Replayed}
use Rattle.file_replay.specs.Files.{not_read, is_descriptor, Came, unread, replayed}

-- It is not open,
pub not-open : {F E : Type 0} (opened : Result F E) {error : E} → opened ≡ Err error → is_descriptor opened ≡ false
unfolding is_descriptor
not-open opened is = rw is

-- or it is.
pub is_open : {F E : Type 0} (opened : Result F E) {file : F} → opened ≡ Ok file → is_descriptor opened ≡ true
unfolding is_descriptor
is_open opened is = rw is

-- A file that is open is replayed, and another can't be read.
pub came_from : {F E : Type 0} (opened : Result F E) {name : List ℕ} {check : Bool} {came : Outcome} → (is_descriptor opened ≡ false → came ≡ not_read)
    → (is_descriptor opened ≡ true → Replayed name check came) → Came name check came
unfolding is_descriptor
came_from (Ok file) closed opened = replayed (opened refl)
came_from (Err error) closed opened = unread (closed refl)
