-- How a replay begins and ends. What stands in quotation marks is that of docs/ITEMS.md. Assumes nothing.
--
-- The counts by their places: 3 the calls, 4 the refusals, 5 those that are not announced, 6 the bad lines, 7 the expectations, 8 those
-- that differ, 14 not 0 in a check, 16 where the file's name ends among the names.
use Rattle.std.specs.Prelude.{ℕ, Bool, cond, List, ◌++◌, eqb, get_or, set}
use Rattle.numeral.specs.Place.{next_place, written}
use Rattle.wording.specs.Wording.{Texts, calls, faults}
use Rattle.item_state.specs.Log.{Log, said}
use Rattle.collection.specs.declared.Outcome.{Outcome}

-- ---- before the first line

-- The file's name stands first among the names.
unfoldable pub names_begun : List ℕ → List ℕ → List ℕ
names_begun names path = written names 0 path

unfoldable pub counts_begun : List ℕ → List ℕ → Bool → List ℕ → List ℕ
counts_begun names path check counts =
    let named = set counts 16 (next_place names 0 path) in cond check (set named 14 1) named

-- ---- behind the last

-- "`end C calls, R refused, U unannounced, B bad lines, E expectations, X differ`"
unfoldable pub last_texts : List ℕ → Texts
last_texts counts =
    calls (get_or counts 3 0) (get_or counts 4 0) (get_or counts 5 0) ++ faults (get_or counts 6 0) (get_or counts 7 0) (get_or counts 8 0)

-- It stands behind all answers where the input was read to its end, and in no check.
unfoldable pub last_said : Bool → Log → Log
last_said whole l = cond whole (cond (eqb (get_or l.counts 14 0) 0) (said (last_texts l.counts) l) l) l

-- What a replay hands back: whether all of the file was read, and what its last line counts.
unfoldable pub outcome_of : Bool → List ℕ → Outcome
outcome_of whole counts = record {
  whole = whole;
  unannounced = get_or counts 5 0;
  bad = get_or counts 6 0;
  expected = get_or counts 7 0;
  differ = get_or counts 8 0;
}
