-- What code tells of a line that adds to what an item keeps. Assumes nothing.
use Rattle.std.specs.Prelude.{ℕ, true, false, List, [], ◌≡◌, ℤ, take}
use Rattle.text.specs.Text.{Text}
use Rattle.text.specs.OwnPut.{Puts}
use Rattle.item_line.specs.Line.{Fault}
use Rattle.item_answer.specs.Answer.{Item, Result, told, fault, answer, probe_result, record_result}
use Rattle.item_keep_code.specs.declared.Added.{Added}

-- An item with another probe table, and with another record.
abbrev pub with_probes : Item → List ℕ → Item
with_probes i table =
    record { model = i.model; flash = i.flash; recorded = i.recorded; probes = table; moment = i.moment }

abbrev pub with_recorded : Item → List ℤ → Item
with_recorded i all = record { model = i.model; flash = i.flash; recorded = all; probes = i.probes; moment = i.moment }

-- The first line of an answer; a fault has none.
unfoldable pub line_in : Result → Text
line_in (told t) = t.line
line_in (fault f) = []

-- The answer's first line, if any, is put into l from `at` on, which leaves l'. Where there is no room the item i is as it was, else it is i'.
pub record Adds (l : List ℕ) (at : ℕ) (i : Item) (result : Result) (r : Added) (i' : Item) (l' : List ℕ) : Type 0 where
  pub line : Puts l at (line_in result) r.end l'
  pub full : r.fits ≡ false → result ≡ fault Fault.no_room
  pub kept : r.fits ≡ false → i' ≡ i
  pub told : r.fits ≡ true → result ≡ told (answer (line_in result) [] i')

-- Entries are added to a table, of which an item has the first `used` places.
abbrev pub ProbeAdds : List ℕ → ℕ → List ℕ → List ℕ → ℕ → Added → List ℕ → List ℕ → Type 0
ProbeAdds l at entries table used r table' l' =
    (i : Item) → i.probes ≡ take used table → Adds l at i (probe_result entries i) r (with_probes i (take r.count table')) l'

-- Differences are added to a record, of which an item has the first `used` places.
abbrev pub RecordAdds : List ℕ → ℕ → List ℤ → List ℤ → ℕ → Added → List ℤ → List ℕ → Type 0
RecordAdds l at ds kept used r kept' l' =
    (i : Item) → i.recorded ≡ take used kept → Adds l at i (record_result ds i) r (with_recorded i (take r.count kept')) l'
