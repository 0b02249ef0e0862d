-- What is done before a line is answered on the model: it is counted, it gets its head in a check, and bad lines and the names of
-- items are answered. What stands in quotation marks is that of docs/ITEMS.md. Assumes nothing.
use Rattle.std.specs.Prelude.{ℕ, Bool, true, false, cond, List, [], ◌∷◌, ◌++◌, eqb, get_or, set, take}
use Rattle.numeral.specs.Place.{Placed, put_each}
use Rattle.line.specs.declared.Content.{Content}
use Rattle.wording.specs.Wording.{line_feed, place}
use Rattle.item_state.specs.Log.{Log, added, said}
use Rattle.item_checks.specs.Fault.{left_of, fault_log}
use Rattle.item_checks.specs.Close.{line_words, trouble}

-- The line is counted. What is kept of the counts before it: where the answers end, the refusals, the bad lines.
unfoldable pub line_counted : List ℕ → List ℕ
line_counted counts =
    set (set (set (added counts 2 1) 12 (get_or counts 0 0)) 17 (get_or counts 4 0)) 18 (get_or counts 6 0)

-- In a check, "each as `FILE:LINE: ANSWER`"; what needed a look before the line is kept.
unfoldable pub headed : List ℕ → Log → Log
headed names l =
    let counts = set l.counts 19 (trouble l.counts) in
    cond (eqb (get_or l.counts 14 0) 0) l
    (said (place (take (get_or counts 16 0) names) (get_or counts 2 0)) record { counts = counts; answers = l.answers })

-- The line's own answer starts behind the head.
unfoldable pub begun : List ℕ → Log → Log
begun names l =
    let h = headed names record { counts = line_counted l.counts; answers = l.answers } in
    record { counts = set h.counts 20 (get_or h.counts 0 0); answers = h.answers }

unfoldable pub is_item : Content → Bool
is_item Content.Nothing = false
is_item Content.TooLong = false
is_item Content.UnknownWord = false
is_item Content.BadNumber = false
is_item Content.WrongCount = false
is_item Content.Item = true
is_item (Content.Bus n) = false
is_item (Content.BusOut size n) = false
is_item (Content.Tick n) = false
is_item (Content.Flight up down) = false
is_item (Content.Temperature n) = false
is_item Content.Int = false
is_item Content.Awaited = false
is_item Content.Regs = false
is_item (Content.Expect a n) = false
is_item Content.Show = false
is_item (Content.Set a n) = false
is_item (Content.At t) = false
is_item (Content.Stretch n) = false
is_item Content.Frames = false
is_item (Content.Probe n) = false
is_item Content.Degrees = false
is_item (Content.Record n) = false
is_item (Content.Listing old first) = false
is_item (Content.Quietest n) = false

-- The names of the file and the item, and the counts with the answers.
pub record Named : Type 0 where
  pub names : List ℕ
  pub log : Log

-- "`item NAME ..`": "the line's words, parted by one blank", which are the item's name from the place 4,096 on
unfoldable pub item_named : List ℕ → List ℕ → Log → Named
item_named text names l =
    let p = put_each names 4096 (line_words text) in
    record {
      names = p.bytes;
      log = said (line_words text ++ (line_feed ∷ [])) record { counts = set l.counts 15 p.next; answers = l.answers };
    }

unfoldable pub named : Content → List ℕ → List ℕ → Log → Named
named content text names l = cond (is_item content) (item_named text names l) record { names = names; log = l }

-- What is still to be answered, and what stands before it.
pub record Opened : Type 0 where
  pub content : Content
  pub names : List ℕ
  pub log : Log

unfoldable pub opened : Content → List ℕ → List ℕ → Log → Opened
opened content text names l =
    let b = begun names l in
    let left = left_of content b.counts in
    let n = named left text names (fault_log content b) in
    record { content = left; names = n.names; log = n.log }
