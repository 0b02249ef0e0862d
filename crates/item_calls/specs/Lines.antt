-- The lines that move the model, in the order of the format's table: what each leaves. What stands in quotation marks is that
-- of docs/ITEMS.md. Assumes nothing.
use Rattle.std.specs.Prelude.{ℕ, zero, suc, ◌+◌, ◌-◌, ◌/◌, min, true, false, cond, List, [], ◌∷◌, ◌++◌, eqb, length, get_or, set, take, drop, replicate}
use Rattle.numeral.specs.Place.{joined}
use Rattle.numeral.specs.Print.{low_bytes}
use Rattle.device.specs.declared.Model.{Model}
use Rattle.device.specs.declared.Reply.{Reply}
use Rattle.device.specs.declared.Answer.{Answer}
use Rattle.device.specs.declared.Answer.TheVariants.{Refused, Accepted, Ticked, Stretched, Good, Failed}
use Rattle.device.specs.Model.{fresh_model}
use Rattle.device.specs.Call.{Call}
use Rattle.device.specs.Reply.{reply, output, memory}
use Rattle.line.specs.declared.Content.{Content}
use Rattle.wording.specs.Wording.{Texts, line_feed, bus, set as set_texts, tick_head, at_head, single, next_named, no_tick, named, stretch, flight_kind, temperature_kind, delivery}
use Rattle.item_state.specs.Log.{Log, added, said, called, refusals}
use Rattle.item_calls.specs.Buffer.{buffer_size}

-- A model and what is kept beside it.
pub record Replayed : Type 0 where
  pub model : Model
  pub log : Log

-- The same with the user flash, for lines that reach it.
pub record WithFlash : Type 0 where
  pub model : Model
  pub flash : List ℕ
  pub log : Log

-- a reply, told in texts
unfoldable pub told : Reply → Texts → Log → Replayed
told r texts l = record { model = r.model; log = called (refusals r.answer) texts l }

-- ---- `item`

-- "a fresh model"; "An item has a user flash of 8,192 bytes of its own, all FFh at its start, a record of at most 4,096 differences and a
-- probe table of at most 1,024 entries, both empty there." The moment is 0 again.
unfoldable pub item_counts : List ℕ → List ℕ
item_counts counts = set (set (set counts 9 0) 10 0) 11 0

-- ---- `bus` and `set`

-- "since the last transaction that started a measurement, or since the item's start: that count is 0 there"
unfoldable pub start_moment : Answer → List ℕ → List ℕ
start_moment (Refused r) counts = counts
start_moment (Accepted true temperature) counts = set counts 9 0
start_moment (Accepted false true) counts = set counts 9 0
start_moment (Accepted false false) counts = counts
start_moment (Ticked flight temperature) counts = counts
start_moment (Stretched flight temperature) counts = counts
start_moment Good counts = counts
start_moment Failed counts = counts

-- a transaction, told in texts of its answer and of the output buffer after it
unfoldable pub transacted : Call → (Answer → List ℕ → Texts) → Model → Log → WithFlash
transacted call texts m l = record {
  model = (reply m call).model;
  flash = memory m call;
  log = record {
    counts =
        start_moment (reply m call).answer
        (called (refusals (reply m call).answer) (texts (reply m call).answer (output m call)) l).counts;
    answers = (called (refusals (reply m call).answer) (texts (reply m call).answer (output m call)) l).answers;
  };
}

-- "one transaction of these bytes"; "Each byte of a buffer is EEh before the call."
unfoldable pub bus_line : List ℕ → ℕ → WithFlash → WithFlash
bus_line bytes size s = transacted (Call.transaction bytes (replicate size 0xEE) s.flash) bus s.model s.log

-- "the transaction of A .. and .. words of 1 to 4 hexadecimal digits, high byte first": its bytes, in parts
unfoldable pub word_bytes : List ℕ → List (List ℕ)
word_bytes [] = []
word_bytes (w ∷ ws) = low_bytes (w / 256 ∷ w ∷ []) ∷ word_bytes ws

unfoldable pub write_bytes : ℕ → List ℕ → List (List ℕ)
write_bytes a ws = low_bytes (a ∷ []) ∷ word_bytes ws

unfoldable pub set_line : ℕ → List ℕ → WithFlash → WithFlash
set_line a ws s =
    transacted (Call.transaction (joined (write_bytes a ws)) [] s.flash) (λ answer buffer. set_texts answer) s.model s.log

-- ---- `tick`, `at` and `stretch`

-- "goes on with every tick and stretch"
unfoldable pub moved : ℕ → List ℕ → List ℕ
moved n counts = added counts 9 n

-- one single tick
unfoldable pub single_line : Model → Log → Replayed
single_line m l =
    told (reply m Call.tick) (single (reply m Call.tick).answer) record { counts = moved 1 l.counts; answers = l.answers }

-- what a stretch reported, with so many ticks before it; nothing where it names no tick
unfoldable pub stretch_reports : Answer → ℕ → Texts
stretch_reports (Refused r) before = []
stretch_reports (Accepted flight temperature) before = []
stretch_reports (Ticked flight temperature) before = []
stretch_reports (Stretched flight temperature) before =
    cond (eqb (next_named flight temperature 0) no_tick) [] (named flight temperature before)
stretch_reports Good before = []
stretch_reports Failed before = []

-- The model after some ticks, and what they reported.
pub record Ticks : Type 0 where
  pub model : Model
  pub texts : Texts

-- what follows a stretch
unfoldable pub onward : Reply → ℕ → Ticks → Ticks
onward r before rest = record { model = rest.model; texts = stretch_reports r.answer before ++ rest.texts }

-- n ticks, with so many before them, in stretches of 16,384 and a last one, which end as so many single ticks do; n turns are enough
unfoldable pub ticked : ℕ → ℕ → ℕ → Model → Ticks
ticked zero n before m = record { model = m; texts = [] }
ticked (suc turns) n before m =
    let span = min n 16384 in
    let r = reply m (Call.stretch span) in
    cond (eqb n 0) record { model = m; texts = [] } (onward r before (ticked turns (n - span) (before + span) r.model))

-- A line of ticks is answered in parts of 1,048,576 ticks, so that no answer is too long for a buffer. Count 21 has the ticks that are
-- left, 0 where no line is under way; with the last of them the line ends.
unfoldable pub part_ended : ℕ → Log → Log
part_ended left l =
    let told : Log = record { counts = set l.counts 21 left; answers = l.answers } in
    cond (eqb left 0) (said (line_feed ∷ []) told) told

-- "then ` WHAT@I`": a part of the ticks that are left, of so many
unfoldable pub ticks_part : ℕ → Model → Log → Replayed
ticks_part total m l =
    let left = min (get_or l.counts 21 0) total in
    let n = min left 1048576 in
    let t = ticked n n (total - left) m in record { model = t.model; log = part_ended (left - n) (said t.texts l) }

-- a line's first words, and its ticks as those left; no refusal
unfoldable pub ticks_ahead : Texts → ℕ → Log → Log
ticks_ahead head n l = record { counts = set (called 0 head l).counts 21 n; answers = (called 0 head l).answers }

-- unless the line is under way
unfoldable pub unless_under_way : Log → Log → Log
unless_under_way begun l = cond (eqb (get_or l.counts 21 0) 0) begun l

-- "N single ticks": "`tick N`"
unfoldable pub ticks_begun : ℕ → Log → Log
ticks_begun n l =
    unless_under_way (ticks_ahead (tick_head n) n record { counts = moved n l.counts; answers = l.answers }) l

unfoldable pub tick_line : ℕ → Model → Log → Replayed
tick_line n m l = cond (eqb n 1) (single_line m l) (ticks_part n m (ticks_begun n l))

-- "single ticks until T ticks .. have passed": "`at T`"
unfoldable pub at_begun : ℕ → Log → Log
at_begun t l =
    unless_under_way
    (ticks_ahead (at_head t) (t - get_or l.counts 9 0) record { counts = set l.counts 9 t; answers = l.answers })
    l

unfoldable pub at_line : ℕ → Model → Log → Replayed
at_line t m l = ticks_part t m (at_begun t l)

-- only an accepted stretch moves the count
unfoldable pub moved_by : Answer → ℕ → List ℕ → List ℕ
moved_by answer n counts = cond (eqb (refusals answer) 0) (moved n counts) counts

-- "one stretch of N ticks"
unfoldable pub stretch_line : ℕ → Model → Log → Replayed
stretch_line n m l =
    let r = reply m (Call.stretch n) in
    told r (stretch r.answer n) record { counts = moved_by r.answer n l.counts; answers = l.answers }

-- ---- `flight` and `temperature`

-- "a flight delivery: the up words, one `/`, the down words"
unfoldable pub flight_line : List ℕ → List ℕ → Model → Log → Replayed
flight_line up down m l =
    told (reply m (Call.flight up down)) (delivery flight_kind (reply m (Call.flight up down)).answer) l

-- "a temperature delivery"
unfoldable pub temperature_line : List ℕ → Model → Log → Replayed
temperature_line words m l =
    told (reply m (Call.temperature words)) (delivery temperature_kind (reply m (Call.temperature words)).answer) l

-- ---- every line

-- a line that does not reach the user flash
unfoldable pub beside : List ℕ → Replayed → WithFlash
beside flash r = record { model = r.model; flash = flash; log = r.log }

-- `item NAME ..`
unfoldable pub item_line : WithFlash → WithFlash
item_line s = record {
  model = fresh_model;
  flash = replicate (length s.flash) 0xFF;
  log = record { counts = item_counts s.log.counts; answers = s.log.answers };
}

-- What `at`, `stretch` and the deliveries leave; every other line leaves all as it is. The line's numbers stand in a buffer.
unfoldable pub timed_line : Content → List ℕ → Model → Log → Replayed
timed_line Content.Nothing numbers m l = record { model = m; log = l }
timed_line Content.TooLong numbers m l = record { model = m; log = l }
timed_line Content.UnknownWord numbers m l = record { model = m; log = l }
timed_line Content.BadNumber numbers m l = record { model = m; log = l }
timed_line Content.WrongCount numbers m l = record { model = m; log = l }
timed_line Content.Item numbers m l = record { model = m; log = l }
timed_line (Content.Bus n) numbers m l = record { model = m; log = l }
timed_line (Content.BusOut size n) numbers m l = record { model = m; log = l }
timed_line (Content.Tick n) numbers m l = record { model = m; log = l }
timed_line (Content.Flight up down) numbers m l = flight_line (take up numbers) (take down (drop up numbers)) m l
timed_line (Content.Temperature n) numbers m l = temperature_line (take n numbers) m l
timed_line Content.Int numbers m l = record { model = m; log = l }
timed_line Content.Awaited numbers m l = record { model = m; log = l }
timed_line Content.Regs numbers m l = record { model = m; log = l }
timed_line (Content.Expect a n) numbers m l = record { model = m; log = l }
timed_line Content.Show numbers m l = record { model = m; log = l }
timed_line (Content.Set a n) numbers m l = record { model = m; log = l }
timed_line (Content.At t) numbers m l = at_line t m l
timed_line (Content.Stretch n) numbers m l = stretch_line n m l
timed_line Content.Frames numbers m l = record { model = m; log = l }
timed_line (Content.Probe n) numbers m l = record { model = m; log = l }
timed_line Content.Degrees numbers m l = record { model = m; log = l }
timed_line (Content.Record n) numbers m l = record { model = m; log = l }
timed_line (Content.Listing old first) numbers m l = record { model = m; log = l }
timed_line (Content.Quietest n) numbers m l = record { model = m; log = l }

-- the same of every line that moves the model: of ticks, of an item's start and of transactions, which reach the user flash, too
unfoldable pub call_line : Content → List ℕ → WithFlash → WithFlash
call_line Content.Nothing numbers s = beside s.flash (timed_line Content.Nothing numbers s.model s.log)
call_line Content.TooLong numbers s = beside s.flash (timed_line Content.TooLong numbers s.model s.log)
call_line Content.UnknownWord numbers s = beside s.flash (timed_line Content.UnknownWord numbers s.model s.log)
call_line Content.BadNumber numbers s = beside s.flash (timed_line Content.BadNumber numbers s.model s.log)
call_line Content.WrongCount numbers s = beside s.flash (timed_line Content.WrongCount numbers s.model s.log)
call_line Content.Item numbers s = item_line s
call_line (Content.Bus n) numbers s = bus_line (low_bytes (take n numbers)) (buffer_size (take n numbers)) s
call_line (Content.BusOut size n) numbers s = bus_line (low_bytes (take n numbers)) size s
call_line (Content.Tick n) numbers s = beside s.flash (tick_line n s.model s.log)
call_line (Content.Flight up down) numbers s = beside s.flash (timed_line (Content.Flight up down) numbers s.model s.log)
call_line (Content.Temperature n) numbers s = beside s.flash (timed_line (Content.Temperature n) numbers s.model s.log)
call_line Content.Int numbers s = beside s.flash (timed_line Content.Int numbers s.model s.log)
call_line Content.Awaited numbers s = beside s.flash (timed_line Content.Awaited numbers s.model s.log)
call_line Content.Regs numbers s = beside s.flash (timed_line Content.Regs numbers s.model s.log)
call_line (Content.Expect a n) numbers s = beside s.flash (timed_line (Content.Expect a n) numbers s.model s.log)
call_line Content.Show numbers s = beside s.flash (timed_line Content.Show numbers s.model s.log)
call_line (Content.Set a n) numbers s = set_line a (take n numbers) s
call_line (Content.At t) numbers s = beside s.flash (timed_line (Content.At t) numbers s.model s.log)
call_line (Content.Stretch n) numbers s = beside s.flash (timed_line (Content.Stretch n) numbers s.model s.log)
call_line Content.Frames numbers s = beside s.flash (timed_line Content.Frames numbers s.model s.log)
call_line (Content.Probe n) numbers s = beside s.flash (timed_line (Content.Probe n) numbers s.model s.log)
call_line Content.Degrees numbers s = beside s.flash (timed_line Content.Degrees numbers s.model s.log)
call_line (Content.Record n) numbers s = beside s.flash (timed_line (Content.Record n) numbers s.model s.log)
call_line (Content.Listing old first) numbers s = beside s.flash (timed_line (Content.Listing old first) numbers s.model s.log)
call_line (Content.Quietest n) numbers s = beside s.flash (timed_line (Content.Quietest n) numbers s.model s.log)
