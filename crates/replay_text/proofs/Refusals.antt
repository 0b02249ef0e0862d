-- The refusals of one line. What stands in quotation marks is that of docs/ITEMS.md. Assumes nothing.
use Prim.Native.Nat.{ℕ, ◌≤◌}
use mathlib.Core.Path.{◌≡◌, refl}
use mathlib.Core.Bool.{Bool, true, false, cond}
use mathlib.Core.List.{List, []}
use native.Mathlib.Omega.{arith}
use lib.Dec.{eqb, ltb}
use lib.ListN.{length, get_or, take, drop, replicate}
use Rattle.numeral.specs.Place.{joined}
use Rattle.numeral.specs.Print.{low_bytes}
use Rattle.device.specs.declared.Answer.{Answer}
use Rattle.device.specs.declared.Answer.TheVariants.{Refused, Accepted, Ticked, Stretched, Good, Failed}
use Rattle.device.specs.Model.{is_sound}
use Rattle.device.specs.Call.{Call}
use Rattle.device.specs.Reply.{reply, number_in}
use Rattle.quietest.specs.Quietest.{quietest_place}
use Rattle.listing.specs.Listing.{capture_digits, last_above}
use Rattle.line.specs.declared.Content.{Content}
use Rattle.item_state.specs.Log.{refusals}
use Rattle.item_calls.specs.Buffer.{buffer_size}
use Rattle.item_calls.specs.Lines.{write_bytes}
use Rattle.item_analysis.specs.Lines.{degrees_of, width_of}
use Rattle.answer_text.specs.Texts.{recorded}
use Rattle.session.specs.Line.{State}
use Rattle.refusal.specs.declared.Refusal.{Refusal}
use Rattle.std.specs.Prelude.{Result, Ok, Err}

-- ---- the refusals of one line, 0 or 1

unfoldable pub degrees_refused : Result ℕ Refusal → ℕ
degrees_refused (Ok n) = 0
degrees_refused (Err r) = 1

unfoldable pub place_refused : Result ℕ Refusal → ℕ
place_refused (Ok start) = 0
place_refused (Err r) = 1

-- "R those of them answered `no`": the call that the line is, refused or not, on the model, the user flash, the record and the probe table before
-- it. No other line is refused, nor is a line of ticks but `tick 1`, which is a single tick.
unfoldable pub refused_of : Content → List ℕ → State → List ℕ → ℕ
refused_of Content.Nothing numbers s counts = 0
refused_of Content.TooLong numbers s counts = 0
refused_of Content.UnknownWord numbers s counts = 0
refused_of Content.BadNumber numbers s counts = 0
refused_of Content.WrongCount numbers s counts = 0
refused_of Content.Item numbers s counts = 0
refused_of (Content.Bus n) numbers s counts =
    refusals (reply s.model (Call.transaction (low_bytes (take n numbers)) (replicate (buffer_size (take n numbers)) 0xEE) s.flash)).answer
refused_of (Content.BusOut size n) numbers s counts =
    refusals (reply s.model (Call.transaction (low_bytes (take n numbers)) (replicate size 0xEE) s.flash)).answer
refused_of (Content.Tick n) numbers s counts = cond (eqb n 1) (refusals (reply s.model Call.tick).answer) 0
refused_of (Content.Flight up down) numbers s counts =
    refusals (reply s.model (Call.flight (take up numbers) (take down (drop up numbers)))).answer
refused_of (Content.Temperature n) numbers s counts = refusals (reply s.model (Call.temperature (take n numbers))).answer
refused_of Content.Int numbers s counts = 0
refused_of Content.Awaited numbers s counts = 0
refused_of Content.Regs numbers s counts = 0
refused_of (Content.Expect a n) numbers s counts = 0
refused_of Content.Show numbers s counts = 0
refused_of (Content.Set a n) numbers s counts =
    refusals (reply s.model (Call.transaction (joined (write_bytes a (take n numbers))) [] s.flash)).answer
refused_of (Content.At t) numbers s counts = 0
refused_of (Content.Stretch n) numbers s counts = refusals (reply s.model (Call.stretch n)).answer
refused_of Content.Frames numbers s counts = cond (is_sound s.model) 0 1
refused_of (Content.Probe n) numbers s counts = 0
refused_of Content.Degrees numbers s counts =
    cond (ltb (length numbers) 2) 0 (degrees_refused (degrees_of (take (get_or counts 11 0) s.probes) (get_or numbers 0 0) (get_or numbers 1 0)))
refused_of (Content.Record n) numbers s counts = 0
refused_of (Content.Listing old first) numbers s counts =
    cond (last_above (capture_digits (width_of old)) first (length (recorded s.differences counts))) 1 0
refused_of (Content.Quietest n) numbers s counts = place_refused (quietest_place (recorded s.differences counts) n)

refusals-most : (a : Answer) → refusals a ≤ 1
unfolding refusals number_in
refusals-most (Refused r) = omega arith
refusals-most (Accepted flight temperature) = omega arith
refusals-most (Ticked flight temperature) = omega arith
refusals-most (Stretched flight temperature) = omega arith
refusals-most Good = omega arith
refusals-most Failed = omega arith

degrees-most : (d : Result ℕ Refusal) → degrees_refused d ≤ 1
unfolding degrees_refused
degrees-most (Ok n) = omega arith
degrees-most (Err r) = omega arith

place-most : (q : Result ℕ Refusal) → place_refused q ≤ 1
unfolding place_refused
place-most (Ok start) = omega arith
place-most (Err r) = omega arith

cond-most : (t : Bool) (a b : ℕ) → a ≤ 1 → b ≤ 1 → cond t a b ≤ 1
cond-most true a b one other = one
cond-most false a b one other = other

-- A line is refused once at most.
pub refused-most : (content : Content) (numbers : List ℕ) (s : State) (counts : List ℕ) → refused_of content numbers s counts ≤ 1
unfolding refused_of
refused-most Content.Nothing numbers s counts = omega arith
refused-most Content.TooLong numbers s counts = omega arith
refused-most Content.UnknownWord numbers s counts = omega arith
refused-most Content.BadNumber numbers s counts = omega arith
refused-most Content.WrongCount numbers s counts = omega arith
refused-most Content.Item numbers s counts = omega arith
refused-most (Content.Bus n) numbers s counts = refusals-most _
refused-most (Content.BusOut size n) numbers s counts = refusals-most _
refused-most (Content.Tick n) numbers s counts = cond-most (eqb n 1) _ 0 (refusals-most _) (omega arith)
refused-most (Content.Flight up down) numbers s counts = refusals-most _
refused-most (Content.Temperature n) numbers s counts = refusals-most _
refused-most Content.Int numbers s counts = omega arith
refused-most Content.Awaited numbers s counts = omega arith
refused-most Content.Regs numbers s counts = omega arith
refused-most (Content.Expect a n) numbers s counts = omega arith
refused-most Content.Show numbers s counts = omega arith
refused-most (Content.Set a n) numbers s counts = refusals-most _
refused-most (Content.At t) numbers s counts = omega arith
refused-most (Content.Stretch n) numbers s counts = refusals-most _
refused-most Content.Frames numbers s counts = cond-most (is_sound s.model) 0 1 (omega arith) (omega arith)
refused-most (Content.Probe n) numbers s counts = omega arith
refused-most Content.Degrees numbers s counts = cond-most (ltb (length numbers) 2) 0 _ (omega arith) (degrees-most _)
refused-most (Content.Record n) numbers s counts = omega arith
refused-most (Content.Listing old first) numbers s counts =
    cond-most (last_above (capture_digits (width_of old)) first (length (recorded s.differences counts))) 1 0 (omega arith) (omega arith)
refused-most (Content.Quietest n) numbers s counts = place-most _

-- Behind the head and the item's name the refusals of a line are the same.
pub refused-same : (content : Content) (numbers : List ℕ) (s : State) (c c' : List ℕ) → get_or c 10 0 ≡ get_or c' 10 0 → get_or c 11 0 ≡ get_or c' 11 0
    → refused_of content numbers s c ≡ refused_of content numbers s c'
unfolding refused_of
refused-same Content.Nothing numbers s c c' ten eleven = refl
refused-same Content.TooLong numbers s c c' ten eleven = refl
refused-same Content.UnknownWord numbers s c c' ten eleven = refl
refused-same Content.BadNumber numbers s c c' ten eleven = refl
refused-same Content.WrongCount numbers s c c' ten eleven = refl
refused-same Content.Item numbers s c c' ten eleven = refl
refused-same (Content.Bus n) numbers s c c' ten eleven = refl
refused-same (Content.BusOut size n) numbers s c c' ten eleven = refl
refused-same (Content.Tick n) numbers s c c' ten eleven = refl
refused-same (Content.Flight up down) numbers s c c' ten eleven = refl
refused-same (Content.Temperature n) numbers s c c' ten eleven = refl
refused-same Content.Int numbers s c c' ten eleven = refl
refused-same Content.Awaited numbers s c c' ten eleven = refl
refused-same Content.Regs numbers s c c' ten eleven = refl
refused-same (Content.Expect a n) numbers s c c' ten eleven = refl
refused-same Content.Show numbers s c c' ten eleven = refl
refused-same (Content.Set a n) numbers s c c' ten eleven = refl
refused-same (Content.At t) numbers s c c' ten eleven = refl
refused-same (Content.Stretch n) numbers s c c' ten eleven = refl
refused-same Content.Frames numbers s c c' ten eleven = refl
refused-same (Content.Probe n) numbers s c c' ten eleven = refl
refused-same Content.Degrees numbers s c c' ten eleven = rw eleven
refused-same (Content.Record n) numbers s c c' ten eleven = refl
refused-same (Content.Listing old first) numbers s c c' ten eleven = rw ten
refused-same (Content.Quietest n) numbers s c c' ten eleven = rw ten
