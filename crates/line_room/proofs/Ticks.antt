-- How many ticks are left behind a line's first part: count 21 after a line that was not under way. Assumes nothing.
use Prim.Native.Nat.{ℕ, ◌-◌, ◌≤◌, ◌<◌, min}
use mathlib.Core.Path.{◌≡◌, refl, sym, ap, ◌∙◌}
use mathlib.Core.Bool.{Bool, true, false, cond}
use mathlib.Core.List.{List}
use native.Mathlib.Omega.{arith}
use lib.Dec.{eqb, ltb}
use lib.IntN.{ℤ}
use lib.ListN.{length, get_or, set, length-set}
use lib.Seq.{get_or-set_same, get_or-set_other}
use borrow.Author.Tests.{eq-eqb, ltb-true}
use Rattle.unit.proofs.Cases.{by-test, by_eqb}
use Rattle.device.specs.declared.Model.{Model}
use Rattle.device.specs.declared.Answer.{Answer}
use Rattle.device.specs.declared.Answer.TheVariants.{Refused, Accepted, Ticked, Stretched, Good, Failed}
use Rattle.device.specs.Model.{is_sound}
use Rattle.device.specs.Call.{Call}
use Rattle.device.specs.Reply.{reply}
use Rattle.listing.specs.Listing.{last_above}
use Rattle.line.specs.declared.Content.{Content}
use Rattle.wording.specs.Wording.{Texts}
use Rattle.item_state.specs.Log.{added, refusals, call_counted}
use Rattle.item_calls.specs.Lines.{WithFlash, item_counts, start_moment, moved, moved_by, call_line}
use Rattle.item_checks.specs.Fault.{is_past_or_full, is_fault, left_of}
use Rattle.item_checks.specs.Open.{line_counted, is_item}
use Rattle.answer_text.specs.Texts.{Told, told_of_transaction, told_of_bus, told_of_set, told_of_single, told_of_head, told_of_part, told_of_ticks, told_of_tick, told_of_at, told_of_stretch, told_of_delivery, call_told, told_of_expect, told_of_frames, question_told, told_of_probe, told_in_degrees, told_of_degrees, told_of_record, told_of_listing, told_of_place, told_of_quietest, analysis_told}
use Rattle.answer_text.specs.Line.{told_of_kept, line_told}
use Rattle.session.specs.Line.{Replay}
use Rattle.line_text.specs.Text.{head_told, begun_told, fault_told, item_told, bare, own_told, head_of, own_of}
use Rattle.line_text.proofs.Told.{begun-long, fault-aside, item-aside}
use Rattle.line_room.specs.Form.{ticks_of, ticks_left}
use Rattle.refusal.specs.declared.Refusal.{Refusal}
use Rattle.std.specs.Prelude.{Result, Ok, Err}

-- ---- counts that leave count 21 as it was

either_left : (b : Bool) (t u : Told) (n : ℕ) → get_or t.counts 21 0 ≡ n → get_or u.counts 21 0 ≡ n → get_or (cond b t u).counts 21 0 ≡ n
either_left true t u n h k = h
either_left false t u n h k = k

added-left : (counts : List ℕ) (p k : ℕ) → (21 ≡ p → ⊥) → get_or (added counts p k) 21 0 ≡ get_or counts 21 0
unfolding added
added-left counts p k apart = get_or-set_other counts p 21 _ 0 apart

called-left : (refused : ℕ) (counts : List ℕ) → get_or (call_counted refused counts) 21 0 ≡ get_or counts 21 0
unfolding call_counted
called-left refused counts = added-left (added counts 3 1) 4 refused (λ e. omega arith) ∙ added-left counts 3 1 (λ e. omega arith)

called-long : (refused : ℕ) (counts : List ℕ) → length (call_counted refused counts) ≡ length counts
unfolding call_counted added
called-long refused counts = simp length-set

item-left : (counts : List ℕ) → get_or (item_counts counts) 21 0 ≡ get_or counts 21 0
unfolding item_counts
item-left counts =
    get_or-set_other (set (set counts 9 0) 10 0) 11 21 0 0 (λ e. omega arith)
    ∙ (get_or-set_other (set counts 9 0) 10 21 0 0 (λ e. omega arith) ∙ get_or-set_other counts 9 21 0 0 (λ e. omega arith))

start_left : (answer : Answer) (counts : List ℕ) → get_or (start_moment answer counts) 21 0 ≡ get_or counts 21 0
unfolding start_moment
start_left (Refused r) counts = refl
start_left (Accepted true temperature) counts = get_or-set_other counts 9 21 0 0 (λ e. omega arith)
start_left (Accepted false true) counts = get_or-set_other counts 9 21 0 0 (λ e. omega arith)
start_left (Accepted false false) counts = refl
start_left (Ticked flight temperature) counts = refl
start_left (Stretched flight temperature) counts = refl
start_left Good counts = refl
start_left Failed counts = refl

moved-left : (n : ℕ) (counts : List ℕ) → get_or (moved n counts) 21 0 ≡ get_or counts 21 0
unfolding moved
moved-left n counts = added-left counts 9 n (λ e. omega arith)

moved-long : (n : ℕ) (counts : List ℕ) → length (moved n counts) ≡ length counts
unfolding moved added
moved-long n counts = length-set counts 9 _

by_left : (answer : Answer) (n : ℕ) (counts : List ℕ) → get_or (moved_by answer n counts) 21 0 ≡ get_or counts 21 0
unfolding moved_by
by_left answer n counts = go (eqb (refusals answer) 0)
  where
    go : (b : Bool) → get_or (cond b (moved n counts) counts) 21 0 ≡ get_or counts 21 0
    go true = moved-left n counts
    go false = refl

-- ---- lines that move the model

transaction-left : (call : Call) (texts : Answer → List ℕ → Texts) (m : Model) (counts : List ℕ)
    → get_or (told_of_transaction call texts m counts).counts 21 0 ≡ get_or counts 21 0
unfolding told_of_transaction
transaction-left call texts m counts = start_left (reply m call).answer _ ∙ called-left _ counts

single-left : (m : Model) (counts : List ℕ) → get_or (told_of_single m counts).counts 21 0 ≡ get_or counts 21 0
unfolding told_of_single
single-left m counts = called-left _ (moved 1 counts) ∙ moved-left 1 counts

stretch-left : (n : ℕ) (m : Model) (counts : List ℕ) → get_or (told_of_stretch n m counts).counts 21 0 ≡ get_or counts 21 0
unfolding told_of_stretch
stretch-left n m counts = called-left _ (moved_by (reply m (Call.stretch n)).answer n counts) ∙ by_left (reply m (Call.stretch n)).answer n counts

delivery-left : (kind : List ℕ) (call : Call) (m : Model) (counts : List ℕ) → get_or (told_of_delivery kind call m counts).counts 21 0 ≡ get_or counts 21 0
unfolding told_of_delivery
delivery-left kind call m counts = called-left _ counts

-- ---- lines of ticks

pub part_left : (total : ℕ) (m : Model) (counts : List ℕ) → 21 < length counts
    → get_or (told_of_part total m counts).counts 21 0 ≡ min (get_or counts 21 0) total - min (min (get_or counts 21 0) total) 1048576
unfolding told_of_part
part_left total m counts long = get_or-set_same counts 21 _ 0 long

module _ (head : Texts) (n : ℕ) (after counts : List ℕ) (none : get_or counts 21 0 ≡ 0) where
  head-left : 21 < length after → get_or (told_of_head head n after counts).counts 21 0 ≡ n
  unfolding told_of_head
  head-left long =
      rw (eq-eqb (get_or counts 21 0) 0 none) (get_or-set_same (call_counted 0 after) 21 n 0 (rw (called-long 0 after) long))

  head-long : length (told_of_head head n after counts).counts ≡ length after
  unfolding told_of_head
  head-long = rw (eq-eqb (get_or counts 21 0) 0 none) (length-set (call_counted 0 after) 21 n ∙ called-long 0 after)

  -- the first part of n ticks, of so many in all
  first-left : (total : ℕ) (m : Model) → n ≤ total → 21 < length after
      → get_or (told_of_part total m (told_of_head head n after counts).counts).counts 21 0 ≡ n - 1048576
  first-left total m few long =
      part_left total m (told_of_head head n after counts).counts (rw head-long long) ∙ omega (arith, head-left long)

tick-left : (n : ℕ) (m : Model) (counts : List ℕ) → get_or counts 21 0 ≡ 0 → 21 < length counts
    → get_or (told_of_tick n m counts).counts 21 0 ≡ ticks_left (Content.Tick n) counts
unfolding told_of_tick told_of_ticks ticks_left ticks_of
tick-left n m counts none long =
    by_eqb n 1 (λ h e. rw e (omega (arith, single-left m counts)))
    (λ h e. rw e (first-left _ n (moved n counts) counts none n m (omega arith) (rw (moved-long n counts) long)))

at_left : (t : ℕ) (m : Model) (counts : List ℕ) → get_or counts 21 0 ≡ 0 → 21 < length counts
    → get_or (told_of_at t m counts).counts 21 0 ≡ ticks_left (Content.At t) counts
unfolding told_of_at ticks_left ticks_of
at_left t m counts none long =
    first-left _ (t - get_or counts 9 0) (set counts 9 t) counts none t m (omega arith) (rw (length-set counts 9 t) long)

call-left : (content : Content) (numbers : List ℕ) (s : WithFlash) → get_or s.log.counts 21 0 ≡ 0 → 21 < length s.log.counts
    → get_or (call_told content numbers s).counts 21 0 ≡ ticks_left content s.log.counts
unfolding call_told told_of_bus told_of_set ticks_left ticks_of
call-left Content.Nothing numbers s none long = none
call-left Content.TooLong numbers s none long = none
call-left Content.UnknownWord numbers s none long = none
call-left Content.BadNumber numbers s none long = none
call-left Content.WrongCount numbers s none long = none
call-left Content.Item numbers s none long = item-left s.log.counts ∙ none
call-left (Content.Bus n) numbers s none long = transaction-left _ _ s.model s.log.counts ∙ none
call-left (Content.BusOut size n) numbers s none long = transaction-left _ _ s.model s.log.counts ∙ none
call-left (Content.Tick n) numbers s none long = tick-left n s.model s.log.counts none long
call-left (Content.Flight up down) numbers s none long = delivery-left _ _ s.model s.log.counts ∙ none
call-left (Content.Temperature n) numbers s none long = delivery-left _ _ s.model s.log.counts ∙ none
call-left Content.Int numbers s none long = none
call-left Content.Awaited numbers s none long = none
call-left Content.Regs numbers s none long = none
call-left (Content.Expect a n) numbers s none long = none
call-left Content.Show numbers s none long = none
call-left (Content.Set a n) numbers s none long = transaction-left _ _ s.model s.log.counts ∙ none
call-left (Content.At t) numbers s none long = at_left t s.model s.log.counts none long
call-left (Content.Stretch n) numbers s none long = stretch-left n s.model s.log.counts ∙ none
call-left Content.Frames numbers s none long = none
call-left (Content.Probe n) numbers s none long = none
call-left Content.Degrees numbers s none long = none
call-left (Content.Record n) numbers s none long = none
call-left (Content.Listing old first) numbers s none long = none
call-left (Content.Quietest n) numbers s none long = none

-- ---- lines that ask

expect-left : (m : Model) (a : ℕ) (ws counts : List ℕ) → get_or (told_of_expect m a ws counts).counts 21 0 ≡ get_or counts 21 0
unfolding told_of_expect
expect-left m a ws counts = added-left (added counts 7 (length ws)) 8 _ (λ e. omega arith) ∙ added-left counts 7 (length ws) (λ e. omega arith)

frames-left : (m : Model) (counts : List ℕ) → get_or (told_of_frames m counts).counts 21 0 ≡ get_or counts 21 0
unfolding told_of_frames
frames-left m counts = either_left (is_sound m) _ _ (get_or counts 21 0) (called-left 0 counts) (called-left 1 counts)

question-left : (content : Content) (numbers : List ℕ) (m : Model) (counts : List ℕ)
    → get_or (question_told content numbers m counts).counts 21 0 ≡ get_or counts 21 0
unfolding question_told
question-left Content.Nothing numbers m counts = refl
question-left Content.TooLong numbers m counts = refl
question-left Content.UnknownWord numbers m counts = refl
question-left Content.BadNumber numbers m counts = refl
question-left Content.WrongCount numbers m counts = refl
question-left Content.Item numbers m counts = refl
question-left (Content.Bus n) numbers m counts = refl
question-left (Content.BusOut size n) numbers m counts = refl
question-left (Content.Tick n) numbers m counts = refl
question-left (Content.Flight up down) numbers m counts = refl
question-left (Content.Temperature n) numbers m counts = refl
question-left Content.Int numbers m counts = refl
question-left Content.Awaited numbers m counts = refl
question-left Content.Regs numbers m counts = refl
question-left (Content.Expect a n) numbers m counts = expect-left m a _ counts
question-left Content.Show numbers m counts = refl
question-left (Content.Set a n) numbers m counts = refl
question-left (Content.At t) numbers m counts = refl
question-left (Content.Stretch n) numbers m counts = refl
question-left Content.Frames numbers m counts = frames-left m counts
question-left (Content.Probe n) numbers m counts = refl
question-left Content.Degrees numbers m counts = refl
question-left (Content.Record n) numbers m counts = refl
question-left (Content.Listing old first) numbers m counts = refl
question-left (Content.Quietest n) numbers m counts = refl

-- ---- lines on what an item keeps beside its model

probe-left : (entries probes counts : List ℕ) → get_or (told_of_probe entries probes counts).counts 21 0 ≡ get_or counts 21 0
unfolding told_of_probe
probe-left entries probes counts = get_or-set_other counts 11 21 _ 0 (λ e. omega arith)

record-left : (ws : List ℕ) (differences : List ℤ) (counts : List ℕ) → get_or (told_of_record ws differences counts).counts 21 0 ≡ get_or counts 21 0
unfolding told_of_record
record-left ws differences counts = get_or-set_other counts 10 21 _ 0 (λ e. omega arith)

in-degrees-left : (d : Result ℕ Refusal) (counts : List ℕ) → get_or (told_in_degrees d counts).counts 21 0 ≡ get_or counts 21 0
unfolding told_in_degrees
in-degrees-left (Ok n) counts = called-left 0 counts
in-degrees-left (Err r) counts = called-left 1 counts

degrees-left : (numbers probes counts : List ℕ) → get_or (told_of_degrees numbers probes counts).counts 21 0 ≡ get_or counts 21 0
unfolding told_of_degrees
degrees-left numbers probes counts = either_left (ltb (length numbers) 2) _ _ (get_or counts 21 0) refl (in-degrees-left _ counts)

listing-left : (d first : ℕ) (values : List ℤ) (used : ℕ) (counts : List ℕ)
    → get_or (told_of_listing d first values used counts).counts 21 0 ≡ get_or counts 21 0
unfolding told_of_listing
listing-left d first values used counts =
    either_left (last_above d first (length values)) _ _ (get_or counts 21 0) (called-left 1 counts) (called-left 0 counts)

place-left : (q : Result ℕ Refusal) (values : List ℤ) (width : ℕ) (counts : List ℕ) → get_or (told_of_place q values width counts).counts 21 0 ≡ get_or counts 21 0
unfolding told_of_place
place-left (Ok start) values width counts = called-left 0 counts
place-left (Err r) values width counts = called-left 1 counts

quietest-left : (width : ℕ) (values : List ℤ) (counts : List ℕ) → get_or (told_of_quietest width values counts).counts 21 0 ≡ get_or counts 21 0
unfolding told_of_quietest
quietest-left width values counts = place-left _ values width counts

kept-left : (content : Content) (numbers : List ℕ) (m : Model) (differences : List ℤ) (probes counts : List ℕ)
    → get_or (told_of_kept content numbers m differences probes counts).counts 21 0 ≡ get_or counts 21 0
unfolding analysis_told
kept-left Content.Nothing numbers m differences probes counts = refl
kept-left Content.TooLong numbers m differences probes counts = refl
kept-left Content.UnknownWord numbers m differences probes counts = refl
kept-left Content.BadNumber numbers m differences probes counts = refl
kept-left Content.WrongCount numbers m differences probes counts = refl
kept-left Content.Item numbers m differences probes counts = refl
kept-left (Content.Bus n) numbers m differences probes counts = refl
kept-left (Content.BusOut size n) numbers m differences probes counts = refl
kept-left (Content.Tick n) numbers m differences probes counts = refl
kept-left (Content.Flight up down) numbers m differences probes counts = refl
kept-left (Content.Temperature n) numbers m differences probes counts = refl
kept-left Content.Int numbers m differences probes counts = refl
kept-left Content.Awaited numbers m differences probes counts = refl
kept-left Content.Regs numbers m differences probes counts = refl
kept-left (Content.Expect a n) numbers m differences probes counts = refl
kept-left Content.Show numbers m differences probes counts = refl
kept-left (Content.Set a n) numbers m differences probes counts = refl
kept-left (Content.At t) numbers m differences probes counts = refl
kept-left (Content.Stretch n) numbers m differences probes counts = refl
kept-left Content.Frames numbers m differences probes counts = refl
kept-left (Content.Probe n) numbers m differences probes counts = probe-left _ probes counts
kept-left Content.Degrees numbers m differences probes counts = degrees-left numbers probes counts
kept-left (Content.Record n) numbers m differences probes counts = record-left _ differences counts
kept-left (Content.Listing old first) numbers m differences probes counts = listing-left _ first _ _ counts
kept-left (Content.Quietest n) numbers m differences probes counts = quietest-left n _ counts

-- What a line tells leaves its ticks but for the first 1,048,576 in count 21.
line-left : (content : Content) (numbers : List ℕ) (s : WithFlash) (differences : List ℤ) (probes : List ℕ)
    → get_or s.log.counts 21 0 ≡ 0 → 21 < length s.log.counts
    → get_or (line_told content numbers s differences probes).counts 21 0 ≡ ticks_left content s.log.counts
unfolding line_told
line-left content numbers s differences probes none long =
    let m = (call_line content numbers s).model in
    let first = (call_told content numbers s).counts in
    kept-left content numbers m differences probes (question_told content numbers m first).counts
    ∙ (question-left content numbers m first ∙ call-left content numbers s none long)

-- ---- what stands before it

-- a bad line has no ticks to run
pub fault-ticks : (content : Content) (counts : List ℕ) → is_fault content counts ≡ true → ticks_of content counts ≡ 0
unfolding is_fault is_past_or_full ticks_of
fault-ticks Content.Nothing counts bad = refl
fault-ticks Content.TooLong counts bad = refl
fault-ticks Content.UnknownWord counts bad = refl
fault-ticks Content.BadNumber counts bad = refl
fault-ticks Content.WrongCount counts bad = refl
fault-ticks Content.Item counts bad = refl
fault-ticks (Content.Bus n) counts bad = refl
fault-ticks (Content.BusOut size n) counts bad = refl
fault-ticks (Content.Tick n) counts bad = let z : ◌≡◌ {A = ℕ} 0 1 = cc in absurd (omega arith)
fault-ticks (Content.Flight up down) counts bad = refl
fault-ticks (Content.Temperature n) counts bad = refl
fault-ticks Content.Int counts bad = refl
fault-ticks Content.Awaited counts bad = refl
fault-ticks Content.Regs counts bad = refl
fault-ticks (Content.Expect a n) counts bad = refl
fault-ticks Content.Show counts bad = refl
fault-ticks (Content.Set a n) counts bad = refl
fault-ticks (Content.At t) counts bad = omega (arith, ltb-true t (get_or counts 9 0) bad)
fault-ticks (Content.Stretch n) counts bad = refl
fault-ticks Content.Frames counts bad = refl
fault-ticks (Content.Probe n) counts bad = refl
fault-ticks Content.Degrees counts bad = refl
fault-ticks (Content.Record n) counts bad = refl
fault-ticks (Content.Listing old first) counts bad = refl
fault-ticks (Content.Quietest n) counts bad = refl

pub left-ticks : (content : Content) (counts : List ℕ) → ticks_of (left_of content counts) counts ≡ ticks_of content counts
unfolding left_of
left-ticks content counts =
    by-test (is_fault content counts) (λ e. rw e (no-ticks ∙ sym (fault-ticks content counts e))) (λ e. rw e)
  where
    no-ticks : ticks_of Content.Nothing counts ≡ 0
    no-ticks = unfold ticks_of in refl

-- the ticks go by count 9 alone
pub ticks-same : (content : Content) (counts counts' : List ℕ) → get_or counts' 9 0 ≡ get_or counts 9 0 → ticks_of content counts' ≡ ticks_of content counts
unfolding ticks_of
ticks-same Content.Nothing counts counts' nine = refl
ticks-same Content.TooLong counts counts' nine = refl
ticks-same Content.UnknownWord counts counts' nine = refl
ticks-same Content.BadNumber counts counts' nine = refl
ticks-same Content.WrongCount counts counts' nine = refl
ticks-same Content.Item counts counts' nine = refl
ticks-same (Content.Bus n) counts counts' nine = refl
ticks-same (Content.BusOut size n) counts counts' nine = refl
ticks-same (Content.Tick n) counts counts' nine = refl
ticks-same (Content.Flight up down) counts counts' nine = refl
ticks-same (Content.Temperature n) counts counts' nine = refl
ticks-same Content.Int counts counts' nine = refl
ticks-same Content.Awaited counts counts' nine = refl
ticks-same Content.Regs counts counts' nine = refl
ticks-same (Content.Expect a n) counts counts' nine = refl
ticks-same Content.Show counts counts' nine = refl
ticks-same (Content.Set a n) counts counts' nine = refl
ticks-same (Content.At t) counts counts' nine = rw nine
ticks-same (Content.Stretch n) counts counts' nine = refl
ticks-same Content.Frames counts counts' nine = refl
ticks-same (Content.Probe n) counts counts' nine = refl
ticks-same Content.Degrees counts counts' nine = refl
ticks-same (Content.Record n) counts counts' nine = refl
ticks-same (Content.Listing old first) counts counts' nine = refl
ticks-same (Content.Quietest n) counts counts' nine = refl

-- A count that neither the head of a line nor a bad line nor an item's name changes.
module _ (p : ℕ) (above : 6 < p) (far : 12 ≤ p → 21 ≤ p) where
  pub counted-other : (counts : List ℕ) → get_or (line_counted counts) p 0 ≡ get_or counts p 0
  unfolding line_counted added
  counted-other counts =
      get_or-set_other (set (set (set counts 2 _) 12 (get_or counts 0 0)) 17 (get_or counts 4 0)) 18 p _ 0 (λ e. omega (arith, far (omega arith)))
      ∙ (get_or-set_other (set (set counts 2 _) 12 (get_or counts 0 0)) 17 p _ 0 (λ e. omega (arith, far (omega arith)))
      ∙ (get_or-set_other (set counts 2 _) 12 p _ 0 (λ e. omega (arith, far (omega arith))) ∙ get_or-set_other counts 2 p _ 0 (λ e. omega arith)))

  pub head-other : (names counts : List ℕ) → get_or (head_told names counts).counts p 0 ≡ get_or counts p 0
  unfolding head_told
  head-other names counts =
      by-test (eqb (get_or counts 14 0) 0) (λ e. rw e) (λ e. rw e (get_or-set_other counts 19 p _ 0 (λ e. omega (arith, far (omega arith)))))

  pub begun-other : (names counts : List ℕ) → get_or (begun_told names counts).counts p 0 ≡ get_or counts p 0
  unfolding begun_told
  begun-other names counts =
      get_or-set_other (head_told names (line_counted counts)).counts 20 p _ 0 (λ e. omega (arith, far (omega arith)))
      ∙ (head-other names (line_counted counts) ∙ counted-other counts)

  pub fault-other : (content : Content) (counts : List ℕ) → get_or (fault_told content counts).counts p 0 ≡ get_or counts p 0
  unfolding fault_told added
  fault-other content counts = by-test (is_fault content counts) (λ e. rw e (get_or-set_other counts 6 p _ 0 (λ e. omega arith))) (λ e. rw e)

  pub item-other : (content : Content) (text names counts : List ℕ) → get_or (item_told content text names counts).counts p 0 ≡ get_or counts p 0
  unfolding item_told
  item-other content text names counts =
      by-test (is_item content) (λ e. rw e (get_or-set_other counts 15 p _ 0 (λ e. omega (arith, far (omega arith))))) (λ e. rw e)

-- ---- a whole line

module _ (content : Content) (text numbers : List ℕ) (r : Replay) (counts : length r.state.log.counts ≡ 22) (before : get_or r.state.log.counts 21 0 ≡ 0) where
  abbrev start : List ℕ
  start = (head_of r).counts

  abbrev left : Content
  left = left_of content start

  abbrev first : List ℕ
  first = (fault_told content start).counts

  abbrev pub second : List ℕ
  second = (item_told left text r.names first).counts

  same : (p : ℕ) → 6 < p → (12 ≤ p → 21 ≤ p) → get_or second p 0 ≡ get_or start p 0
  same p above far = item-other p above far left text r.names first ∙ fault-other p above far content start

  pub second-long : length second ≡ 22
  second-long = (item-aside left text r.names first 0).long ∙ ((fault-aside content start 0).long ∙ (begun-long r.names r.state.log.counts ∙ counts))

  pub second_none : get_or second 21 0 ≡ 0
  second_none =
      same 21 (omega arith) (λ h. omega arith) ∙ (begun-other 21 (omega arith) (λ h. omega arith) r.names r.state.log.counts ∙ before)

  pub ticks-are : ticks_of left second ≡ ticks_of content r.state.log.counts
  ticks-are =
      ticks-same left start second (same 9 (omega arith) (λ h. omega arith))
      ∙ (left-ticks content start
      ∙ ticks-same content r.state.log.counts start (begun-other 9 (omega arith) (λ h. omega arith) r.names r.state.log.counts))

  -- Behind a line that was not under way count 21 has its ticks but for the first 1,048,576: a bad line has none.
  pub own-ticks : get_or (own_of content text numbers r).counts 21 0 ≡ ticks_left content r.state.log.counts
  unfolding own_told ticks_left
  own-ticks =
      line-left left numbers (bare r.state second) r.state.differences r.state.probes second_none (omega (arith, second-long))
      ∙ ap (λ (n : ℕ). n - 1048576) ticks-are

  -- So none is under way behind a line of at most so many ticks, and of none behind any other line.
  pub own-after : ticks_of content r.state.log.counts ≤ 1048576 → get_or (own_of content text numbers r).counts 21 0 ≡ 0
  unfolding ticks_left
  own-after few = own-ticks ∙ omega (arith, few)
