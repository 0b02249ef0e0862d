-- A line of more than 1,048,576 ticks is under way behind its first part. Assumes nothing.
use Prim.Native.Nat.{ℕ, ◌+◌, ◌-◌, ◌*◌, ◌/◌, ◌≤◌, ◌<◌, min}
use mathlib.Core.Bool.{Bool, true, false, cond, true≢false}
use mathlib.Core.List.{List, [], ◌∷◌, ◌++◌, append-nil, append_assoc}
use mathlib.Core.Logic.{inl, inr}
use mathlib.Core.Path.{◌≡◌, refl, sym, ap, subst, ◌∙◌}
use native.Mathlib.Omega.{arith}
use lib.Dec.{eqb}
use lib.ListN.{length, get_or, set, take, drop, length-append, length-set}
use lib.Seq.{get_or-set_same, get_or-set_other, length-take-le, take-nil, drop-append-le}
use borrow.Author.Tests.{eq-eqb, ne_eqb}
use Rattle.unit.proofs.Cases.{by-test, by_eqb}
use Rattle.numeral.specs.Place.{joined}
use Rattle.wording.specs.Wording.{Texts}
use Rattle.line.specs.declared.Content.{Content}
use Rattle.line.specs.Line.{line_reading}
use Rattle.line_buffer.specs.Lines.{has_line, line_of}
use Rattle.line_buffer.proofs.LineLaws.{behind-shorter}
use Rattle.item_state.specs.Log.{Log, call_counted}
use Rattle.item_calls.specs.Lines.{ticked}
use Rattle.item_checks.specs.Fault.{is_fault, left_of}
use Rattle.item_checks.specs.Open.{is_item}
use Rattle.item_checks.specs.Close.{expected_of, briefly, kept_briefly}
use Rattle.answer_text.specs.Texts.{Told, on_page, HasRoom, silent, behind, told_of_head, told_of_part, end_texts}
use Rattle.answer_text.specs.Line.{line_told}
use Rattle.answer_text.proofs.Page.{joined-append}
use Rattle.session.specs.Line.{State, line_done, Replay, with_log, content_answered, line_answered}
use Rattle.session.specs.Feed.{Fed, left_behind, line_fed}
use Rattle.line_text.specs.Text.{fault_told, item_told, names_after, bare, own_told, shown_answer, head_of, own_of, elsewhere}
use Rattle.line_text.proofs.Apart.{own-elsewhere, left-elsewhere, count-elsewhere}
use Rattle.line_text.proofs.Own.{own-left}
use Rattle.line_text.proofs.Told.{begun-long}
use Rattle.line_text.proofs.Close.{Stands, Written, briefly-count}
use Rattle.line_text.proofs.Whole.{whole, under-page, page-left, names-page, model-page, flash-page, differences-page, probes-page}
use Rattle.line_text.proofs.Elsewhere.{moved, begun-elsewhere, own-log}
use Rattle.line_text.proofs.Text.{text_of, Begins, room-begun, shown, page-other, base-long, head-size}
use Rattle.line_text.proofs.Kept.{Alike, done-elsewhere}
use Rattle.line_room.specs.Form.{InForm, NumbersFit, ticks_of, ticks_left as left_after}
use Rattle.line_room.proofs.Ticks.{fault-ticks, ticks-same, begun-other, own-ticks}
use Rattle.line_room.proofs.Numbers.{numbers-kept}
use Rattle.line_room.proofs.Kept.{content-kept}
use Rattle.line_room.proofs.Whole.{begin-line}
use Rattle.tick_parts.proofs.Behind.{nothing-startable}
use Rattle.replay_text.specs.Replay.{TickLine, Page}
use Rattle.replay_text.proofs.Reading.{TicksBounded, ticks-bounded, ticks-again}
use Rattle.replay_text.proofs.Runs.{Runs, first-told, tick_run, tick-runs, at_run, at-runs}
use Rattle.replay_text.proofs.Loop.{used_of, ticks_left, measure, page_after, Comes}
use Rattle.replay_text.proofs.Sim.{plain, counts_of, line_in, head_counts, answer_after, ends-elsewhere, twice-elsewhere, Idle, Opened, Checked, Under}
use Rattle.replay_text.proofs.Lines.{begun-written}

-- ---- which lines are so long

pub record Long (content : Content) (counts : List ℕ) : Type 0 where
  pub total : ℕ
  pub run : TickLine
  pub runs : Runs content counts run total
  pub ticks : run.ticks ≡ ticks_of content counts
  pub bound : TicksBounded content → total ≤ 4294967295

tick-long : (n : ℕ) (counts : List ℕ) → 1048576 < ticks_of (Content.Tick n) counts → Long (Content.Tick n) counts
unfolding ticks_of
tick-long n counts many =
    by_eqb n 1 (λ h e. absurd (let none = rw e at many in omega arith))
    (λ h e. record { total = n; run = tick_run n h counts; runs = tick-runs n h counts; ticks = rw e; bound = λ b. b })

at_long : (t : ℕ) (counts : List ℕ) → Long (Content.At t) counts
unfolding ticks_of
at_long t counts = record { total = t; run = at_run t counts; runs = at-runs t counts; ticks = refl; bound = λ b. b }

pub long-line : (content : Content) (counts : List ℕ) → 1048576 < ticks_of content counts → Long content counts
unfolding ticks_of
long-line Content.Nothing counts many = absurd (omega arith)
long-line Content.TooLong counts many = absurd (omega arith)
long-line Content.UnknownWord counts many = absurd (omega arith)
long-line Content.BadNumber counts many = absurd (omega arith)
long-line Content.WrongCount counts many = absurd (omega arith)
long-line Content.Item counts many = absurd (omega arith)
long-line (Content.Bus n) counts many = absurd (omega arith)
long-line (Content.BusOut size n) counts many = absurd (omega arith)
long-line (Content.Tick n) counts many = tick-long n counts many
long-line (Content.Flight up down) counts many = absurd (omega arith)
long-line (Content.Temperature n) counts many = absurd (omega arith)
long-line Content.Int counts many = absurd (omega arith)
long-line Content.Awaited counts many = absurd (omega arith)
long-line Content.Regs counts many = absurd (omega arith)
long-line (Content.Expect a n) counts many = absurd (omega arith)
long-line Content.Show counts many = absurd (omega arith)
long-line (Content.Set a n) counts many = absurd (omega arith)
long-line (Content.At t) counts many = at_long t counts
long-line (Content.Stretch n) counts many = absurd (omega arith)
long-line Content.Frames counts many = absurd (omega arith)
long-line (Content.Probe n) counts many = absurd (omega arith)
long-line Content.Degrees counts many = absurd (omega arith)
long-line (Content.Record n) counts many = absurd (omega arith)
long-line (Content.Listing old first) counts many = absurd (omega arith)
long-line (Content.Quietest n) counts many = absurd (omega arith)

-- ---- a line of ticks that is no bad one tells nothing else

module _ {content : Content} {counts : List ℕ} {run : TickLine} {total : ℕ} (runs : Runs content counts run total) (good : is_fault content counts ≡ false) where
  run-left : left_of content counts ≡ content
  unfolding left_of
  run-left = rw good

  run-own : (line numbers names : List ℕ) (s : State) → own_told content line numbers names s counts ≡ line_told content numbers (bare s counts) s.differences s.probes
  unfolding own_told fault_told item_told
  run-own line numbers names s = rw (run-left, good, runs.item)

  run-opening : (line names : List ℕ) → (behind (fault_told content counts) (item_told (left_of content counts) line names)).counts ≡ counts
  unfolding fault_told item_told
  run-opening line names = rw (run-left, good, runs.item)

nothing-before : (content : Content) (line names : List ℕ) (head : Told) → is_fault content head.counts ≡ false → is_item content ≡ false
    → (behind (behind head (fault_told content)) (item_told (left_of content head.counts) line names)).counts ≡ head.counts
unfolding fault_told item_told left_of
nothing-before content line names head good plain' = rw (good, plain')

-- ---- the first part

module _ (w : List ℕ) (f : Fed) (p : Page) (i : Idle w f p) (used : used_of f ≤ 49152) (some : has_line f.left ≡ true)
    (many : 1048576 < ticks_of (line_reading f.numbers (line_in f)).content (counts_of f)) where
  abbrev line : List ℕ
  line = line_in f

  abbrev content : Content
  content = (line_reading f.numbers line).content

  abbrev numbers : List ℕ
  numbers = (line_reading f.numbers line).numbers

  abbrev expected : List (List ℕ)
  expected = expected_of line

  abbrev r : Replay
  r = f.replay

  abbrev counts : List ℕ
  counts = counts_of f

  abbrev log : Log
  log = r.state.log

  b : Begins content expected line numbers r
  b = begin-line line f.numbers r i.form i.fits used i.none

  -- the definition's page, by what is kept
  abbrev p₀ : Page
  p₀ = record { text = p.text; numbers = f.numbers; replay = plain r }

  page-is : p ≡ p₀
  page-is = rw (i.numbers, i.kept)

  -- ---- with no buffer

  abbrev body : ℕ
  body = 0 + length (joined (head_of r).texts)

  head-moved : head_of (plain r) ≡ moved 0 0 (head_of r)
  head-moved = begun-elsewhere r.names 0 0 0 0 counts b.counts

  head-texts : (head_of (plain r)).texts ≡ (head_of r).texts
  head-texts = ap (λ (t : Told). t.texts) head-moved

  abbrev hc : List ℕ
  hc = (head_of r).counts

  abbrev hc₀ : List ℕ
  hc₀ = head_counts p₀

  counts-moved : hc₀ ≡ elsewhere 0 0 0 body hc
  counts-moved = ap (λ (t : Told). t.counts) head-moved

  hc-other : (k : ℕ) → (k ≡ 0 → ⊥) → (k ≡ 12 → ⊥) → (k ≡ 13 → ⊥) → (k ≡ 20 → ⊥) → get_or hc₀ k 0 ≡ get_or hc k 0
  hc-other k x y z a = ap (λ (c : List ℕ). get_or c k 0) counts-moved ∙ count-elsewhere 0 0 0 body hc k x y z a

  hc-long : length hc ≡ 22
  hc-long = begun-long r.names counts ∙ b.counts

  hc₀-long : length hc₀ ≡ 22
  hc₀-long = ap length counts-moved ∙ (simp length-set hc-long)

  hc₀-none : get_or hc₀ 21 0 ≡ 0
  hc₀-none =
      hc-other 21 (λ e. omega arith) (λ e. omega arith) (λ e. omega arith) (λ e. omega arith)
      ∙ (begun-other 21 (omega arith) (λ h. omega arith) r.names counts ∙ i.none)

  ticks₀ : ticks_of content hc₀ ≡ ticks_of content counts
  ticks₀ =
      ticks-same content counts hc₀
      (hc-other 9 (λ e. omega arith) (λ e. omega arith) (λ e. omega arith) (λ e. omega arith) ∙ begun-other 9 (omega arith) (λ h. omega arith) r.names counts)

  long : Long content hc₀
  long = long-line content hc₀ (omega (arith, ticks₀))

  abbrev run : TickLine
  run = long.run

  many₀ : 1048576 < run.ticks
  many₀ = omega (arith, long.ticks, ticks₀)

  good : is_fault content hc₀ ≡ false
  good = by-test (is_fault content hc₀) (λ e. absurd (omega (arith, fault-ticks content hc₀ e, ticks₀))) (λ e. e)

  bounded : long.total ≤ 4294967295
  bounded = long.bound (ticks-bounded f.numbers line)

  -- ---- what it tells

  abbrev own : Told
  own = own_of content line numbers r

  abbrev own₀ : Told
  own₀ = own_of content line numbers (plain r)

  own-moved : own₀ ≡ record { texts = own.texts; counts = elsewhere 0 0 0 body own.counts }
  own-moved =
      ap (own_told content line numbers r.names (plain r).state) counts-moved
      ∙ (own-log content line numbers r.names r.state (plain r).state.log (elsewhere 0 0 0 body hc)
      ∙ own-elsewhere content expected line numbers r.names r.state 0 0 0 body hc)

  abbrev over : ℕ
  over = run.ticks - 1048576

  abbrev reports : Texts
  reports = (ticked 1048576 1048576 run.before r.state.model).texts

  own_is : own₀ ≡ record { texts = run.head ++ (reports ++ []); counts = set (call_counted 0 run.counts) 21 over }
  unfolding end_texts
  own_is =
      let all : min run.ticks 1048576 ≡ 1048576 = omega (arith, many₀) in
      let more : over ≡ 0 → ⊥ = λ e. omega (arith, many₀) in
      run-own long.runs good line numbers r.names (plain r).state
      ∙ (long.runs.first numbers (plain r).state
      ∙ (first-told run.head run.ticks long.total run.counts hc₀ r.state.model long.runs.low hc₀-none (omega (arith, long.runs.long, hc₀-long))
      ∙ rw (all, ne_eqb over 0 more, ← long.runs.before)))

  answer-is : joined own.texts ≡ answer_after run (1048576 * 1) p₀
  answer-is =
      ap joined (sym (ap (λ (t : Told). t.texts) own-moved) ∙ ap (λ (t : Told). t.texts) own_is)
      ∙ (joined-append run.head (reports ++ []) ∙ ap (λ (x : List ℕ). joined run.head ++ x) (ap joined (append-nil reports)))

  counts-are : elsewhere 0 0 0 0 own.counts ≡ elsewhere 0 0 0 0 (set (call_counted 0 run.counts) 21 over)
  counts-are =
      sym (twice-elsewhere 0 0 0 0 0 0 0 body own.counts)
      ∙ (sym (ap (λ (t : Told). elsewhere 0 0 0 0 t.counts) own-moved) ∙ ap (λ (t : Told). elsewhere 0 0 0 0 t.counts) own_is)

  left_is : get_or own.counts 21 0 ≡ over
  unfolding left_after
  left_is = own-ticks content line numbers r b.counts i.none ∙ omega (arith, long.ticks, ticks₀)

  going : get_or own.counts 21 0 ≡ 0 → ⊥
  going e = omega (arith, left_is, many₀)

  -- ---- what it leaves

  abbrev page : Log
  page = kept_briefly (on_page (whole content line numbers r) log)

  abbrev next : Replay
  next = content_answered content expected line numbers r

  some₀ : 0 < length counts
  some₀ = omega (arith, b.counts)

  log-next : next.state.log ≡ page
  log-next = under-page content line numbers r some₀ (room-begun content expected line numbers r b) b.small b.fit expected i.none going

  left_here : left_of content hc ≡ content
  left_here = sym (left-elsewhere content 0 0 0 body hc) ∙ (sym (ap (left_of content) counts-moved) ∙ run-left long.runs good)

  good-here : is_fault content hc ≡ false
  good-here = by-test (is_fault content hc) (λ e. absurd (omega (arith, fault-ticks content hc e, ticks-here))) (λ e. e)
    where
      ticks-here : ticks_of content hc ≡ ticks_of content counts
      ticks-here = ticks-same content counts hc (begun-other 9 (omega arith) (λ h. omega arith) r.names counts)

  abbrev before : List ℕ
  before = (behind (behind (head_of r) (fault_told content)) (item_told (left_of content hc) line r.names)).counts

  before-is : before ≡ hc
  before-is = nothing-before content line r.names (head_of r) good-here long.runs.item

  abbrev done : List ℕ → State
  done c = line_done content numbers (with_log r.state record { counts = c; answers = [] })

  done-is : line_done (left_of content hc) numbers (with_log r.state record { counts = before; answers = [] }) ≡ done hc
  done-is = rw (left_here, before-is)

  alike : Alike (done hc₀) (done hc)
  alike = rw counts-moved (done-elsewhere content numbers r.state 0 0 0 body hc (omega (arith, hc-long)))

  room : HasRoom (whole content line numbers r) log
  room = room-begun content expected line numbers r b

  model-next : next.state.model ≡ (ticked 1048576 1048576 run.before r.state.model).model
  model-next =
      let all : min run.ticks 1048576 ≡ 1048576 = omega (arith, many₀) in
      let ran = rw all at (long.runs.first_model numbers (with_log r.state record { counts = hc₀; answers = [] }) refl hc₀-none (omega (arith, hc₀-long))) in
      model-page content line numbers r some₀ room expected i.none ∙ (ap (λ (s : State). s.model) done-is ∙ (sym alike.model ∙ ran))

  others : ((done hc).flash ≡ r.state.flash) × ((done hc).differences ≡ r.state.differences) × ((done hc).probes ≡ r.state.probes)
  others = long.runs.others numbers (with_log r.state record { counts = hc; answers = [] })

  flash-next : next.state.flash ≡ r.state.flash
  flash-next = flash-page content line numbers r some₀ room expected i.none ∙ (ap (λ (s : State). s.flash) done-is ∙ others.0)

  differences-next : next.state.differences ≡ r.state.differences
  differences-next = differences-page content line numbers r some₀ room expected i.none ∙ (ap (λ (s : State). s.differences) done-is ∙ others.1)

  probes-next : next.state.probes ≡ r.state.probes
  probes-next = probes-page content line numbers r some₀ room expected i.none ∙ (ap (λ (s : State). s.probes) done-is ∙ others.2)

  names-next : next.names ≡ r.names
  unfolding names_after
  names-next = names-page content line numbers r some₀ room expected i.none ∙ rw (left_here, long.runs.item)

  numbers-next : numbers ≡ f.numbers
  numbers-next = (ticks-again f.numbers f.numbers line long.runs.ticks).0

  -- ---- the buffer

  is-shown : Written (text_of r) (joined (head_of r).texts) (shown_answer own.counts (joined own.texts)) own.counts page
  is-shown = shown content expected line numbers r b

  own-check : get_or own.counts 14 0 ≡ get_or hc₀ 14 0
  own-check =
      own-left 14 (omega arith) (omega arith) (λ e. omega arith) content line numbers r.names r.state hc (omega (arith, hc-long))
      ∙ sym (hc-other 14 (λ e. omega arith) (λ e. omega arith) (λ e. omega arith) (λ e. omega arith))

  shows : (t : Bool) → eqb (get_or hc₀ 14 0) 0 ≡ t → shown_answer own.counts (joined own.texts) ≡ cond t (answer_after run (1048576 * 1) p₀) (briefly (answer_after run (1048576 * 1) p₀))
  unfolding shown_answer
  shows t e = rw (own-check, e, answer-is)

  from : get_or page.counts 13 0 ≡ get_or counts 13 0
  from =
      briefly-count (on_page (whole content line numbers r) log) 13 (λ e. omega arith)
      ∙ (page-other content expected line numbers r b 13 (λ e. omega arith)
      ∙ (own-left 13 (omega arith) (omega arith) (λ e. omega arith) content line numbers r.names r.state hc (omega (arith, hc-long)) ∙ begun-written r.names counts))

  page-ticks : get_or page.counts 21 0 ≡ over
  page-ticks =
      briefly-count (on_page (whole content line numbers r) log) 21 (λ e. omega arith)
      ∙ (page-left (whole content line numbers r) log ∙ left_is)

  stream : (more : List ℕ) → w ++ drop (get_or counts 13 0) (text_of r ++ more) ≡ p.text ++ more
  stream more =
      rw (drop-append-le (get_or counts 13 0) (text_of r) more i.low)
      (sym (append_assoc w (drop (get_or counts 13 0) (text_of r)) more) ∙ ap (λ (x : List ℕ). x ++ more) i.text)

  abbrev answer : List ℕ
  answer = answer_after run (1048576 * 1) p₀

  opened : eqb (get_or hc₀ 14 0) 0 ≡ true → Opened w (text_of r) (shown_answer own.counts (joined own.texts)) answer p.text (get_or page.counts 13 0)
  opened outside = record {
    gone = [];
    rest = answer;
    whole = refl;
    kept = shows true outside;
    long = inl refl;
    startable = λ expected' few. nothing-startable expected';
    low = omega (arith, from, i.low);
    stream = rw from stream;
  }

  checked : eqb (get_or hc₀ 14 0) 0 ≡ false → Checked w (text_of r) (shown_answer own.counts (joined own.texts)) answer p.text (get_or page.counts 13 0)
  checked inside = record { kept = shows false inside; low = rw from i.low; stream = rw from i.text }

  abbrev shape : Replay
  shape = record { state = with_log next.state page; names = next.names }

  shape_is : next ≡ shape
  shape_is = rw (← log-next)

  under : Under w record { replay = shape; numbers = numbers; left = f.left } p₀
  under = record {
    form = subst InForm shape_is (content-kept content expected line numbers r i.form);
    fits = numbers-kept f.numbers line i.fits;
    some = some;
    numbers = numbers-next;
    content = content;
    read = refl;
    good = good;
    total = long.total;
    run = run;
    runs = long.runs;
    bound = bounded;
    idle = hc₀-none;
    parts = 1;
    more = omega (arith, many₀);
    left = page-ticks ∙ omega arith;
    model = model-next;
    flash = flash-next;
    differences = differences-next;
    probes = probes-next;
    names = names-next;
    counts = ap (elsewhere 0 0 0 0) is-shown.same ∙ (ends-elsewhere own.counts 0 0 0 0 (get_or page.counts 0 0) ∙ counts-are);
    base = text_of r;
    own = shown_answer own.counts (joined own.texts);
    short = omega (arith, base-long content expected line numbers r b);
    stands = rw head-texts is-shown.stands;
    open' = opened;
    checked = checked;
  }

  fed-is : line_fed f ≡ record { replay = shape; numbers = numbers; left = f.left }
  unfolding line_fed line_answered left_behind
  fed-is = rw (log-next, ne_eqb (get_or page.counts 21 0) 0 (λ e. omega (arith, page-ticks, many₀)), ← log-next)

  measure-first : measure (line_fed f) < measure f
  measure-first =
      let now : ticks_left (line_fed f) ≡ over = ap ticks_left fed-is ∙ page-ticks in
      let still : (line_fed f).left ≡ f.left = ap (λ (g : Fed). g.left) fed-is in
      rw (now, still, ne_eqb over 0 (λ e. omega (arith, many₀)), eq-eqb (ticks_left f) 0 i.none)
      (omega (arith, behind-shorter f.left some, bounded, long.runs.low))

  pub long-comes : Comes Idle Under w f (line_fed f) p
  long-comes = record {
    page = p;
    there = inr (rw (fed-is, page-is) under);
    after = rw fed-is;
    rest = rw fed-is;
    less = measure-first;
  }
