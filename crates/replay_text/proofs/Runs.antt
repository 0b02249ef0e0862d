-- The two lines that run ticks: what their first part tells and does, and what any later one does. Assumes nothing.
use Prim.Native.Nat.{ℕ, ◌-◌, ◌≤◌, ◌<◌, min}
use mathlib.Core.Bool.{Bool, true, false, cond}
use mathlib.Core.List.{List, [], ◌∷◌, ◌++◌, append-nil}
use mathlib.Core.Path.{◌≡◌, refl, sym, ap, ◌∙◌}
use native.Mathlib.Omega.{arith}
use lib.Dec.{eqb}
use lib.ListN.{length, get_or, set, length-set}
use lib.Seq.{get_or-set_same, get_or-set_other, set-set, set-get_or}
use borrow.Author.Tests.{eq-eqb, ne_eqb}
use Rattle.device.specs.declared.Model.{Model}
use Rattle.numeral.specs.Place.{joined}
use Rattle.line.specs.declared.Content.{Content}
use Rattle.line.specs.Line.{Bounded}
use Rattle.line_buffer.specs.Lines.{has_line}
use Rattle.numeral.specs.Ascii.{ascii}
use Rattle.wording.specs.Wording.{Texts, line_feed, numbered}
use Rattle.item_state.specs.Log.{Log, added, said, counted, called, call_counted}
use Rattle.item_calls.specs.Lines.{moved, ticked, part_ended, ticks_part, ticks_ahead, unless_under_way, ticks_begun, tick_line, at_begun, at_line, call_line, timed_line, beside}
use Rattle.item_checks.specs.Open.{is_item}
use Rattle.item_questions.specs.Answers.{question_line}
use Rattle.item_analysis.specs.Lines.{analysis_line}
use Rattle.answer_text.specs.Texts.{Told, behind, is_listing, told_of_head, end_texts, told_of_part, told_of_ticks, told_of_tick, told_of_at, call_told, question_told, analysis_told}
use Rattle.answer_text.specs.Line.{line_left, line_told}
use Rattle.session.specs.Line.{State, line_done}
use Rattle.line_text.specs.Text.{bare}
use Rattle.tick_parts.specs.Kept.{Few, Startable}
use Rattle.tick_parts.proofs.Behind.{tick-startable, at-startable}
use Rattle.replay_text.specs.Replay.{TickLine, tick_lines}
use Rattle.replay_text.proofs.Reading.{is_ticks}

-- ---- what a part tells

pub called-check : (refused : ℕ) (counts : List ℕ) → get_or (call_counted refused counts) 14 0 ≡ get_or counts 14 0
unfolding call_counted added
called-check refused counts = get_or-set_other (set counts 3 _) 4 14 _ 0 (λ e. omega arith) ∙ get_or-set_other counts 3 14 _ 0 (λ e. omega arith)

pub called-ticks : (refused : ℕ) (counts : List ℕ) → get_or (call_counted refused counts) 21 0 ≡ get_or counts 21 0
unfolding call_counted added
called-ticks refused counts = get_or-set_other (set counts 3 _) 4 21 _ 0 (λ e. omega arith) ∙ get_or-set_other counts 3 21 _ 0 (λ e. omega arith)

pub called-long : (refused : ℕ) (counts : List ℕ) → length (call_counted refused counts) ≡ length counts
unfolding call_counted added
called-long refused counts = simp length-set

moved-long : (n : ℕ) (counts : List ℕ) → length (moved n counts) ≡ length counts
unfolding moved added
moved-long n counts = length-set counts 9 _

-- a part of the ticks that are left, of so many
pub part-told : (total : ℕ) (m : Model) (counts : List ℕ) → get_or counts 21 0 ≤ total
    → told_of_part total m counts
    ≡ record {
      texts = (ticked (min (get_or counts 21 0) 1048576) (min (get_or counts 21 0) 1048576) (total - get_or counts 21 0) m).texts ++ end_texts (get_or counts 21 0 - min (get_or counts 21 0) 1048576);
      counts = set counts 21 (get_or counts 21 0 - min (get_or counts 21 0) 1048576);
    }
unfolding told_of_part
part-told total m counts low =
    let all : min (get_or counts 21 0) total ≡ get_or counts 21 0 = omega arith in rw all

-- the first part, behind the line's first words
pub first-told : (head : Texts) (n total : ℕ) (after counts : List ℕ) (m : Model) → n ≤ total → get_or counts 21 0 ≡ 0 → 21 < length after
    → behind (told_of_head head n after counts) (told_of_part total m)
    ≡ record {
      texts = head ++ ((ticked (min n 1048576) (min n 1048576) (total - n) m).texts ++ end_texts (n - min n 1048576));
      counts = set (call_counted 0 after) 21 (n - min n 1048576);
    }
unfolding told_of_head
first-told head n total after counts m low none long =
    let begun : List ℕ = set (call_counted 0 after) 21 n in
    let there : get_or begun 21 0 ≡ n = get_or-set_same (call_counted 0 after) 21 n 0 (omega (arith, called-long 0 after)) in
    rw (eq-eqb (get_or counts 21 0) 0 none, part-told total m begun (omega (arith, there)), there, set-set (call_counted 0 after) 21 n (n - min n 1048576))

-- ---- the two lines

-- A line of ticks by the counts before it: how many it names, and what it does.
pub record Runs (content : Content) (counts : List ℕ) (t : TickLine) (total : ℕ) : Type 0 where
  pub is : tick_lines content counts ≡ t ∷ []
  -- it is none of the other lines
  pub ticks : is_ticks content ≡ true
  pub item : is_item content ≡ false
  pub listing : is_listing content ≡ false
  pub bounded : Bounded content
  -- its answer starts with one of the two words
  pub starts : (expected : List (List ℕ)) (more : List ℕ) → Few expected → has_line more ≡ false → Startable expected (joined t.head ++ more)
  pub low : t.ticks ≤ total
  pub before : t.before ≡ total - t.ticks
  pub long : length t.counts ≡ length counts
  pub none : get_or t.counts 21 0 ≡ get_or counts 21 0
  pub check : get_or t.counts 14 0 ≡ get_or counts 14 0
  pub first : (numbers : List ℕ) (s : State) → line_told content numbers (bare s counts) s.differences s.probes ≡ behind (told_of_head t.head t.ticks t.counts counts) (told_of_part total s.model)
  pub later : (numbers : List ℕ) (s : State) (cs : List ℕ) → (get_or cs 21 0 ≡ 0 → ⊥) → line_told content numbers (bare s cs) s.differences s.probes ≡ told_of_part total s.model cs
  pub first_model : (numbers : List ℕ) (s : State) → s.log.counts ≡ counts → get_or counts 21 0 ≡ 0 → 21 < length counts
      → (line_done content numbers s).model ≡ (ticked (min t.ticks 1048576) (min t.ticks 1048576) t.before s.model).model
  pub later_model : (numbers : List ℕ) (s : State) → (get_or s.log.counts 21 0 ≡ 0 → ⊥) → get_or s.log.counts 21 0 ≤ total
      → (line_done content numbers s).model ≡ (ticked (min (get_or s.log.counts 21 0) 1048576) (min (get_or s.log.counts 21 0) 1048576) (total - get_or s.log.counts 21 0) s.model).model
  pub others : (numbers : List ℕ) (s : State) → ((line_done content numbers s).flash ≡ s.flash) × ((line_done content numbers s).differences ≡ s.differences) × ((line_done content numbers s).probes ≡ s.probes)

-- ---- what it does

part-model : (total : ℕ) (m : Model) (l : Log) (left : ℕ) → get_or l.counts 21 0 ≡ left → left ≤ total
    → (ticks_part total m l).model ≡ (ticked (min left 1048576) (min left 1048576) (total - left) m).model
unfolding ticks_part
part-model total m l left is low =
    let all : min (get_or l.counts 21 0) total ≡ left = omega arith in rw all

log-long : (head : Texts) (l : Log) → length (called 0 head l).counts ≡ length l.counts
unfolding called counted call_counted added
log-long head l = simp length-set

ahead-ticks : (head : Texts) (n : ℕ) (l : Log) → 21 < length l.counts → get_or (ticks_ahead head n l).counts 21 0 ≡ n
unfolding ticks_ahead
ahead-ticks head n l long = get_or-set_same (called 0 head l).counts 21 n 0 (rw (log-long head l) long)

way-log : (begun l : Log) → (get_or l.counts 21 0 ≡ 0 → ⊥) → unless_under_way begun l ≡ l
unfolding unless_under_way
way-log begun l way = rw (ne_eqb (get_or l.counts 21 0) 0 way)

begun-log : (begun l : Log) → get_or l.counts 21 0 ≡ 0 → unless_under_way begun l ≡ begun
unfolding unless_under_way
begun-log begun l none = rw (eq-eqb (get_or l.counts 21 0) 0 none)

all_told : (t : Told) → record { texts = (t.texts ++ []) ++ []; counts = t.counts } ≡ t
all_told t = rw (append-nil t.texts, append-nil t.texts)

silent-head : (head : Texts) (n total : ℕ) (after counts : List ℕ) (m : Model) → (get_or counts 21 0 ≡ 0 → ⊥)
    → behind (told_of_head head n after counts) (told_of_part total m) ≡ told_of_part total m counts
unfolding told_of_head
silent-head head n total after counts m way = rw (ne_eqb (get_or counts 21 0) 0 way)

module _ (n : ℕ) (many : n ≡ 1 → ⊥) (counts : List ℕ) where
  abbrev pub tick_run : TickLine
  tick_run = record { head = numbered (ascii "tick ") n; ticks = n; before = 0; counts = moved n counts }

  tick_is : tick_lines (Content.Tick n) counts ≡ tick_run ∷ []
  unfolding tick_lines
  tick_is = rw (ne_eqb n 1 many)

  tick-tells : (numbers : List ℕ) (s : State) (cs : List ℕ)
      → line_told (Content.Tick n) numbers (bare s cs) s.differences s.probes ≡ behind (told_of_head (numbered (ascii "tick ") n) n (moved n cs) cs) (told_of_part n s.model)
  unfolding line_told call_told question_told analysis_told told_of_tick told_of_ticks
  tick-tells numbers s cs =
      rw (ne_eqb n 1 many) (all_told (behind (told_of_head (numbered (ascii "tick ") n) n (moved n cs) cs) (told_of_part n s.model)))

  tick-done : (numbers : List ℕ) (s : State) → (line_done (Content.Tick n) numbers s).model ≡ (ticks_part n s.model (ticks_begun n s.log)).model
  unfolding line_done call_line beside tick_line
  tick-done numbers s = rw (ne_eqb n 1 many)

  tick-others : (numbers : List ℕ) (s : State)
      → ((line_done (Content.Tick n) numbers s).flash ≡ s.flash) × ((line_done (Content.Tick n) numbers s).differences ≡ s.differences) × ((line_done (Content.Tick n) numbers s).probes ≡ s.probes)
  unfolding line_done line_left call_line beside question_line analysis_line
  tick-others numbers s = (refl, refl, refl)

  tick-first : (numbers : List ℕ) (s : State) → s.log.counts ≡ counts → get_or counts 21 0 ≡ 0 → 21 < length counts
      → (line_done (Content.Tick n) numbers s).model ≡ (ticked (min n 1048576) (min n 1048576) 0 s.model).model
  unfolding ticks_begun
  tick-first numbers s same none long =
      let begun = begun-log (ticks_ahead (numbered (ascii "tick ") n) n record { counts = moved n s.log.counts; answers = s.log.answers }) s.log (rw same none) in
      let zero : n - n ≡ 0 = omega arith in
      tick-done numbers s
      ∙ (part-model n s.model (ticks_begun n s.log) n (rw begun (ahead-ticks _ n _ (rw (same, moved-long n counts) long))) (omega arith)
      ∙ rw zero)

  tick-later : (numbers : List ℕ) (s : State) → (get_or s.log.counts 21 0 ≡ 0 → ⊥) → get_or s.log.counts 21 0 ≤ n
      → (line_done (Content.Tick n) numbers s).model ≡ (ticked (min (get_or s.log.counts 21 0) 1048576) (min (get_or s.log.counts 21 0) 1048576) (n - get_or s.log.counts 21 0) s.model).model
  unfolding ticks_begun
  tick-later numbers s way low =
      let going = way-log (ticks_ahead (numbered (ascii "tick ") n) n record { counts = moved n s.log.counts; answers = s.log.answers }) s.log way in
      tick-done numbers s ∙ part-model n s.model (ticks_begun n s.log) (get_or s.log.counts 21 0) (rw going) low

  pub tick-runs : Runs (Content.Tick n) counts tick_run n
  unfolding moved added is_ticks is_item is_listing
  tick-runs = record {
    is = tick_is;
    ticks = refl;
    item = refl;
    listing = refl;
    bounded = tt;
    starts = λ expected more few none. tick-startable expected n more few none;
    low = omega arith;
    before = omega arith;
    long = length-set counts 9 _;
    none = get_or-set_other counts 9 21 _ 0 (λ e. omega arith);
    check = get_or-set_other counts 9 14 _ 0 (λ e. omega arith);
    first = λ numbers s. tick-tells numbers s counts;
    later = λ numbers s cs way. tick-tells numbers s cs ∙ silent-head (numbered (ascii "tick ") n) n n (moved n cs) cs s.model way;
    first_model = tick-first;
    later_model = tick-later;
    others = tick-others;
  }

module _ (t : ℕ) (counts : List ℕ) where
  abbrev pub at_run : TickLine
  at_run = record {
    head = numbered (ascii "at ") t;
    ticks = t - get_or counts 9 0;
    before = t - (t - get_or counts 9 0);
    counts = set counts 9 t;
  }

  at-is : tick_lines (Content.At t) counts ≡ at_run ∷ []
  unfolding tick_lines
  at-is = refl

  at-tells : (numbers : List ℕ) (s : State) (cs : List ℕ)
      → line_told (Content.At t) numbers (bare s cs) s.differences s.probes ≡ behind (told_of_head (numbered (ascii "at ") t) (t - get_or cs 9 0) (set cs 9 t) cs) (told_of_part t s.model)
  unfolding line_told call_told question_told analysis_told told_of_at
  at-tells numbers s cs =
      all_told (behind (told_of_head (numbered (ascii "at ") t) (t - get_or cs 9 0) (set cs 9 t) cs) (told_of_part t s.model))

  at_done : (numbers : List ℕ) (s : State) → (line_done (Content.At t) numbers s).model ≡ (ticks_part t s.model (at_begun t s.log)).model
  unfolding line_done call_line timed_line beside at_line
  at_done numbers s = refl

  at_others : (numbers : List ℕ) (s : State)
      → ((line_done (Content.At t) numbers s).flash ≡ s.flash) × ((line_done (Content.At t) numbers s).differences ≡ s.differences) × ((line_done (Content.At t) numbers s).probes ≡ s.probes)
  unfolding line_done line_left call_line timed_line beside question_line analysis_line
  at_others numbers s = (refl, refl, refl)

  at_first : (numbers : List ℕ) (s : State) → s.log.counts ≡ counts → get_or counts 21 0 ≡ 0 → 21 < length counts
      → (line_done (Content.At t) numbers s).model ≡ (ticked (min (t - get_or counts 9 0) 1048576) (min (t - get_or counts 9 0) 1048576) (t - (t - get_or counts 9 0)) s.model).model
  unfolding at_begun
  at_first numbers s same none long =
      let n = t - get_or counts 9 0 in
      let n' = t - get_or s.log.counts 9 0 in
      let begun = begun-log (ticks_ahead (numbered (ascii "at ") t) n' record { counts = set s.log.counts 9 t; answers = s.log.answers }) s.log (rw same none) in
      let ticks : n' ≡ n = ap (λ (cs : List ℕ). t - get_or cs 9 0) same in
      at_done numbers s
      ∙ part-model t s.model (at_begun t s.log) n (rw begun (ahead-ticks _ n' _ (rw (length-set s.log.counts 9 t, same) long) ∙ ticks)) (omega arith)

  at-later : (numbers : List ℕ) (s : State) → (get_or s.log.counts 21 0 ≡ 0 → ⊥) → get_or s.log.counts 21 0 ≤ t
      → (line_done (Content.At t) numbers s).model ≡ (ticked (min (get_or s.log.counts 21 0) 1048576) (min (get_or s.log.counts 21 0) 1048576) (t - get_or s.log.counts 21 0) s.model).model
  unfolding at_begun
  at-later numbers s way low =
      let going = way-log (ticks_ahead (numbered (ascii "at ") t) (t - get_or s.log.counts 9 0) record { counts = set s.log.counts 9 t; answers = s.log.answers }) s.log way in
      at_done numbers s ∙ part-model t s.model (at_begun t s.log) (get_or s.log.counts 21 0) (rw going) low

  pub at-runs : Runs (Content.At t) counts at_run t
  unfolding is_ticks is_item is_listing
  at-runs = record {
    is = at-is;
    ticks = refl;
    item = refl;
    listing = refl;
    bounded = tt;
    starts = λ expected more few none. at-startable expected t more few none;
    low = omega arith;
    before = refl;
    long = length-set counts 9 _;
    none = get_or-set_other counts 9 21 _ 0 (λ e. omega arith);
    check = get_or-set_other counts 9 14 _ 0 (λ e. omega arith);
    first = λ numbers s. at-tells numbers s counts;
    later = λ numbers s cs way. at-tells numbers s cs ∙ silent-head (numbered (ascii "at ") t) (t - get_or cs 9 0) t (set cs 9 t) cs s.model way;
    first_model = at_first;
    later_model = at-later;
    others = at_others;
  }
