-- What is kept between two lines of a replay beside the page of the definition: where no line is under way, and within a line of ticks.
-- Writing keeps both. Assumes nothing.
use Prim.Native.Nat.{ℕ, ◌+◌, ◌-◌, ◌*◌, ◌≤◌, ◌<◌, min}
use mathlib.Core.Bool.{Bool, true, false, cond}
use mathlib.Core.List.{List, [], ◌∷◌, ◌++◌, append-nil, append_assoc}
use mathlib.Core.Logic.{◌⊎◌, ⊎_elim, inl, inr}
use mathlib.Core.Path.{◌≡◌, refl, sym, ap, subst, ◌∙◌}
use native.Mathlib.Omega.{arith}
use lib.Dec.{eqb, ltb}
use lib.ListN.{length, get_or, set, take, drop, length-append, length-set, length-drop}
use lib.Seq.{get_or-set_same, get_or-set_other, set_comm, set-set, length-take-le, take_at, drop_at, take-take, take_all}
use borrow.Author.Tests.{eq-eqb, ne_eqb, ltb-true, ltb-false}
use Rattle.unit.proofs.Cases.{by-test}
use Rattle.numeral.specs.Place.{joined}
use Rattle.line.specs.declared.Content.{Content}
use Rattle.line.specs.Line.{line_reading}
use Rattle.line_buffer.specs.Lines.{has_line, line_of}
use Rattle.item_state.specs.Log.{Log, call_counted}
use Rattle.item_calls.specs.Lines.{ticked}
use Rattle.item_checks.specs.Fault.{is_fault}
use Rattle.session.specs.Line.{State, Replay, with_log}
use Rattle.session.specs.Feed.{Fed}
use Rattle.session.specs.Flush.{is_long, written_to, written_now, kept_to, after_writing}
use Rattle.session.specs.Turns.{flushed, with_bytes}
use Rattle.line_text.specs.Text.{head_of, elsewhere}
use Rattle.line_text.proofs.Text.{text_of}
use Rattle.line_text.proofs.Close.{Stands}
use Rattle.line_text.proofs.Elsewhere.{rebuffered}
use Rattle.line_room.specs.Form.{InForm, NumbersFit}
use Rattle.tick_parts.specs.Kept.{Few, Startable}
use Rattle.item_checks.specs.Close.{briefly}
use Rattle.replay_text.specs.Replay.{TickLine, Page}
use Rattle.replay_text.proofs.Runs.{Runs}

-- ---- what is kept, without its buffer

abbrev pub plain : Replay → Replay
plain r = rebuffered 0 0 0 0 [] r

abbrev pub counts_of : Fed → List ℕ
counts_of f = f.replay.state.log.counts

-- What stands in the places of the buffer is of no matter then.
module _ (counts : List ℕ) (w x y z v : ℕ) where
  pub ends-elsewhere : elsewhere w x y z (set counts 0 v) ≡ elsewhere w x y z counts
  ends-elsewhere = rw (set-set counts 0 v w)

  pub start-elsewhere : elsewhere w x y z (set counts 12 v) ≡ elsewhere w x y z counts
  start-elsewhere = rw (set_comm counts 12 0 v w (λ e. omega arith), set-set (set counts 0 w) 12 v x)

  pub written-elsewhere : elsewhere w x y z (set counts 13 v) ≡ elsewhere w x y z counts
  written-elsewhere =
      rw (set_comm counts 13 0 v w (λ e. omega arith), set_comm (set counts 0 w) 13 12 v x (λ e. omega arith), set-set (set (set counts 0 w) 12 x) 13 v y)

  pub body-elsewhere : elsewhere w x y z (set counts 20 v) ≡ elsewhere w x y z counts
  body-elsewhere =
      rw (set_comm counts 20 0 v w (λ e. omega arith), set_comm (set counts 0 w) 20 12 v x (λ e. omega arith), set_comm (set (set counts 0 w) 12 x) 20 13 v y (λ e. omega arith), set-set (set (set (set counts 0 w) 12 x) 13 y) 20 v z)

pub twice-elsewhere : (w x y z w' x' y' z' : ℕ) (counts : List ℕ) → elsewhere w x y z (elsewhere w' x' y' z' counts) ≡ elsewhere w x y z counts
twice-elsewhere w x y z w' x' y' z' counts =
    body-elsewhere (set (set (set counts 0 w') 12 x') 13 y') w x y z z'
    ∙ (written-elsewhere (set (set counts 0 w') 12 x') w x y z y' ∙ (start-elsewhere (set counts 0 w') w x y z x' ∙ ends-elsewhere counts w x y z w'))

-- ---- no line is under way

pub record Idle (w : List ℕ) (f : Fed) (p : Page) : Type 0 where
  pub form : InForm f.replay
  pub fits : NumbersFit f.numbers
  pub none : get_or (counts_of f) 21 0 ≡ 0
  -- up to count 13 the answers are written
  pub low : get_or (counts_of f) 13 0 ≤ length (text_of f.replay)
  pub text : w ++ drop (get_or (counts_of f) 13 0) (text_of f.replay) ≡ p.text
  pub numbers : f.numbers ≡ p.numbers
  pub kept : plain f.replay ≡ p.replay

abbrev emptied : List ℕ → List ℕ
emptied counts = set (set counts 0 0) 13 0

empty-first : (counts : List ℕ) → length counts ≡ 22 → (get_or (emptied counts) 0 0 ≡ 0) × (get_or (emptied counts) 13 0 ≡ 0)
empty-first counts long =
    (get_or-set_other (set counts 0 0) 13 0 0 0 (λ e. omega arith) ∙ get_or-set_same counts 0 0 0 (omega (arith, long)), get_or-set_same (set counts 0 0) 13 0 0 (omega (arith, long, length-set counts 0 0)))

empty-elsewhere : (counts : List ℕ) → elsewhere 0 0 0 0 (emptied counts) ≡ elsewhere 0 0 0 0 counts
empty-elsewhere counts = written-elsewhere (set counts 0 0) 0 0 0 0 0 ∙ ends-elsewhere counts 0 0 0 0 0

-- the same with other counts
abbrev pub counting : List ℕ → Replay → Replay
counting counts r = record {
  state = with_log r.state record { counts = counts; answers = r.state.log.answers };
  names = r.names;
}

-- What is kept is in form whatever its counts are.
pub counting-form : (counts : List ℕ) (r : Replay) → length counts ≡ 22 → InForm r → InForm (counting counts r)
counting-form counts r long i = record {
  counts = long;
  places = i.places;
  names = i.names;
  sound = i.sound;
  waits = i.waits;
  many = i.many;
  fit = i.fit;
}

pub plain-counting : (counts : List ℕ) (r : Replay) → elsewhere 0 0 0 0 counts ≡ elsewhere 0 0 0 0 r.state.log.counts → plain (counting counts r) ≡ plain r
plain-counting counts r same = rw same

abbrev with_counts : List ℕ → Fed → Fed
with_counts counts f = record { replay = counting counts f.replay; numbers = f.numbers; left = f.left }

pub idle-flushed : (w : List ℕ) (f : Fed) (p : Page) → Idle w f p
    → Idle (w ++ written_now f.replay.state.log) (flushed f) p × (get_or (counts_of (flushed f)) 0 0 ≡ 0)
unfolding flushed after_writing written_now written_to
idle-flushed w f p i =
    let counts = counts_of f in
    let ends = empty-first counts i.form.counts in
    rw (eq-eqb (get_or counts 21 0) 0 i.none) (
      record {
        form = counting-form (emptied counts) f.replay (length-set (set counts 0 0) 13 0 ∙ (length-set counts 0 0 ∙ i.form.counts)) i.form;
        fits = i.fits;
        none = get_or-set_other (set counts 0 0) 13 21 0 0 (λ e. omega arith) ∙ (get_or-set_other counts 0 21 0 0 (λ e. omega arith) ∙ i.none);
        low = omega (arith, ends.1);
        text = rw (ends.0, ends.1, append-nil) i.text;
        numbers = i.numbers;
        kept = plain-counting (emptied counts) f.replay (empty-elsewhere counts) ∙ i.kept;
      },
      ends.0,
    )

pub idle-bytes : (w : List ℕ) (f : Fed) (p : Page) (left : List ℕ) → Idle w f p → Idle w (with_bytes left f) p
idle-bytes w f p left i = record {
  form = i.form;
  fits = i.fits;
  none = i.none;
  low = i.low;
  text = i.text;
  numbers = i.numbers;
  kept = i.kept;
}

-- ---- within a line of ticks

-- Outside a check: of the answer so far the start may be written, of which the first 2,048 bytes stand in the buffer. What follows it is
-- still to be written, whatever it will be.
pub record Opened (w base own answer text : List ℕ) (from : ℕ) : Type 0 where
  pub gone : List ℕ
  pub rest : List ℕ
  pub whole : answer ≡ gone ++ rest
  pub kept : own ≡ take 2048 gone ++ rest
  pub long : (gone ≡ []) ⊎ (2048 ≤ length gone)
  pub startable : (expected : List (List ℕ)) → Few expected → Startable expected gone
  pub low : from ≤ length base + length (take 2048 gone)
  pub stream : (more : List ℕ) → w ++ drop from (base ++ (take 2048 gone ++ more)) ≡ text ++ (gone ++ more)

-- In a check nothing of the line is written before it ends, and the answer is kept briefly.
pub record Checked (w base own answer text : List ℕ) (from : ℕ) : Type 0 where
  pub kept : own ≡ briefly answer
  pub low : from ≤ length base
  pub stream : w ++ drop from base ≡ text

abbrev pub line_in : Fed → List ℕ
line_in f = line_of f.left

abbrev pub head_counts : Page → List ℕ
head_counts p = (head_of p.replay).counts

-- the line's answer after so many ticks
abbrev pub answer_after : TickLine → ℕ → Page → List ℕ
answer_after run done p = joined run.head ++ joined (ticked done done run.before p.replay.state.model).texts

pub record Under (w : List ℕ) (f : Fed) (p : Page) : Type 0 where
  pub form : InForm f.replay
  pub fits : NumbersFit f.numbers
  pub some : has_line f.left ≡ true
  pub numbers : f.numbers ≡ p.numbers
  -- the line is no bad one, and it runs ticks
  pub content : Content
  pub read : (line_reading p.numbers (line_in f)).content ≡ content
  pub good : is_fault content (head_counts p) ≡ false
  pub total : ℕ
  pub run : TickLine
  pub runs : Runs content (head_counts p) run total
  pub bound : total ≤ 4294967295
  pub idle : get_or (head_counts p) 21 0 ≡ 0
  -- some of its parts are run
  pub parts : ℕ
  pub more : 1048576 * parts < run.ticks
  pub left : get_or (counts_of f) 21 0 ≡ run.ticks - 1048576 * parts
  pub model : f.replay.state.model ≡ (ticked (1048576 * parts) (1048576 * parts) run.before p.replay.state.model).model
  pub flash : f.replay.state.flash ≡ p.replay.state.flash
  pub differences : f.replay.state.differences ≡ p.replay.state.differences
  pub probes : f.replay.state.probes ≡ p.replay.state.probes
  pub names : f.replay.names ≡ p.replay.names
  pub counts : elsewhere 0 0 0 0 (counts_of f) ≡ elsewhere 0 0 0 0 (set (call_counted 0 run.counts) 21 (run.ticks - 1048576 * parts))
  -- what stands in the buffer
  pub base : List ℕ
  pub own : List ℕ
  pub short : length base ≤ 49152
  pub stands : Stands base (joined (head_of p.replay).texts) own f.replay.state.log
  pub open' : eqb (get_or (head_counts p) 14 0) 0 ≡ true → Opened w base own (answer_after run (1048576 * parts) p) p.text (get_or (counts_of f) 13 0)
  pub checked : eqb (get_or (head_counts p) 14 0) 0 ≡ false → Checked w base own (answer_after run (1048576 * parts) p) p.text (get_or (counts_of f) 13 0)
