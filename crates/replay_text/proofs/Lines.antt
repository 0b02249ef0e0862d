-- A line that is not under way behind itself: the page of the definition comes with it. Assumes nothing.
use Prim.Native.Nat.{ℕ, ◌+◌, ◌-◌, ◌*◌, ◌/◌, ◌≤◌, ◌<◌, min}
use mathlib.Core.Bool.{Bool, true, false, cond}
use mathlib.Core.List.{List, [], ◌∷◌, ◌++◌, append_assoc}
use mathlib.Core.Logic.{inl, inr}
use mathlib.Core.Path.{◌≡◌, refl, sym, ap, subst, ◌∙◌}
use native.Mathlib.Omega.{arith}
use lib.Dec.{eqb}
use lib.ListN.{length, get_or, set, take, drop, length-append, length-set}
use lib.Seq.{get_or-set_same, get_or-set_other, length-take-le, drop-append-le}
use borrow.Author.Tests.{eq-eqb, ne_eqb}
use Rattle.unit.proofs.Cases.{by-test}
use Rattle.line.specs.declared.Content.{Content}
use Rattle.line.specs.Line.{line_reading}
use Rattle.line_buffer.specs.Lines.{has_line, line_of, behind_line, lines_in, rest_in, each_line}
use Rattle.line_buffer.proofs.LineLaws.{behind-shorter}
use Rattle.line_buffer.proofs.Pieces.{line_first}
use Rattle.item_state.specs.Log.{added}
use Rattle.item_checks.specs.Fault.{left_of}
use Rattle.item_checks.specs.Open.{line_counted}
use Rattle.item_checks.specs.Close.{expected_of, begins_with, refusal_counted, is_announced, is_not_bad}
use Rattle.session.specs.Line.{Replay, content_answered, line_answered}
use Rattle.session.specs.Feed.{Fed, left_behind, line_fed}
use Rattle.line_text.specs.Text.{head_told, begun_told, names_after, judged_counts, shown_answer, closed_counts, told_text, told_counts, head_of, own_of, line_counts}
use Rattle.line_text.proofs.Own.{own-left}
use Rattle.line_text.proofs.Told.{begun-long}
use Rattle.line_text.proofs.Text.{text_of, Whole, content-counts}
use Rattle.line_room.specs.Form.{InForm, NumbersFit, ticks_of}
use Rattle.line_room.proofs.Numbers.{numbers-kept}
use Rattle.line_room.proofs.Kept.{content-kept}
use Rattle.line_room.proofs.Whole.{whole}
use Rattle.replay_text.specs.Replay.{Page, content_page, page_line}
use Rattle.replay_text.proofs.Loop.{used_of, ticks_left, measure, page_after, Comes}
use Rattle.replay_text.proofs.Sim.{plain, counts_of, line_in, Idle, Under}
use Rattle.replay_text.proofs.Line.{page-text, page-kept, page-adds}

-- ---- counts that a line leaves

-- What is expected changes counts 5, 7 and 8 alone.
module _ (p : ℕ) (five : p ≡ 5 → ⊥) (seven : p ≡ 7 → ⊥) (eight : p ≡ 8 → ⊥) where
  refusal-count : (told : Bool) (counts : List ℕ) → get_or (refusal_counted told counts) p 0 ≡ get_or counts p 0
  unfolding refusal_counted added
  refusal-count true counts = refl
  refusal-count false counts = go (eqb (get_or counts 4 0) (get_or counts 17 0))
    where
      go : (t : Bool) → get_or (cond t counts (set counts 5 (min (get_or counts 5 0 + 1) 18446744073709551615))) p 0 ≡ get_or counts p 0
      go true = refl
      go false = get_or-set_other counts 5 p _ 0 five

  judged-count : (expected : List (List ℕ)) (counts answer : List ℕ) → get_or (judged_counts expected counts answer) p 0 ≡ get_or counts p 0
  unfolding judged_counts added
  judged-count [] counts answer = refl
  judged-count (wanted ∷ others) counts answer = go (is_not_bad counts) (begins_with wanted answer)
    where
      more : List ℕ
      more = set counts 7 (min (get_or counts 7 0 + 1) 18446744073709551615)

      go : (t u : Bool) → get_or (cond t (cond u more (set more 8 (min (get_or more 8 0 + 1) 18446744073709551615))) counts) p 0 ≡ get_or counts p 0
      go true true = get_or-set_other counts 7 p _ 0 seven
      go true false = get_or-set_other more 8 p _ 0 eight ∙ get_or-set_other counts 7 p _ 0 seven
      go false u = refl

  pub closed-count : (expected : List (List ℕ)) (counts answer : List ℕ) → get_or (closed_counts expected counts answer) p 0 ≡ get_or counts p 0
  unfolding closed_counts
  closed-count expected counts answer =
      refusal-count (is_announced expected counts answer) (judged_counts expected counts answer) ∙ judged-count expected counts answer

-- Up to where answers were written is left as it was.
counted-written : (counts : List ℕ) → get_or (line_counted counts) 13 0 ≡ get_or counts 13 0
unfolding line_counted added
counted-written counts =
    get_or-set_other (set (set (set counts 2 _) 12 (get_or counts 0 0)) 17 (get_or counts 4 0)) 18 13 _ 0 (λ e. omega arith)
    ∙ (get_or-set_other (set (set counts 2 _) 12 (get_or counts 0 0)) 17 13 _ 0 (λ e. omega arith)
    ∙ (get_or-set_other (set counts 2 _) 12 13 _ 0 (λ e. omega arith) ∙ get_or-set_other counts 2 13 _ 0 (λ e. omega arith)))

head-written : (names counts : List ℕ) → get_or (head_told names counts).counts 13 0 ≡ get_or counts 13 0
unfolding head_told
head-written names counts = by-test (eqb (get_or counts 14 0) 0) (λ e. rw e) (λ e. rw e (get_or-set_other counts 19 13 _ 0 (λ k. omega arith)))

pub begun-written : (names counts : List ℕ) → get_or (begun_told names counts).counts 13 0 ≡ get_or counts 13 0
unfolding begun_told
begun-written names counts =
    get_or-set_other (head_told names (line_counted counts)).counts 20 13 _ 0 (λ e. omega arith) ∙ (head-written names (line_counted counts) ∙ counted-written counts)

module _ (content : Content) (expected : List (List ℕ)) (line numbers : List ℕ) (r : Replay) (here : Whole content expected line numbers r) where
  abbrev after : Replay
  after = content_answered content expected line numbers r

  other-count : (p : ℕ) → (p ≡ 0 → ⊥) → (p ≡ 5 → ⊥) → (p ≡ 7 → ⊥) → (p ≡ 8 → ⊥) → get_or after.state.log.counts p 0 ≡ get_or (own_of content line numbers r).counts p 0
  unfolding line_counts told_counts
  other-count p zero five seven eight =
      ap (λ (c : List ℕ). get_or c p 0) (content-counts content expected line numbers r here)
      ∙ (get_or-set_other (line_counts content expected line numbers r) 0 p _ 0 zero
      ∙ closed-count p five seven eight expected (own_of content line numbers r).counts _)

  none_after : get_or after.state.log.counts 21 0 ≡ 0
  none_after = other-count 21 (λ e. omega arith) (λ e. omega arith) (λ e. omega arith) (λ e. omega arith) ∙ here.after

  written_after : get_or after.state.log.counts 13 0 ≡ get_or r.state.log.counts 13 0
  written_after =
      other-count 13 (λ e. omega arith) (λ e. omega arith) (λ e. omega arith) (λ e. omega arith)
      ∙ (own-left 13 (omega arith) (omega arith) (λ e. omega arith) content line numbers r.names r.state (head_of r).counts (omega (arith, begun-long r.names r.state.log.counts, here.counts))
      ∙ begun-written r.names r.state.log.counts)

-- ---- one line

module _ (w : List ℕ) (f : Fed) (p : Page) (i : Idle w f p) (used : used_of f ≤ 49152) (some : has_line f.left ≡ true)
    (few : ticks_of (line_reading f.numbers (line_in f)).content (counts_of f) ≤ 1048576) where
  abbrev line : List ℕ
  line = line_in f

  abbrev content : Content
  content = (line_reading f.numbers line).content

  abbrev numbers : List ℕ
  numbers = (line_reading f.numbers line).numbers

  abbrev r : Replay
  r = f.replay

  here : Whole content (expected_of line) line numbers r
  here = whole line f.numbers r i.form i.fits used i.none few

  abbrev next : Replay
  next = content_answered content (expected_of line) line numbers r

  -- the definition's page before the line, by what is kept
  abbrev p₀ : Page
  p₀ = record { text = p.text; numbers = f.numbers; replay = plain r }

  page-is : p ≡ p₀
  page-is = rw (i.numbers, i.kept)

  abbrev page : Page
  page = content_page content (expected_of line) line numbers p₀

  page-line : page_line line p ≡ page
  unfolding page_line
  page-line = rw page-is

  abbrev more : List ℕ
  more = told_text (expected_of line) (names_after (left_of content (head_of (plain r)).counts) line r.names) (head_of (plain r)) (own_of content line numbers (plain r))

  text-next : text_of next ≡ text_of r ++ more
  text-next = page-adds content (expected_of line) line numbers r here few

  written_next : get_or next.state.log.counts 13 0 ≡ get_or (counts_of f) 13 0
  written_next = written_after content (expected_of line) line numbers r here

  low-next : get_or next.state.log.counts 13 0 ≤ length (text_of next)
  low-next = rw (written_next, text-next, length-append (text_of r) more) (omega (arith, i.low))

  page-next : w ++ drop (get_or next.state.log.counts 13 0) (text_of next) ≡ page.text
  page-next =
      rw (written_next, text-next, drop-append-le (get_or (counts_of f) 13 0) (text_of r) more i.low)
      (sym (append_assoc w (drop (get_or (counts_of f) 13 0) (text_of r)) more)
      ∙ (ap (λ (x : List ℕ). x ++ more) i.text ∙ sym (page-text content (expected_of line) line numbers r here few p.text f.numbers)))

  numbers-next : numbers ≡ page.numbers
  unfolding content_page
  numbers-next = refl

  idle-next : (left : List ℕ) → Idle w record { replay = next; numbers = numbers; left = left } page
  idle-next left = record {
    form = content-kept content (expected_of line) line numbers r i.form;
    fits = numbers-kept f.numbers line i.fits;
    none = none_after content (expected_of line) line numbers r here;
    low = low-next;
    text = page-next;
    numbers = numbers-next;
    kept = page-kept content (expected_of line) line numbers r here few p.text f.numbers;
  }

  fed-is : line_fed f ≡ record { replay = next; numbers = numbers; left = behind_line f.left }
  unfolding line_fed line_answered left_behind
  fed-is = rw (eq-eqb (get_or next.state.log.counts 21 0) 0 (none_after content (expected_of line) line numbers r here))

  pub idle-line : Idle w (line_fed f) (page_line line p)
  idle-line = rw (fed-is, page-line) (idle-next (behind_line f.left))

  left-line : (line_fed f).left ≡ behind_line f.left
  left-line = ap (λ (g : Fed). g.left) fed-is

  first : (lines_in f.left ≡ line ∷ lines_in (behind_line f.left)) × (rest_in f.left ≡ rest_in (behind_line f.left))
  first = line_first f.left some

  after_line : page_after (line_fed f).left (page_line line p) ≡ page_after f.left p
  unfolding each_line
  after_line = rw (left-line, first.0)

  measure-line : measure (line_fed f) < measure f
  measure-line =
      let done : ticks_left (line_fed f) ≡ 0 = idle-line.none in
      rw (eq-eqb (ticks_left (line_fed f)) 0 done, eq-eqb (ticks_left f) 0 i.none, left-line) (omega (arith, behind-shorter f.left some))

  pub short-comes : Comes Idle Under w f (line_fed f) p
  short-comes = record {
    page = page_line line p;
    there = inl idle-line;
    after = after_line;
    rest = ap rest_in left-line ∙ sym first.1;
    less = measure-line;
  }
