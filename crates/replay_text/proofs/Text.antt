-- What a line adds to a text and to its counts, bad or not. Assumes nothing.
use Prim.Native.Nat.{ℕ, ◌+◌, min}
use mathlib.Core.Path.{◌≡◌, refl, sym, ap, ◌∙◌}
use mathlib.Core.Bool.{true, false, cond}
use mathlib.Core.List.{List}
use native.Mathlib.Omega.{arith}
use lib.ListN.{length, get_or, set}
use lib.Seq.{get_or-set_other}
use borrow.Author.Tests.{eq-eqb}
use Rattle.unit.proofs.Cases.{by-test}
use Rattle.numeral.specs.Place.{joined}
use Rattle.line.specs.declared.Content.{Content}
use Rattle.line.specs.Line.{Reading, line_reading}
use Rattle.item_state.specs.Log.{added}
use Rattle.item_checks.specs.Fault.{is_fault, left_of}
use Rattle.item_checks.specs.Open.{is_item}
use Rattle.item_checks.specs.Close.{expected_of, is_not_bad}
use Rattle.answer_text.specs.Texts.{call_told, question_told, analysis_told}
use Rattle.answer_text.specs.Line.{line_told}
use Rattle.line_text.specs.Text.{head_of, fault_told, item_told, closed_counts, judged_text, shown_answer, closed_text, told_text, told_counts}
use Rattle.line_text.proofs.Apart.{count-elsewhere}
use Rattle.replay_text.specs.Replay.{tick_lines, told_by, opening, own_whole, Page, content_page, page_line}
use Rattle.replay_text.specs.LastLine.{counts_of, line_own, is_bad}
use Rattle.replay_text.proofs.Alike.{is_counted, own_same, closed_same}
use Rattle.replay_text.proofs.Counts.{alike_self, counted-apart, begun-alike, begun-line, begun-bad, begun-fault, no-head}
use Rattle.replay_text.proofs.Bad.{content_adds, line_adds, AlikeButLines, Counting, bad-line-alike, bad-line-counted, line-alike}

-- ---- what a line that is not bad leaves of the counts

bad-left : (content : Content) (line numbers : List ℕ) (p : Page) (n : ℕ) → (n ≡ 6 → ⊥) → is_fault content (head_of p.replay).counts ≡ true
    → get_or (own_whole content line numbers p.replay.names p.replay.state (head_of p.replay).counts).counts n 0 ≡ get_or (head_of p.replay).counts n 0
unfolding own_whole opening fault_told left_of item_told is_item told_by tick_lines line_told call_told question_told analysis_told added
bad-left content line numbers p n apart bad = rw bad (get_or-set_other (head_of p.replay).counts 6 n _ 0 apart)

module _ (n v : ℕ) (other : is_counted n ≡ false) where
  -- the same counts, with a number in a place in which no answer counts
  abbrev Keeps : List ℕ → List ℕ → Type 0
  Keeps c c' = (c ≡ c') × (get_or c n 0 ≡ v)

  keeps_same : (m : ℕ) → is_counted m ≡ true → (c c' : List ℕ) → Keeps c c' → get_or c m 0 ≡ get_or c' m 0
  keeps_same m here c c' r = ap (λ (l : List ℕ). get_or l m 0) r.0

  keeps-set : (m w : ℕ) → is_counted m ≡ true → (c c' : List ℕ) → Keeps c c' → Keeps (set c m w) (set c' m w)
  keeps-set m w here c c' r = (ap (λ (l : List ℕ). set l m w) r.0, get_or-set_other c m n w 0 (counted-apart m n here other) ∙ r.1)

  own-keeps : (content : Content) (line numbers : List ℕ) (p : Page) → is_fault content (head_of p.replay).counts ≡ false
      → get_or (head_of p.replay).counts n 0 ≡ v
      → Keeps (own_whole content line numbers p.replay.names p.replay.state (head_of p.replay).counts).counts
      (own_whole content line numbers p.replay.names p.replay.state (head_of p.replay).counts).counts
  own-keeps content line numbers p good e =
      (own_same Keeps keeps_same keeps-set content line numbers numbers p.replay.names record {
        long =
            refl;
        each = λ i h. refl;
      } p.replay.state
      (head_of p.replay).counts (head_of p.replay).counts (refl, e) good good).1

  pub closed-keeps : (expected : List (List ℕ)) (c answer : List ℕ) → get_or c n 0 ≡ v → get_or (closed_counts expected c answer) n 0 ≡ v
  closed-keeps expected c answer e =
      (closed_same Keeps keeps_same keeps-set (λ c c' r. ap is_not_bad r.0) (λ c c' r. ap (λ (l : List ℕ). get_or l 17 0) r.0) expected c c answer (refl, e)).1

-- What a line leaves of such a place, bad or not; a bad one counts in place 6.
pub own-left : (line : List ℕ) (p : Page) → length (counts_of p) ≡ 22 → (n : ℕ) → is_counted n ≡ false → (n ≡ 6 → ⊥)
    → get_or (line_own line p).counts n 0 ≡ get_or (head_of p.replay).counts n 0
unfolding line_own
own-left line p long n other apart =
    let content = (line_reading p.numbers line).content in
    let numbers = (line_reading p.numbers line).numbers in
    let h = (head_of p.replay).counts in
    by-test (is_fault content h) (λ bad. bad-left content line numbers p n apart bad)
    (λ good. (own-keeps n (get_or h n 0) other content line numbers p good refl).1)

-- A check stays one.
pub check-left : (line : List ℕ) (p : Page) → length (counts_of p) ≡ 22 → get_or (counts_of (page_line line p)) 14 0 ≡ get_or (counts_of p) 14 0
unfolding page_line content_page told_counts line_own
check-left line p long =
    let own = line_own line p in
    let answer = shown_answer own.counts (joined own.texts) in
    let here : get_or own.counts 14 0 ≡ get_or (counts_of p) 14 0
    = own-left line p long 14 refl (λ e. omega arith) ∙ sym ((begun-alike p.replay.names (counts_of p) long).each 14 refl) in
    count-elsewhere 0 0 0 0 (closed_counts (expected_of line) own.counts answer) 14 (λ e. omega arith) (λ e. omega arith) (λ e. omega arith) (λ e. omega arith)
    ∙ closed-keeps 14 (get_or (counts_of p) 14 0) refl (expected_of line) own.counts answer here

module _ (line : List ℕ) (p : Page) (long : length (counts_of p) ≡ 22) where
  abbrev read : Reading
  read = line_reading p.numbers line

  abbrev names : List ℕ
  names = p.replay.names

  pub page-self : AlikeButLines p p
  page-self = record {
    model = refl;
    flash = refl;
    differences = refl;
    probes = refl;
    names = refl;
    numbers = refl;
    counts = alike_self (counts_of p) long;
  }

  module _ (good : is_bad line p ≡ false) where
    good-here : is_fault read.content (head_of p.replay).counts ≡ false
    unfolding is_bad
    good-here = begun-fault names (counts_of p) long read.content ∙ good

    good_left : (n : ℕ) → is_counted n ≡ false → (n ≡ 0 → ⊥) → (n ≡ 12 → ⊥) → (n ≡ 13 → ⊥) → (n ≡ 20 → ⊥)
        → get_or (counts_of (page_line line p)) n 0 ≡ get_or (head_of p.replay).counts n 0
    unfolding page_line content_page told_counts
    good_left n other a b c d =
        let v = get_or (head_of p.replay).counts n 0 in
        let own = own_whole read.content line read.numbers names p.replay.state (head_of p.replay).counts in
        let answer = shown_answer own.counts (joined own.texts) in
        count-elsewhere 0 0 0 0 (closed_counts (expected_of line) own.counts answer) n a b c d
        ∙ closed-keeps n v other (expected_of line) own.counts answer (own-keeps n v other read.content line read.numbers p good-here refl).1

    good-counted : (get_or (counts_of (page_line line p)) 2 0 ≡ min (get_or (counts_of p) 2 0 + 1) 18446744073709551615)
        × (get_or (counts_of (page_line line p)) 6 0 ≡ get_or (counts_of p) 6 0) × (get_or (counts_of (page_line line p)) 14 0 ≡ get_or (counts_of p) 14 0)
    good-counted = (
      good_left 2 refl (λ e. omega arith) (λ e. omega arith) (λ e. omega arith) (λ e. omega arith) ∙ begun-line names (counts_of p) long,
      good_left 6 refl (λ e. omega arith) (λ e. omega arith) (λ e. omega arith) (λ e. omega arith) ∙ begun-bad names (counts_of p) long,
      good_left 14 refl (λ e. omega arith) (λ e. omega arith) (λ e. omega arith) (λ e. omega arith) ∙ sym ((begun-alike names (counts_of p) long).each 14 refl),
    )

    -- Outside a check it adds its own answer, and in that, where it differs, what is expected.
    pub good-line-text : get_or (counts_of p) 14 0 ≡ 0
        → line_adds line p ≡ judged_text (expected_of line) (line_own line p).counts (joined (line_own line p).texts)
    unfolding line_adds content_adds line_own told_text closed_text shown_answer joined
    good-line-text outside =
        let own = own_whole read.content line read.numbers names p.replay.state (head_of p.replay).counts in
        let head : get_or (head_of p.replay).counts 14 0 ≡ 0 = sym ((begun-alike names (counts_of p) long).each 14 refl) ∙ outside in
        let here : get_or own.counts 14 0 ≡ 0 = own-left line p long 14 refl (λ e. omega arith) ∙ head in
        let closed : get_or (closed_counts (expected_of line) own.counts (joined own.texts)) 14 0 ≡ 0
        = closed-keeps 14 0 refl (expected_of line) own.counts (joined own.texts) here in
        rw (eq-eqb (get_or own.counts 14 0) 0 here, eq-eqb (get_or (closed_counts (expected_of line) own.counts (joined own.texts)) 14 0) 0 closed, no-head names (counts_of p) long outside)

-- ---- any line

-- Every line is counted, a bad one as such too, and it stays in a check or outside one.
pub record Counted (line : List ℕ) (p q : Page) : Type 0 where
  pub long : length (counts_of q) ≡ 22
  pub lines : get_or (counts_of q) 2 0 ≡ min (get_or (counts_of p) 2 0 + 1) 18446744073709551615
  pub bad : get_or (counts_of q) 6 0 ≡ get_or (counts_of p) 6 0 + cond (is_bad line p) 1 0
  pub check : get_or (counts_of q) 14 0 ≡ get_or (counts_of p) 14 0

pub line-counted : (line : List ℕ) (p : Page) → Counting p → Counted line p (page_line line p)
line-counted line p counting =
    by-test (is_bad line p)
    (λ bad.
    let same = bad-line-alike line p counting bad in
    let more = bad-line-counted line p counting bad in
    record { long = same.counts.long'; lines = more.0; bad = rw bad more.1; check = sym (same.counts.each 14 refl) })
    (λ good.
    let same = line-alike line p p (page-self line p counting.long) good in
    let more = good-counted line p counting.long good in
    record { long = same.counts.long; lines = more.0; bad = rw good (omega (arith, more.1)); check = more.2 })
