-- What a bad line leaves of a text. Assumes nothing.
use Prim.Native.Nat.{ℕ, ◌+◌, ◌<◌, min}
use mathlib.Core.Path.{◌≡◌, refl, sym, ap, subst, ◌∙◌}
use mathlib.Core.Bool.{true, false}
use mathlib.Core.List.{List, [], ◌∷◌, ◌++◌, append-nil, append_assoc}
use native.Mathlib.Omega.{arith}
use lib.Dec.{eqb}
use lib.ListN.{length, get_or}
use lib.Seq.{get_or-set_same, get_or-set_other}
use borrow.Author.Tests.{eq-eqb, ne_eqb}
use Rattle.unit.proofs.Cases.{by-test}
use Rattle.numeral.specs.Place.{joined}
use Rattle.line.specs.declared.Content.{Content}
use Rattle.line.specs.Line.{Reading, line_reading}
use Rattle.line_buffer.specs.Lines.{each_line}
use Rattle.wording.specs.Wording.{fault}
use Rattle.item_state.specs.Log.{Log, added}
use Rattle.item_calls.specs.Lines.{call_line, timed_line, beside}
use Rattle.item_questions.specs.Answers.{question_line}
use Rattle.item_analysis.specs.Lines.{analysis_line}
use Rattle.item_checks.specs.Fault.{is_fault, left_of}
use Rattle.item_checks.specs.Open.{is_item}
use Rattle.item_checks.specs.Close.{expected_of, refusal_counted, is_announced, is_not_bad}
use Rattle.answer_text.specs.Texts.{Told, asked, call_told, question_told, analysis_told}
use Rattle.answer_text.specs.Line.{line_left, line_told}
use Rattle.session.specs.Line.{State, line_done, with_log}
use Rattle.line_text.specs.Text.{begun_told, fault_told, item_told, names_after, head_of, judged_text, judged_counts, closed_counts, closed_text, elsewhere, shown_answer, told_text, told_counts}
use Rattle.line_text.proofs.Told.{fault-same}
use Rattle.line_text.proofs.Apart.{count-elsewhere}
use Rattle.replay_text.specs.Replay.{TickLine, tick_lines, told_by, done_by, opening, own_whole, done_whole, Page, content_page, page_line}
use Rattle.replay_text.specs.LastLine.{counts_of, read_on, line_own, is_bad}
use Rattle.replay_text.proofs.Numbers.{SameNumbers, SameReading, reading-alike}
use Rattle.replay_text.proofs.Alike.{SameTold, SameState, own_same, done-same, closed_same}
use Rattle.replay_text.proofs.Counts.{AlikeCounts, alike_self, alike-back, alike-on, alike_set, WithinLine, within_same, within-kept, within-call, begun-alike, begun-refused, begun-before, begun-bad, begun-line, begun-fault, no-head, heads-within, elsewhere-alike}

-- ---- what a line adds to the text

unfoldable pub content_adds : Content → List (List ℕ) → List ℕ → List ℕ → Page → List ℕ
content_adds content expected line numbers p =
    let r = p.replay in
    let head = head_of r in
    told_text expected (names_after (left_of content head.counts) line r.names) head
    (own_whole content line numbers r.names r.state head.counts)

unfoldable pub line_adds : List ℕ → Page → List ℕ
line_adds line p =
    let read = line_reading p.numbers line in content_adds read.content (expected_of line) line read.numbers p

pub line-adds : (line : List ℕ) (p : Page) → (page_line line p).text ≡ p.text ++ line_adds line p
unfolding page_line content_page line_adds content_adds
line-adds line p = refl

-- so do lines, one behind the other
unfoldable pub lines_add : List (List ℕ) → Page → List ℕ
lines_add [] p = []
lines_add (l ∷ ls) p = line_adds l p ++ lines_add ls (page_line l p)

pub lines-add : (ls : List (List ℕ)) (p : Page) → (each_line page_line ls p).text ≡ p.text ++ lines_add ls p
unfolding each_line lines_add
lines-add [] p = rw (append-nil p.text)
lines-add (l ∷ ls) p =
    lines-add ls (page_line l p)
    ∙ (ap (λ (t : List ℕ). t ++ lines_add ls (page_line l p)) (line-adds l p) ∙ append_assoc p.text (line_adds l p) (lines_add ls (page_line l p)))

-- ---- pages that are alike but for the lines

-- The same model, user flash, record, probe table and names, and the same counts but for the lines, the bad ones and what passes with a
-- line. The text is none of it.
pub record AlikeButLines (p q : Page) : Type 0 where
  pub model : p.replay.state.model ≡ q.replay.state.model
  pub flash : p.replay.state.flash ≡ q.replay.state.flash
  pub differences : p.replay.state.differences ≡ q.replay.state.differences
  pub probes : p.replay.state.probes ≡ q.replay.state.probes
  pub names : p.replay.names ≡ q.replay.names
  pub numbers : length p.numbers ≡ length q.numbers
  pub counts : AlikeCounts (counts_of p) (counts_of q)

pub pages-back : (p q : Page) → AlikeButLines p q → AlikeButLines q p
pages-back p q a = record {
  model = sym a.model;
  flash = sym a.flash;
  differences = sym a.differences;
  probes = sym a.probes;
  names = sym a.names;
  numbers = sym a.numbers;
  counts = alike-back (counts_of p) (counts_of q) a.counts;
}

pub pages-on : (p q o : Page) → AlikeButLines p q → AlikeButLines q o → AlikeButLines p o
pages-on p q o a b = record {
  model = a.model ∙ b.model;
  flash = a.flash ∙ b.flash;
  differences = a.differences ∙ b.differences;
  probes = a.probes ∙ b.probes;
  names = a.names ∙ b.names;
  numbers = a.numbers ∙ b.numbers;
  counts = alike-on (counts_of p) (counts_of q) (counts_of o) a.counts b.counts;
}

-- ---- a bad line

-- There are 22 counts, and the largest number of bad lines is not reached.
pub record Counting (p : Page) : Type 0 where
  pub long : length (counts_of p) ≡ 22
  pub few : get_or (counts_of p) 6 0 < 18446744073709551615

module _ (content : Content) (line numbers : List ℕ) (p : Page) (counting : Counting p) (bad : is_fault content (counts_of p) ≡ true) where
  abbrev head : Told
  head = head_of p.replay

  abbrev more : List ℕ
  more = added head.counts 6 1

  head-long : length head.counts ≡ 22
  head-long = (begun-alike p.replay.names (counts_of p) counting.long).long'

  bad-here : is_fault content head.counts ≡ true
  bad-here = begun-fault p.replay.names (counts_of p) counting.long content ∙ bad

  own-bad : own_whole content line numbers p.replay.names p.replay.state head.counts ≡ asked (fault (get_or more 2 0) content) more
  unfolding own_whole opening fault_told left_of item_told is_item told_by tick_lines line_told call_told question_told analysis_told
  own-bad = rw (bad-here, append-nil (fault (get_or more 2 0) content), append-nil (fault (get_or more 2 0) content))

  bad_more : get_or more 6 0 ≡ get_or (counts_of p) 6 0 + 1
  unfolding added
  bad_more =
      let now = begun-bad p.replay.names (counts_of p) counting.long in
      get_or-set_same head.counts 6 _ 0 (rw head-long (omega arith)) ∙ omega (arith, now, counting.few)

  more_left : (n : ℕ) → (n ≡ 6 → ⊥) → get_or more n 0 ≡ get_or head.counts n 0
  unfolding added
  more_left n other = get_or-set_other head.counts 6 n _ 0 other

  no_call : is_not_bad more ≡ false
  no_call =
      let before : get_or more 18 0 ≡ get_or (counts_of p) 6 0
      = more_left 18 (λ e. omega arith) ∙ begun-before p.replay.names (counts_of p) counting.long in
      ne_eqb (get_or more 6 0) (get_or more 18 0) (λ e. omega (arith, bad_more, before, e))

  no-refusal : eqb (get_or more 4 0) (get_or more 17 0) ≡ true
  no-refusal =
      let head-refused : get_or head.counts 4 0 ≡ get_or (counts_of p) 4 0 = sym ((begun-alike p.replay.names (counts_of p) counting.long).each 4 refl) in
      eq-eqb (get_or more 4 0) (get_or more 17 0)
      (more_left 4 (λ e. omega arith) ∙ (head-refused
      ∙ (sym (begun-refused p.replay.names (counts_of p) counting.long) ∙ sym (more_left 17 (λ e. omega arith)))))

  closed-bad : (expected : List (List ℕ)) (answer : List ℕ) → closed_counts expected more answer ≡ more
  unfolding closed_counts judged_counts is_announced refusal_counted
  closed-bad [] answer = rw no-refusal
  closed-bad (wanted ∷ others) answer = rw (no_call, no-refusal)

  judged-bad : (expected : List (List ℕ)) (answer : List ℕ) → judged_text expected more answer ≡ answer
  unfolding judged_text
  judged-bad [] answer = refl
  judged-bad (wanted ∷ others) answer = rw no_call

  abbrev after : List (List ℕ) → Page
  after expected = content_page content expected line numbers p

  counts-bad : (expected : List (List ℕ)) → counts_of (after expected) ≡ elsewhere 0 0 0 0 more
  unfolding content_page told_counts
  counts-bad expected = rw (own-bad, closed-bad expected (shown_answer more (joined (fault (get_or more 2 0) content))))

  done-bad : SameState p.replay.state (done_whole content line numbers p.replay.names p.replay.state head.counts)
  unfolding done_whole opening fault_told left_of item_told is_item done_by tick_lines line_done line_left call_line timed_line beside question_line analysis_line
  done-bad = rw bad-here (refl, refl, refl, refl)

  names-bad : p.replay.names ≡ names_after (left_of content head.counts) line p.replay.names
  unfolding left_of names_after is_item
  names-bad = rw bad-here

  bad-alike : (expected : List (List ℕ)) → length numbers ≡ length p.numbers → AlikeButLines p (after expected)
  unfolding content_page added
  bad-alike expected long = record {
    model = done-bad.0;
    flash = done-bad.1;
    differences = done-bad.2;
    probes = done-bad.3;
    names = names-bad;
    numbers = sym long;
    counts =
        subst (AlikeCounts (counts_of p)) (sym (counts-bad expected))
        (elsewhere-alike (counts_of p) more
        (alike_set 6 _ refl (counts_of p) head.counts (begun-alike p.replay.names (counts_of p) counting.long)));
  }

  number-bad : get_or (counts_of p) 2 0 < 18446744073709551615 → get_or more 2 0 ≡ get_or (counts_of p) 2 0 + 1
  number-bad lines = more_left 2 (λ e. omega arith) ∙ (begun-line p.replay.names (counts_of p) counting.long ∙ omega (arith, lines))

  -- "the answer is `line L: ` and one of six texts, L being the line's number"
  own-texts-bad : get_or (counts_of p) 2 0 < 18446744073709551615
      → (own_whole content line numbers p.replay.names p.replay.state head.counts).texts ≡ fault (get_or (counts_of p) 2 0 + 1) content
  own-texts-bad lines = rw (own-bad, number-bad lines)

  bad-adds : (expected : List (List ℕ)) → get_or (counts_of p) 14 0 ≡ 0 → get_or (counts_of p) 2 0 < 18446744073709551615
      → content_adds content expected line numbers p ≡ joined (fault (get_or (counts_of p) 2 0 + 1) content)
  unfolding content_adds told_text closed_text shown_answer joined
  bad-adds expected outside lines =
      let answer = shown_answer more (joined (fault (get_or more 2 0) content)) in
      let there : get_or more 14 0 ≡ 0
      = more_left 14 (λ e. omega arith) ∙ (sym ((begun-alike p.replay.names (counts_of p) counting.long).each 14 refl) ∙ outside) in
      rw (own-bad, closed-bad expected answer, judged-bad expected answer, eq-eqb (get_or more 14 0) 0 there, no-head p.replay.names (counts_of p) counting.long outside, number-bad lines)

  bad-counted : (expected : List (List ℕ))
      → (get_or (counts_of (after expected)) 2 0 ≡ min (get_or (counts_of p) 2 0 + 1) 18446744073709551615)
      × (get_or (counts_of (after expected)) 6 0 ≡ get_or (counts_of p) 6 0 + 1)
  bad-counted expected =
      rw (counts-bad expected) (
        count-elsewhere 0 0 0 0 more 2 (λ e. omega arith) (λ e. omega arith) (λ e. omega arith) (λ e. omega arith)
            ∙ (more_left 2 (λ e. omega arith) ∙ begun-line p.replay.names (counts_of p) counting.long),
        count-elsewhere 0 0 0 0 more 6 (λ e. omega arith) (λ e. omega arith) (λ e. omega arith) (λ e. omega arith) ∙ bad_more,
      )

-- A line of a page, from its bytes on.
module _ (line : List ℕ) (p : Page) (counting : Counting p) (bad : is_bad line p ≡ true) where
  abbrev read : Reading
  read = line_reading p.numbers line

  bad-read : is_fault read.content (counts_of p) ≡ true
  unfolding is_bad
  bad-read = bad

  -- A bad line leaves the model, the user flash, the record, the probe table and the names as they are, and all counts but that of the
  -- lines, that of the bad lines and what passes with a line.
  pub bad-line-alike : AlikeButLines p (page_line line p)
  unfolding page_line
  bad-line-alike =
      bad-alike read.content line read.numbers p counting bad-read (expected_of line) (reading-alike p.numbers p.numbers refl line).kept

  -- It is counted as a line and as a bad one
  pub bad-line-counted : (get_or (counts_of (page_line line p)) 2 0 ≡ min (get_or (counts_of p) 2 0 + 1) 18446744073709551615)
      × (get_or (counts_of (page_line line p)) 6 0 ≡ get_or (counts_of p) 6 0 + 1)
  unfolding page_line
  bad-line-counted = bad-counted read.content line read.numbers p counting bad-read (expected_of line)

  -- and tells its number and the reason, in a check too;
  pub bad-line-own : get_or (counts_of p) 2 0 < 18446744073709551615 → (line_own line p).texts ≡ fault (get_or (counts_of p) 2 0 + 1) (line_reading p.numbers line).content
  unfolding line_own
  bad-line-own lines = own-texts-bad read.content line read.numbers p counting bad-read lines

  -- outside a check it adds no more than that.
  pub bad-line-text : get_or (counts_of p) 14 0 ≡ 0 → get_or (counts_of p) 2 0 < 18446744073709551615
      → line_adds line p ≡ joined (fault (get_or (counts_of p) 2 0 + 1) (line_reading p.numbers line).content)
  unfolding line_adds
  bad-line-text outside lines = bad-adds read.content line read.numbers p counting bad-read (expected_of line) outside lines

-- ---- a line that is not bad, on two pages that are alike but for the lines

told-log : (ts : List TickLine) (content : Content) (numbers : List ℕ) (s : State) (l : Log) (c : List ℕ)
    → told_by ts content numbers (with_log s l) c ≡ told_by ts content numbers s c
unfolding told_by
told-log [] content numbers s l c = refl
told-log (t ∷ ts) content numbers s l c = refl

own-log : (content : Content) (line numbers names : List ℕ) (s : State) (l : Log) (c : List ℕ)
    → own_whole content line numbers names (with_log s l) c ≡ own_whole content line numbers names s c
unfolding own_whole
own-log content line numbers names s l c =
    let left = left_of content c in
    let after = (opening content line names c).counts in
    rw (told-log (tick_lines left after) left numbers s l after)

done-log : (content : Content) (line numbers names : List ℕ) (s : State) (l : Log) (c : List ℕ)
    → done_whole content line numbers names (with_log s l) c ≡ done_whole content line numbers names s c
unfolding done_whole
done-log content line numbers names s l c = refl

module _ (content : Content) (expected : List (List ℕ)) (line numbers numbers' : List ℕ) (p : Page) (text buffer : List ℕ) (l : Log)
    (alike : SameNumbers content numbers numbers') (a : AlikeCounts (counts_of p) l.counts) (good : is_fault content (counts_of p) ≡ false) where
  -- the other page
  abbrev other : Page
  other = record { text = text; numbers = buffer; replay = record { state = with_log p.replay.state l; names = p.replay.names } }

  abbrev check : ℕ
  check = get_or (counts_of p) 14 0

  abbrev first : Told
  first = begun_told p.replay.names (counts_of p)

  abbrev second : Told
  second = begun_told p.replay.names l.counts

  within : WithinLine check first.counts second.counts
  within = heads-within p.replay.names (counts_of p) l.counts a

  good-first : is_fault content first.counts ≡ false
  good-first = begun-fault p.replay.names (counts_of p) a.long content ∙ good

  good-second : is_fault content second.counts ≡ false
  good-second =
      begun-fault p.replay.names l.counts a.long' content
      ∙ (fault-same content (counts_of p) l.counts (sym (a.each 9 refl)) (sym (a.each 10 refl)) (sym (a.each 11 refl)) ∙ good)

  abbrev own : Told
  own = own_whole content line numbers p.replay.names p.replay.state first.counts

  abbrev own' : Told
  own' = own_whole content line numbers' p.replay.names p.replay.state second.counts

  told : SameTold (WithinLine check) own own'
  told =
      own_same (WithinLine check) (within_same check) (within-kept check) content line numbers numbers' p.replay.names alike p.replay.state
      first.counts second.counts within good-first good-second

  done : SameState (done_whole content line numbers p.replay.names p.replay.state first.counts)
      (done_whole content line numbers' p.replay.names p.replay.state second.counts)
  done =
      done-same (WithinLine check) (within_same check) (within-kept check) content line numbers numbers' p.replay.names alike p.replay.state
      first.counts second.counts within good-first good-second

  abbrev answer : List ℕ
  answer = shown_answer own'.counts (joined own'.texts)

  shown : shown_answer own.counts (joined own.texts) ≡ answer
  unfolding shown_answer
  shown = rw (told.0, told.1.counts.each 14 refl)

  closed : WithinLine check (closed_counts expected own.counts answer) (closed_counts expected own'.counts answer)
  closed =
      closed_same (WithinLine check) (within_same check) (within-kept check) (within-call check) (λ c c' w. w.refused) expected own.counts
      own'.counts answer told.1

  same_names : names_after (left_of content first.counts) line p.replay.names ≡ names_after (left_of content second.counts) line p.replay.names
  unfolding left_of
  same_names = rw (good-first, good-second)

  good-alike : AlikeButLines (content_page content expected line numbers p) (content_page content expected line numbers' other)
  unfolding content_page told_counts
  good-alike =
      rw (own-log content line numbers' p.replay.names p.replay.state l second.counts, done-log content line numbers' p.replay.names p.replay.state l second.counts, shown)
      (let x = closed_counts expected own.counts answer in
      let y = closed_counts expected own'.counts answer in
      record {
        model = done.0;
        flash = done.1;
        differences = done.2;
        probes = done.3;
        names = same_names;
        numbers = alike.long;
        counts =
            alike-on (elsewhere 0 0 0 0 x) x (elsewhere 0 0 0 0 y)
            (alike-back x (elsewhere 0 0 0 0 x) (elsewhere-alike x x (alike_self x closed.counts.long)))
            (elsewhere-alike x y closed.counts);
      })

-- The other page is the first with another text, other numbers before it, and its own counts.
other-is : (p q : Page) → AlikeButLines p q
    → record { text = q.text; numbers = q.numbers; replay = record { state = with_log p.replay.state q.replay.state.log; names = p.replay.names } } ≡ q
other-is p q a = rw (a.model, a.flash, a.differences, a.probes, a.names)

module _ (line : List ℕ) (p q : Page) (a : AlikeButLines p q) where
  abbrev mine : Reading
  mine = line_reading p.numbers line

  abbrev yours : Reading
  yours = line_reading q.numbers line

  both : SameReading (length p.numbers) mine yours
  both = reading-alike p.numbers q.numbers a.numbers line

  abbrev twin : Page
  twin = record {
    text = q.text;
    numbers = q.numbers;
    replay = record { state = with_log p.replay.state q.replay.state.log; names = p.replay.names };
  }

  abbrev answered_on : Content → Page → Page
  answered_on content o = content_page content (expected_of line) line yours.numbers o

  -- It is read alike,
  pub content-same : (read_on line q).content ≡ (read_on line p).content
  content-same = sym both.content

  pub numbers-same : SameNumbers (read_on line p).content (read_on line p).numbers (read_on line q).numbers
  numbers-same = both.numbers

  -- and is a bad line on both or on none.
  pub bad-same : is_bad line q ≡ is_bad line p
  unfolding is_bad
  bad-same =
      rw (← both.content)
      (fault-same mine.content (counts_of p) (counts_of q) (sym (a.counts.each 9 refl)) (sym (a.counts.each 10 refl)) (sym (a.counts.each 11 refl)))

  module _ (good : is_bad line p ≡ false) where
    good-read : is_fault mine.content (counts_of p) ≡ false
    unfolding is_bad
    good-read = good

    -- A line that is not bad tells the same of itself on such pages,
    pub own-alike : (line_own line p).texts ≡ (line_own line q).texts
    unfolding line_own
    own-alike =
        let l = q.replay.state.log in
        let counts = (head_of twin.replay).counts in
        (told mine.content (expected_of line) line mine.numbers yours.numbers p q.text q.numbers l both.numbers a.counts good-read).0
        ∙ (ap (λ (t : Told). t.texts) (sym (own-log mine.content line yours.numbers p.replay.names p.replay.state l counts))
        ∙ (ap (λ (k : Content). (own_whole k line yours.numbers p.replay.names twin.replay.state counts).texts) both.content
        ∙ ap (λ (o : Page). (own_whole yours.content line yours.numbers o.replay.names o.replay.state (head_of o.replay).counts).texts)
        (other-is p q a)))

    -- and leaves them alike.
    pub line-alike : AlikeButLines (page_line line p) (page_line line q)
    unfolding page_line
    line-alike =
        subst (λ (o : Page). AlikeButLines (page_line line p) (answered_on yours.content o)) (other-is p q a)
        (subst (λ (k : Content). AlikeButLines (page_line line p) (answered_on k twin)) both.content
        (good-alike mine.content (expected_of line) line mine.numbers yours.numbers p q.text q.numbers q.replay.state.log
        both.numbers a.counts good-read))

  -- Every line leaves them alike, bad ones too.
  pub any-line-alike : Counting p → Counting q → AlikeButLines (page_line line p) (page_line line q)
  any-line-alike counting counting' =
      by-test (is_bad line p)
      (λ bad. pages-on (page_line line p) p (page_line line q) (pages-back p (page_line line p) (bad-line-alike line p counting bad))
      (pages-on p q (page_line line q) a (bad-line-alike line q counting' (bad-same ∙ bad))))
      (λ good. line-alike good)
