-- A part of a line of ticks: the line is under way behind it, or it ends and the page of the definition comes with it. Assumes nothing.
use Prim.Native.Nat.{ℕ, ◌+◌, ◌-◌, ◌*◌, ◌/◌, ◌≤◌, ◌<◌, min}
use mathlib.Core.Bool.{Bool, true, false, cond, true≢false}
use mathlib.Core.List.{List, [], ◌∷◌, ◌++◌, append-nil, append_assoc}
use mathlib.Core.Logic.{inl, inr}
use mathlib.Core.Path.{◌≡◌, refl, sym, ap, subst, ◌∙◌}
use native.Mathlib.Omega.{arith}
use lib.Dec.{eqb}
use lib.ListN.{length, get_or, set, take, drop, length-append, length-set}
use lib.Seq.{get_or-set_same, get_or-set_other, set-get_or, drop-append-le}
use borrow.Author.Tests.{eq-eqb, ne_eqb}
use Rattle.unit.proofs.Cases.{by-test, by_eqb}
use Rattle.numeral.specs.Place.{no_room, joined}
use Rattle.wording.specs.Wording.{line_feed}
use Rattle.line.specs.declared.Content.{Content}
use Rattle.line.specs.Line.{line_reading}
use Rattle.line_buffer.specs.Lines.{has_line, line_of, behind_line, lines_in, rest_in, each_line}
use Rattle.line_buffer.proofs.LineLaws.{behind-shorter}
use Rattle.line_buffer.proofs.Pieces.{line_first}
use Rattle.item_state.specs.Log.{Log, call_counted}
use Rattle.item_calls.specs.Lines.{ticked}
use Rattle.item_checks.specs.Fault.{is_fault, left_of}
use Rattle.item_checks.specs.Open.{is_item}
use Rattle.item_checks.specs.Close.{expected_of, briefly, kept_briefly, tail, closed}
use Rattle.answer_text.specs.Texts.{Told, on_page, silent, end_texts}
use Rattle.answer_text.proofs.Page.{page-ends, page-long, joined-append}
use Rattle.answer_length.proofs.Sizes.{size-joined}
use Rattle.session.specs.Line.{State, line_done, line_ended, Replay, with_log, content_answered, line_answered}
use Rattle.session.specs.Feed.{Fed, left_behind, line_fed}
use Rattle.line_text.specs.Text.{fault_told, item_told, names_after, judged_text, shown_answer, closed_counts, closed_text, told_text, told_counts, head_of, elsewhere}
use Rattle.line_text.proofs.Apart.{told-counts-elsewhere, told-text-elsewhere}
use Rattle.line_text.proofs.Close.{Stands, Written, differing, briefly-count, buffer-briefly, closed-tail, closed-text, closed_same}
use Rattle.line_text.proofs.Whole.{page-left}
use Rattle.line_text.proofs.Text.{text_of}
use Rattle.line_room.specs.Form.{InForm, NumbersFit}
use Rattle.line_room.proofs.Room.{expected-few as differing-few, tail-size}
use Rattle.line_room.proofs.Parts.{way-is}
use Rattle.line_room.proofs.Kept.{content-kept}
use Rattle.tick_parts.specs.Kept.{Startable, judged_rest}
use Rattle.tick_parts.proofs.Behind.{judged-kept, judged-whole, closed-counts-same}
use Rattle.replay_text.specs.Replay.{TickLine, tick_lines, ticks_told, ticks_done, told_by, done_by, opening, own_whole, done_whole, Page, content_page, page_line}
use Rattle.replay_text.proofs.Reading.{is_ticks, ticks-again}
use Rattle.replay_text.proofs.Few.{expected-few}
use Rattle.replay_text.proofs.Runs.{Runs, called-ticks}
use Rattle.replay_text.proofs.Loop.{used_of, ticks_left, measure, page_after, Comes}
use Rattle.replay_text.proofs.Sim.{plain, counts_of, line_in, head_counts, answer_after, ends-elsewhere, Idle, Opened, Checked, Under}
use Rattle.replay_text.proofs.Flushed.{head-none, check-same, under-way}
use Rattle.replay_text.proofs.Lines.{closed-count}
use Rattle.replay_text.proofs.Part.{counts, done, left, ticks, over, told, reports, done-page, piece, own, shown, other, page-used, page-places, model-after, answer-after, piece_is, own_open, own-checked, told-check, told-elsewhere}

module _ {w : List ℕ} {f : Fed} {p : Page} (u : Under w f p) (used : used_of f ≤ 70680) where
  abbrev r : Replay
  r = f.replay

  abbrev line : List ℕ
  line = line_in f

  abbrev expected : List (List ℕ)
  expected = expected_of line

  abbrev head : List ℕ
  head = joined (head_of p.replay).texts

  abbrev done_state : State
  done_state = line_done u.content f.numbers r.state

  abbrev page : Log
  page = kept_briefly (on_page (told u used) r.state.log)

  -- ---- the line is read again

  same-content : (line_reading f.numbers line).content ≡ u.content
  same-content = ap (λ (n : List ℕ). (line_reading n line).content) u.numbers ∙ u.read

  same_numbers : (line_reading f.numbers line).numbers ≡ f.numbers
  same_numbers = (ticks-again f.numbers f.numbers line (rw same-content u.runs.ticks)).0

  abbrev next : Log → Replay
  next l = record { state = with_log done_state l; names = r.names }

  answered-is : line_answered line f.numbers r ≡ next (line_ended expected r.names (on_page (told u used) r.state.log))
  unfolding line_answered
  answered-is =
      rw (same-content, same_numbers)
      (way-is u.content expected line f.numbers r (under-way u) ∙ ap (λ (l : Log). next (line_ended expected r.names l)) (done-page u used))

  page-over : get_or page.counts 21 0 ≡ over u used
  page-over =
      briefly-count (on_page (told u used) r.state.log) 21 (λ e. omega arith)
      ∙ (page-left (told u used) r.state.log ∙ get_or-set_same (counts u used) 21 (over u used) 0 (omega (arith, u.form.counts)))

  page-other : (k : ℕ) → (k ≡ 0 → ⊥) → (k ≡ 21 → ⊥) → get_or page.counts k 0 ≡ get_or (counts u used) k 0
  page-other k a b = briefly-count (on_page (told u used) r.state.log) k a ∙ other u used k a b

  form-next : (l : Log) → line_ended expected r.names (on_page (told u used) r.state.log) ≡ l → InForm (next l)
  form-next l e =
      subst InForm (way-is u.content expected line f.numbers r (under-way u) ∙ (ap (λ (x : Log). next (line_ended expected r.names x)) (done-page u used) ∙ ap next e))
      (content-kept u.content expected line f.numbers r u.form)

  others : (done_state.flash ≡ r.state.flash) × (done_state.differences ≡ r.state.differences) × (done_state.probes ≡ r.state.probes)
  others = u.runs.others f.numbers r.state

  -- ---- the line goes on

  module _ (more : over u used ≡ 0 → ⊥) where
    ended-not : line_ended expected r.names (on_page (told u used) r.state.log) ≡ page
    unfolding line_ended
    ended-not = rw (ne_eqb (get_or page.counts 21 0) 0 (λ e. more (sym page-over ∙ e)))

    fed-more : line_fed f ≡ record { replay = next page; numbers = f.numbers; left = f.left }
    unfolding line_fed left_behind
    fed-more = rw (answered-is, ended-not, same_numbers, ne_eqb (get_or page.counts 21 0) 0 (λ e. more (sym page-over ∙ e)))

    size : done u used + ticks u used ≡ 1048576 * (u.parts + 1)
    size = omega arith

    over-is : over u used ≡ u.run.ticks - 1048576 * (u.parts + 1)
    over-is = omega arith

    piece-reports : piece u used ≡ joined (reports u used)
    unfolding end_texts joined
    piece-reports = piece_is u used ∙ rw (ne_eqb (over u used) 0 more, append-nil (joined (reports u used)))

    answer-next : answer_after u.run (done u used) p ++ piece u used ≡ answer_after u.run (1048576 * (u.parts + 1)) p
    answer-next =
        ap (λ (x : List ℕ). answer_after u.run (done u used) p ++ x) piece-reports ∙ (answer-after u used ∙ ap (λ (n : ℕ). answer_after u.run n p) size)

    opened-next : eqb (get_or (head_counts p) 14 0) 0 ≡ true
        → Opened w u.base (own u used) (answer_after u.run (1048576 * (u.parts + 1)) p) p.text (get_or page.counts 13 0)
    opened-next outside =
        let o = u.open' outside in
        let from : get_or page.counts 13 0 ≡ get_or (counts u used) 13 0 = page-other 13 (λ e. omega arith) (λ e. omega arith) in
        record {
          gone = o.gone;
          rest = o.rest ++ piece u used;
          whole = sym answer-next ∙ (ap (λ (x : List ℕ). x ++ piece u used) o.whole ∙ append_assoc o.gone o.rest (piece u used));
          kept = own_open u used outside ∙ (ap (λ (x : List ℕ). x ++ piece u used) o.kept ∙ append_assoc (take 2048 o.gone) o.rest (piece u used));
          long = o.long;
          startable = o.startable;
          low = rw from o.low;
          stream = rw from o.stream;
        }

    checked-next : eqb (get_or (head_counts p) 14 0) 0 ≡ false
        → Checked w u.base (own u used) (answer_after u.run (1048576 * (u.parts + 1)) p) p.text (get_or page.counts 13 0)
    checked-next inside =
        let c = u.checked inside in
        let from : get_or page.counts 13 0 ≡ get_or (counts u used) 13 0 = page-other 13 (λ e. omega arith) (λ e. omega arith) in
        record { kept = own-checked u used inside ∙ ap briefly answer-next; low = rw from c.low; stream = rw from c.stream }

    under_next : Under w record { replay = next page; numbers = f.numbers; left = f.left } p
    under_next = record {
      form = form-next page ended-not;
      fits = u.fits;
      some = u.some;
      numbers = u.numbers;
      content = u.content;
      read = u.read;
      good = u.good;
      total = u.total;
      run = u.run;
      runs = u.runs;
      bound = u.bound;
      idle = u.idle;
      parts = u.parts + 1;
      more = omega arith;
      left = page-over ∙ over-is;
      model = model-after u used ∙ ap (λ (n : ℕ). (ticked n n u.run.before p.replay.state.model).model) size;
      flash = others.0 ∙ u.flash;
      differences = others.1 ∙ u.differences;
      probes = others.2 ∙ u.probes;
      names = u.names;
      counts = ap (elsewhere 0 0 0 0) (shown u used).same
          ∙ (ends-elsewhere (told u used).counts 0 0 0 0 (get_or page.counts 0 0)
          ∙ (told-elsewhere u used ∙ ap (λ (n : ℕ). elsewhere 0 0 0 0 (set (call_counted 0 u.run.counts) 21 n)) over-is));
      base = u.base;
      own = own u used;
      short = u.short;
      stands = (shown u used).stands;
      open' = opened-next;
      checked = checked-next;
    }

    measure-more : measure (line_fed f) < measure f
    measure-more =
        let now : ticks_left (line_fed f) ≡ over u used = ap ticks_left fed-more ∙ page-over in
        let still : (line_fed f).left ≡ f.left = ap (λ (g : Fed). g.left) fed-more in
        let before : ticks_left f ≡ left u used = u.left in
        rw (now, still, ne_eqb (over u used) 0 more, before, ne_eqb (left u used) 0 (λ e. omega (arith, u.more))) (omega arith)

    pub more-comes : Comes Idle Under w f (line_fed f) p
    more-comes = record {
      page = p;
      there = inr (rw fed-more under_next);
      after = rw fed-more;
      rest = rw fed-more;
      less = measure-more;
    }

  -- ---- the line ends

  -- what the definition tells
  abbrev whole : Told
  whole = ticks_told u.run p.replay.state.model

  -- the same with the counts of the buffer
  abbrev there : Told
  there = record { texts = whole.texts; counts = (told u used).counts }

  abbrev ends : Log
  ends = closed expected r.names page

  module _ (last : over u used ≡ 0) where
    ended_is : line_ended expected r.names (on_page (told u used) r.state.log) ≡ ends
    unfolding line_ended
    ended_is = rw (eq-eqb (get_or page.counts 21 0) 0 (page-over ∙ last))

    names-short : length (joined (tail r.names (closed_counts expected (told u used).counts (own u used)))) ≤ 1028
    names-short =
        omega (arith, size-joined (tail r.names (closed_counts expected (told u used).counts (own u used))), tail-size r.names (closed_counts expected (told u used).counts (own u used)), u.form.names)

    room : get_or page.counts 0 0 + length (differing expected) + length (joined (tail r.names (closed_counts expected (told u used).counts (own u used)))) ≤ length page.answers
    room = rw (page-places u used) (omega (arith, page-used u used, differing-few line, names-short))

    text-is : text_of (next ends) ≡ u.base ++ closed_text r.names (closed_counts expected (told u used).counts (own u used)) head (judged_text expected (told u used).counts (own u used))
    text-is = closed-text (shown u used) expected r.names room

    counts-is : ends.counts ≡ set (closed_counts expected (told u used).counts (own u used)) 0 (get_or ends.counts 0 0)
    counts-is = closed_same (shown u used) expected r.names room

    ends-other : (k : ℕ) → (k ≡ 0 → ⊥) → (k ≡ 5 → ⊥) → (k ≡ 7 → ⊥) → (k ≡ 8 → ⊥) → get_or ends.counts k 0 ≡ get_or (told u used).counts k 0
    ends-other k a b c d =
        ap (λ (x : List ℕ). get_or x k 0) counts-is
        ∙ (get_or-set_other (closed_counts expected (told u used).counts (own u used)) 0 k _ 0 a ∙ closed-count k b c d expected (told u used).counts (own u used))

    none : get_or ends.counts 21 0 ≡ 0
    none =
        ends-other 21 (λ e. omega arith) (λ e. omega arith) (λ e. omega arith) (λ e. omega arith)
        ∙ (get_or-set_same (counts u used) 21 (over u used) 0 (omega (arith, u.form.counts)) ∙ last)

    from : get_or ends.counts 13 0 ≡ get_or (counts u used) 13 0
    from =
        ends-other 13 (λ e. omega arith) (λ e. omega arith) (λ e. omega arith) (λ e. omega arith)
        ∙ get_or-set_other (counts u used) 21 13 (over u used) 0 (λ e. omega arith)

    fed-last : line_fed f ≡ record { replay = next ends; numbers = f.numbers; left = behind_line f.left }
    unfolding line_fed left_behind
    fed-last = rw (answered-is, ended_is, same_numbers, eq-eqb (get_or ends.counts 21 0) 0 none)

    -- ---- the whole answer

    all-ticks : done u used + ticks u used ≡ u.run.ticks
    all-ticks = omega (arith, u.more)

    answer-is : answer_after u.run (done u used) p ++ piece u used ≡ joined whole.texts
    unfolding ticks_told end_texts
    answer-is =
        let m = p.replay.state.model in
        let n = u.run.ticks in
        let end = line_feed ∷ [] in
        let all = (ticked n n u.run.before m).texts in
        let so : piece u used ≡ joined (reports u used) ++ joined end = piece_is u used ∙ rw last in
        ap (λ (x : List ℕ). answer_after u.run (done u used) p ++ x) so
        ∙ (sym (append_assoc (answer_after u.run (done u used) p) (joined (reports u used)) (joined end))
        ∙ (ap (λ (x : List ℕ). x ++ joined end) (answer-after u used ∙ ap (λ (k : ℕ). answer_after u.run k p) all-ticks)
        ∙ (append_assoc (joined u.run.head) (joined all) (joined end)
        ∙ sym (joined-append u.run.head (all ++ end) ∙ ap (λ (x : List ℕ). joined u.run.head ++ x) (joined-append all end)))))

    shown-there : (t : Bool) → eqb (get_or (head_counts p) 14 0) 0 ≡ t → shown_answer (told u used).counts (joined whole.texts) ≡ cond t (joined whole.texts) (briefly (joined whole.texts))
    unfolding shown_answer
    shown-there t e = rw (told-check u used, e)

    -- ---- outside a check

    module _ (outside : eqb (get_or (head_counts p) 14 0) 0 ≡ true) where
      abbrev o : Opened w u.base u.own (answer_after u.run (done u used) p) p.text (get_or (counts u used) 13 0)
      o = u.open' outside

      abbrev behind : List ℕ
      behind = o.rest ++ piece u used

      abbrev c : List ℕ
      c = (told u used).counts

      whole_is : joined whole.texts ≡ o.gone ++ behind
      whole_is = sym answer-is ∙ (ap (λ (x : List ℕ). x ++ piece u used) o.whole ∙ append_assoc o.gone o.rest (piece u used))

      own_is : own u used ≡ take 2048 o.gone ++ behind
      own_is = own_open u used outside ∙ (ap (λ (x : List ℕ). x ++ piece u used) o.kept ∙ append_assoc (take 2048 o.gone) o.rest (piece u used))

      startable : Startable expected o.gone
      startable = o.startable expected (expected-few line)

      abbrev rest : List ℕ
      rest = judged_rest expected c (o.gone ++ behind) behind

      no-head : head ≡ []
      no-head = head-none p.replay.names p.replay.state.log.counts outside

      shows : (answer : List ℕ) → closed_text r.names (closed_counts expected c answer) head (judged_text expected c answer) ≡ judged_text expected c answer
      unfolding closed_text
      shows answer =
          rw (closed-count 14 (λ e. omega arith) (λ e. omega arith) (λ e. omega arith) expected c answer, told-check u used, outside, no-head)

      text-open : text_of (next ends) ≡ u.base ++ (take 2048 o.gone ++ rest)
      text-open =
          text-is
          ∙ ap (λ (x : List ℕ). u.base ++ x) (shows (own u used) ∙ (ap (judged_text expected c) own_is ∙ judged-kept expected c o.gone behind startable))

      told-open : told_text expected r.names (head_of p.replay) there ≡ o.gone ++ rest
      unfolding told_text
      told-open =
          rw (shown-there true outside) (shows (joined whole.texts) ∙ (ap (judged_text expected c) whole_is ∙ judged-whole expected c o.gone behind startable))

      stream-open : w ++ drop (get_or ends.counts 13 0) (text_of (next ends)) ≡ p.text ++ told_text expected r.names (head_of p.replay) there
      stream-open = rw (from, text-open, told-open) (o.stream rest)

      low-open : get_or ends.counts 13 0 ≤ length (text_of (next ends))
      low-open =
          rw (from, text-open, length-append u.base (take 2048 o.gone ++ rest), length-append (take 2048 o.gone) rest) (omega (arith, o.low))

      counts-open : closed_counts expected c (own u used) ≡ told_counts expected there
      unfolding told_counts
      counts-open =
          rw (shown-there true outside) (ap (closed_counts expected c) own_is ∙ (closed-counts-same expected c o.gone behind startable ∙ ap (closed_counts expected c) (sym whole_is)))

    -- ---- in a check

    module _ (inside : eqb (get_or (head_counts p) 14 0) 0 ≡ false) where
      own-brief : own u used ≡ shown_answer (told u used).counts (joined whole.texts)
      own-brief = own-checked u used inside ∙ (ap briefly answer-is ∙ sym (shown-there false inside))

      abbrev said : List ℕ
      said = told_text expected r.names (head_of p.replay) there

      text-checked : text_of (next ends) ≡ u.base ++ said
      unfolding told_text
      text-checked = text-is ∙ rw own-brief

      stream-checked : w ++ drop (get_or ends.counts 13 0) (text_of (next ends)) ≡ p.text ++ said
      stream-checked =
          let k = u.checked inside in
          rw (from, text-checked, drop-append-le (get_or (counts u used) 13 0) u.base said k.low)
          (sym (append_assoc w (drop (get_or (counts u used) 13 0) u.base) said) ∙ ap (λ (x : List ℕ). x ++ said) k.stream)

      low-checked : get_or ends.counts 13 0 ≤ length (text_of (next ends))
      low-checked = rw (from, text-checked, length-append u.base said) (omega (arith, (u.checked inside).low))

      counts-checked : closed_counts expected (told u used).counts (own u used) ≡ told_counts expected there
      unfolding told_counts
      counts-checked = rw own-brief

    -- ---- either

    stream-last : w ++ drop (get_or ends.counts 13 0) (text_of (next ends)) ≡ p.text ++ told_text expected r.names (head_of p.replay) there
    stream-last = by-test (eqb (get_or (head_counts p) 14 0) 0) stream-open stream-checked

    low-last : get_or ends.counts 13 0 ≤ length (text_of (next ends))
    low-last = by-test (eqb (get_or (head_counts p) 14 0) 0) low-open low-checked

    counts-last : closed_counts expected (told u used).counts (own u used) ≡ told_counts expected there
    counts-last = by-test (eqb (get_or (head_counts p) 14 0) 0) counts-open counts-checked

    -- The counts of the buffer are those of the definition, but for the places of the buffer.
    no-ticks : set (call_counted 0 u.run.counts) 21 (over u used) ≡ call_counted 0 u.run.counts
    no-ticks =
        let x = call_counted 0 u.run.counts in
        let zero : get_or x 21 0 ≡ over u used = called-ticks 0 u.run.counts ∙ (u.runs.none ∙ (u.idle ∙ sym last)) in
        ap (set x 21) (sym zero) ∙ set-get_or x 21 0

    abbrev moved : Told → Told
    moved t = record { texts = t.texts; counts = elsewhere 0 0 0 0 t.counts }

    there-moved : moved there ≡ moved whole
    unfolding ticks_told
    there-moved = rw (told-elsewhere u used, no-ticks)

    text_same : told_text expected r.names (head_of p.replay) there ≡ told_text expected r.names (head_of p.replay) whole
    text_same =
        sym (told-text-elsewhere expected r.names (head_of p.replay) 0 0 0 0 there)
        ∙ (ap (told_text expected r.names (head_of p.replay)) there-moved ∙ told-text-elsewhere expected r.names (head_of p.replay) 0 0 0 0 whole)

    counts_same : elsewhere 0 0 0 0 ends.counts ≡ elsewhere 0 0 0 0 (told_counts expected whole)
    counts_same =
        ap (elsewhere 0 0 0 0) counts-is
        ∙ (ends-elsewhere (closed_counts expected (told u used).counts (own u used)) 0 0 0 0 (get_or ends.counts 0 0)
        ∙ (ap (elsewhere 0 0 0 0) counts-last
        ∙ (sym (told-counts-elsewhere expected 0 0 0 0 there) ∙ (ap (told_counts expected) there-moved ∙ told-counts-elsewhere expected 0 0 0 0 whole))))

    -- ---- the page of the definition

    numbers-same : (line_reading p.numbers line).numbers ≡ p.numbers
    numbers-same = (ticks-again p.numbers p.numbers line (rw u.read u.runs.ticks)).0

    not_left : left_of u.content (head_counts p) ≡ u.content
    unfolding left_of
    not_left = rw u.good

    opening-is : opening u.content line p.replay.names (head_counts p) ≡ silent (head_counts p)
    unfolding opening fault_told item_told
    opening-is = rw (not_left, u.good, u.runs.item)

    names-is : names_after (left_of u.content (head_counts p)) line p.replay.names ≡ p.replay.names
    unfolding names_after
    names-is = rw (not_left, u.runs.item)

    own-def : own_whole u.content line p.numbers p.replay.names p.replay.state (head_counts p) ≡ whole
    unfolding own_whole told_by
    own-def = rw (opening-is, not_left, u.runs.is)

    done-def : done_whole u.content line p.numbers p.replay.names p.replay.state (head_counts p)
        ≡ ticks_done u.run (with_log p.replay.state record { counts = head_counts p; answers = [] })
    unfolding done_whole done_by
    done-def = rw (opening-is, not_left, u.runs.is)

    abbrev after : Page
    after = content_page u.content expected line p.numbers p

    page-line : page_line line p ≡ after
    unfolding page_line
    page-line = rw (u.read, numbers-same)

    after_text : after.text ≡ p.text ++ told_text expected r.names (head_of p.replay) whole
    unfolding content_page
    after_text = rw (own-def, names-is, u.names)

    after-numbers : after.numbers ≡ p.numbers
    unfolding content_page
    after-numbers = refl

    model-last : done_state.model ≡ (ticked u.run.ticks u.run.ticks u.run.before p.replay.state.model).model
    model-last = model-after u used ∙ ap (λ (n : ℕ). (ticked n n u.run.before p.replay.state.model).model) all-ticks

    after_kept : plain (next ends) ≡ after.replay
    unfolding content_page ticks_done
    after_kept =
        rw (own-def, names-is, done-def, counts_same, model-last, others.0 ∙ u.flash, others.1 ∙ u.differences, others.2 ∙ u.probes, u.names)

    idle-last : (bytes : List ℕ) → Idle w record { replay = next ends; numbers = f.numbers; left = bytes } after
    idle-last bytes = record {
      form = form-next ends ended_is;
      fits = u.fits;
      none = none;
      low = low-last;
      text = stream-last ∙ (ap (λ (x : List ℕ). p.text ++ x) text_same ∙ sym after_text);
      numbers = u.numbers ∙ sym after-numbers;
      kept = after_kept;
    }

    first : (lines_in f.left ≡ line ∷ lines_in (behind_line f.left)) × (rest_in f.left ≡ rest_in (behind_line f.left))
    first = line_first f.left u.some

    measure-last : measure (line_fed f) < measure f
    measure-last =
        let now : ticks_left (line_fed f) ≡ 0 = ap ticks_left fed-last ∙ none in
        let still : (line_fed f).left ≡ behind_line f.left = ap (λ (g : Fed). g.left) fed-last in
        let before : ticks_left f ≡ left u used = u.left in
        rw (eq-eqb (ticks_left (line_fed f)) 0 now, still, before, ne_eqb (left u used) 0 (λ e. omega (arith, u.more)))
        (omega (arith, u.more, behind-shorter f.left u.some))

    left-last : (line_fed f).left ≡ behind_line f.left
    left-last = ap (λ (g : Fed). g.left) fed-last

    lines-last : page_after (line_fed f).left (page_line line p) ≡ page_after f.left p
    unfolding each_line
    lines-last = rw (left-last, first.0)

    pub last-comes : Comes Idle Under w f (line_fed f) p
    last-comes = record {
      page = after;
      there = inl (rw fed-last (idle-last (behind_line f.left)));
      after = ap (page_after (line_fed f).left) (sym page-line) ∙ lines-last;
      rest = ap rest_in left-last ∙ sym first.1;
      less = measure-last;
    }

  -- A part, whatever is left of the line behind it.
  pub part-comes : Comes Idle Under w f (line_fed f) p
  part-comes = by_eqb (over u used) 0 (λ h e. last-comes h) (λ h e. more-comes h)
