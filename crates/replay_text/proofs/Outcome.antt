-- What a replay hands back, and what is written in its turns, is the definition's. Assumes nothing.
use Prim.Native.Nat.{ℕ, ◌+◌, ◌*◌, ◌≤◌, ◌<◌}
use mathlib.Core.Bool.{Bool, true, false, cond, true≢false, false≢true}
use mathlib.Core.List.{List, [], ◌∷◌, ◌++◌}
use mathlib.Core.Logic.{inl}
use mathlib.Core.Path.{◌≡◌, refl, sym, ap, subst, ◌∙◌}
use native.Mathlib.Omega.{arith}
use lib.Dec.{eqb, ltb}
use lib.ListN.{length, get_or, take, length-append, length-take}
use borrow.Author.Tests.{eqb-true}
use Rattle.unit.proofs.Cases.{by-test}
use Rattle.line_buffer.specs.Lines.{has_line, lines_in, rest_in, whole_text, each_line}
use Rattle.line_buffer.proofs.Pieces.{all_rest, none-taken}
use Rattle.collection.specs.declared.Outcome.{Outcome}
use Rattle.session.specs.Flush.{written_now, line_ending}
use Rattle.session.specs.Input.{goes_on, was_whole}
use Rattle.session.specs.Ends.{last_said, outcome_of}
use Rattle.session.specs.Turns.{Turned, turned, with_bytes, start, turned_on, reading, left_over}
use Rattle.session.specs.Turns.{Reached, begun, line, read, ended, failed, done, broken, Replayed}
use Rattle.session.proofs.FeedLaws.{fed-none}
use Rattle.replay_text.specs.Replay.{Page, page_line, first_page, last_page, replay_text}
use Rattle.replay_text.proofs.Loop.{used_of, measure, page_after, Ready, left-flushed, measure-flushed, turn-after, ready-idle, page-same, measure-low, last-lines}
use Rattle.replay_text.proofs.Sim.{counts_of, Idle, idle-flushed, idle-bytes, Under}
use Rattle.replay_text.proofs.Written.{steps, start-idle, start-used, start_left, counts-written, end-written}
use Rattle.replay_text.proofs.Ended.{ended-more, held_more, ended-last, whole-more}

-- ---- a turn more, whether it finds a line or not

abbrev pub ReadyFor : Turned → Page → Type 0
ReadyFor t p = Ready Idle Under steps t.text t.fed p

pub record Next (t : Turned) (p : Page) : Type 0 where
  pub page : Page
  ready : ReadyFor (turned_on t) page
  after : page_after (left_over (turned_on t)) page ≡ page_after (left_over t) p
  rest : rest_in (left_over (turned_on t)) ≡ rest_in (left_over t)
  -- fewer turns are left where a line is
  low : measure (turned_on t).fed ≤ measure t.fed
  fewer : has_line (left_over (turned_on t)) ≡ true → measure (turned_on t).fed < measure t.fed

next-none : (t : Turned) (p : Page) → ReadyFor t p → has_line (left_over t) ≡ false → Next t p
unfolding turned_on turned
next-none t p ready none =
    let i = ready-idle Idle Under steps t.text t.fed p ready none in
    let k = idle-flushed t.text t.fed p i.0 in
    let same = fed-none (length (left_over t)) t.fed none in
    let left = left-flushed Idle Under steps t.fed in
    record {
      page = p;
      ready = rw same (inl k);
      after = rw (same, left);
      rest = rw (same, left);
      low = rw same (omega (arith, measure-flushed Idle Under steps t.fed));
      fewer = rw (same, left) (λ some. absurd (true≢false (sym some ∙ none)));
    }

pub next-turn : (t : Turned) (p : Page) → ReadyFor t p → Next t p
unfolding turned_on
next-turn t p ready =
    by-test (has_line (left_over t))
    (λ some.
    let a = turn-after Idle Under steps t.text t.fed p ready some in
    record { page = a.page; ready = a.ready; after = a.after; rest = a.rest; low = omega (arith, a.less); fewer = λ more. a.less })
    (λ none. next-none t p ready none)

-- ---- how long the bytes are

whole_length : (pieces : List (List ℕ)) (piece : List ℕ) → length (whole_text (pieces ++ (piece ∷ []))) ≡ length (whole_text pieces) + length piece
whole_length pieces piece = ap length (whole-more pieces piece) ∙ length-append (whole_text pieces) piece

ending-length : (held : List ℕ) → length (line_ending held) ≤ length held + 1
unfolding line_ending
ending-length [] = omega arith
ending-length (c ∷ cs) = omega (arith, length-append (c ∷ cs) (10 ∷ []))

-- ---- what is reached, beside the page of the definition

module _ (path : List ℕ) (check : Bool) where
  -- the page behind the lines that have ended in these pieces, and no others
  abbrev pub ended_page : List (List ℕ) → Page
  ended_page pieces = each_line page_line (lines_in (whole_text pieces)) (first_page path check)

  -- Behind the file's end a line feed may be added, and a turn or two find nothing.
  abbrev at_end : ℕ → ℕ
  at_end state = cond (eqb state 0) 0 (cond (ltb state 3) 4098 4099)

  pub record Kept (n : ℕ) (pieces : List (List ℕ)) (state : ℕ) (t : Turned) : Type 0 where
    pub known : state ≤ 4
    few : n + measure t.fed ≤ 4098 * length (whole_text pieces) + at_end state
    page : Page
    ready : ReadyFor t page
    -- what is left to be answered are the last of the lines that have ended, and the start of the next one
    ended : state ≡ 0 → page_after (left_over t) page ≡ ended_page pieces
    held : state ≡ 0 → take 1002 (rest_in (left_over t)) ≡ take 1002 (rest_in (whole_text pieces))
    last : state ≡ 1 → page_after (left_over t) page ≡ last_page path check (whole_text pieces)
    over : state ≡ 3 → (page ≡ last_page path check (whole_text pieces)) × (left_over t ≡ [])

  begun-few : measure (start path check) ≤ 0
  unfolding start
  begun-few = omega (arith, measure-low Idle Under steps (start path check) (start-idle path check).none)

  kept-begun : Kept 0 [] 0 record { text = []; fed = start path check }
  unfolding whole_text each_line lines_in rest_in
  kept-begun =
      let left = start_left path check in
      record {
        known = omega arith;
        few = omega (arith, begun-few);
        page = first_page path check;
        ready = inl (start-idle path check, start-used path check);
        ended = λ e. page-same Idle Under steps (start path check).left (first_page path check) left.0;
        held = λ e. rw (all_rest (start path check).left left.0) left.1;
        last = λ e. absurd (omega arith);
        over = λ e. absurd (omega arith);
      }

  not-over : (state : ℕ) → goes_on state ≡ true → state ≡ 3 → ⊥
  unfolding goes_on
  not-over state going e = false≢true (rw e at going)

  kept_line : (n : ℕ) (pieces : List (List ℕ)) (state : ℕ) (t : Turned) → Kept n pieces state t → goes_on state ≡ true
      → has_line (left_over (turned_on t)) ≡ true → Kept (n + 1) pieces state (turned_on t)
  kept_line n pieces state t k going some =
      let on = next-turn t k.page k.ready in
      record {
        known = k.known;
        few = omega (arith, k.few, on.fewer some);
        page = on.page;
        ready = on.ready;
        ended = λ e. on.after ∙ k.ended e;
        held = λ e. rw on.rest (k.held e);
        last = λ e. on.after ∙ k.last e;
        over = λ e. absurd (not-over state going e);
      }

  -- no line is left
  module _ (n : ℕ) (pieces : List (List ℕ)) (state : ℕ) (t : Turned) (k : Kept n pieces state t) (none : has_line (left_over (turned_on t)) ≡ false) where
    abbrev pub left : List ℕ
    left = left_over (turned_on t)

    abbrev pub next : Next t k.page
    next = next-turn t k.page k.ready

    pub here : Idle (turned_on t).text (turned_on t).fed next.page × (used_of (turned_on t).fed ≡ 0)
    here = ready-idle Idle Under steps (turned_on t).text (turned_on t).fed next.page next.ready none

    page-here : page_after (left_over t) k.page ≡ next.page
    page-here = sym next.after ∙ page-same Idle Under steps left next.page none

    rest-here : rest_in (left_over t) ≡ left
    rest-here = sym next.rest ∙ all_rest left none

    ready_on : (bytes : List ℕ) → ReadyFor (reading bytes (turned_on t)) next.page
    unfolding reading
    ready_on bytes = inl (idle-bytes (turned_on t).text (turned_on t).fed next.page bytes here.0, here.1)

    left-on : (bytes : List ℕ) → left_over (reading bytes (turned_on t)) ≡ bytes
    unfolding reading
    left-on bytes = refl

    -- what was left and the bytes that are to be answered now
    few-here : n + 4097 * length left ≤ 4098 * length (whole_text pieces) + at_end state
    few-here = omega (arith, k.few, next.low, measure-low Idle Under steps (turned_on t).fed here.0.none)

    measure-on : (bytes : List ℕ) → measure (reading bytes (turned_on t)).fed ≡ 4097 * length bytes
    unfolding reading
    measure-on bytes = measure-low Idle Under steps (with_bytes bytes (turned_on t).fed) here.0.none

    -- The page is that of the lines that have ended, and what is left is the start of the next one.
    pub ended_here : state ≡ 0 → next.page ≡ ended_page pieces
    ended_here e = sym page-here ∙ k.ended e

    held-here : state ≡ 0 → take 1002 left ≡ take 1002 (rest_in (whole_text pieces))
    held-here e = ap (take 1002) (sym rest-here) ∙ k.held e

    kept_read : state ≡ 0 → (piece : List ℕ) → 0 < length piece → Kept (n + 1) (pieces ++ (piece ∷ [])) 0 (reading (take 1002 left ++ piece) (turned_on t))
    kept_read e piece some = record {
      known = omega arith;
      few =
          let old : n + 4097 * length left ≤ 4098 * length (whole_text pieces) + at_end 0 = rw e at few-here in
          omega (arith, old, measure-on (take 1002 left ++ piece), length-append (take 1002 left) piece, length-take 1002 left, whole_length pieces piece, some);
      page = next.page;
      ready = ready_on (take 1002 left ++ piece);
      ended = λ z. rw (left-on (take 1002 left ++ piece), held-here e, ended_here e, whole-more pieces piece) (ended-more (whole_text pieces) piece (first_page path check));
      held = λ z. rw (left-on (take 1002 left ++ piece), held-here e, whole-more pieces piece) (held_more (whole_text pieces) piece);
      last = λ z. absurd (omega arith);
      over = λ z. absurd (omega arith);
    }

    kept-ended : state ≡ 0 → Kept (n + 1) pieces 1 (reading (line_ending (take 1002 left)) (turned_on t))
    unfolding last_page
    kept-ended e =
        let lines = last-lines Idle Under steps (take 1002 left) (none-taken 1002 left none) in
        record {
          known = omega arith;
          few =
              let old : n + 4097 * length left ≤ 4098 * length (whole_text pieces) + at_end 0 = rw e at few-here in
              omega (arith, old, measure-on (line_ending (take 1002 left)), ending-length (take 1002 left), length-take 1002 left);
          page = next.page;
          ready = ready_on (line_ending (take 1002 left));
          ended = λ z. absurd (omega arith);
          held = λ z. absurd (omega arith);
          last = λ z. rw (left-on (line_ending (take 1002 left)), lines, held-here e, ended_here e) (ended-last (whole_text pieces) (first_page path check));
          over = λ z. absurd (omega arith);
        }

    -- what can't be read is of no matter
    kept_off : (state' : ℕ) → state' ≤ 4 → ¬ (state' ≡ 0) → ¬ (state' ≡ 1) → ¬ (state' ≡ 3) → at_end state + 1 ≤ at_end state'
        → Kept (n + 1) pieces state' (reading [] (turned_on t))
    kept_off state' known a b c more = record {
      known = known;
      few = omega (arith, few-here, more, measure-on []);
      page = next.page;
      ready = ready_on [];
      ended = λ z. absurd (a z);
      held = λ z. absurd (a z);
      last = λ z. absurd (b z);
      over = λ z. absurd (c z);
    }

    kept-done : state ≡ 1 → Kept (n + 1) pieces 3 (reading [] (turned_on t))
    kept-done e = record {
      known = omega arith;
      few =
          let old : n + 4097 * length left ≤ 4098 * length (whole_text pieces) + at_end 1 = rw e at few-here in
          omega (arith, old, measure-on []);
      page = next.page;
      ready = ready_on [];
      ended = λ z. absurd (omega arith);
      held = λ z. absurd (omega arith);
      last = λ z. absurd (omega arith);
      over = λ z. (sym page-here ∙ k.last e, left-on []);
    }

  pub kept : {n : ℕ} {pieces : List (List ℕ)} {state : ℕ} {t : Turned} → Reached path check n pieces state t → Kept n pieces state t
  kept begun = kept-begun
  kept (line r going some) = kept_line _ _ _ _ (kept r) going some
  kept (read r none piece some) = kept_read _ _ 0 _ (kept r) none refl piece some
  kept (ended r none) = kept-ended _ _ 0 _ (kept r) none refl
  kept (failed r none) = kept_off _ _ 0 _ (kept r) none 2 (omega arith) (λ e. omega arith) (λ e. omega arith) (λ e. omega arith) (omega arith)
  kept (done r none) = kept-done _ _ 1 _ (kept r) none refl
  kept (broken r none) = kept_off _ _ 2 _ (kept r) none 4 (omega arith) (λ e. omega arith) (λ e. omega arith) (λ e. omega arith) (omega arith)

  -- ---- how many turns

  end_low : (state : ℕ) → at_end state ≤ 4099
  end_low state = go (eqb state 0) (ltb state 3)
    where
      go : (t u : Bool) → cond t 0 (cond u 4098 4099) ≤ 4099
      go true u = omega arith
      go false true = omega arith
      go false false = omega arith

  -- For each byte there are 4,097 at most: a line has a line feed, and a line of the most ticks has 4,096 parts. Each piece, which has a byte
  -- at least, takes one to read it; behind the last a line feed may be added, and two turns find the end.
  pub few-turns : {n : ℕ} {pieces : List (List ℕ)} {state : ℕ} {t : Turned} → Reached path check n pieces state t
      → n ≤ 4098 * length (whole_text pieces) + 4099
  few-turns {n} {pieces} {state} {t} r = omega (arith, (kept r).few, end_low state)

  -- ---- a file that was read to its end, and answered

  module _ {n : ℕ} {pieces : List (List ℕ)} {t : Turned} (r : Reached path check n pieces 3 t) where
    abbrev whole : Page
    whole = last_page path check (whole_text pieces)

    all_read : Idle t.text t.fed whole × (used_of t.fed ≡ 0)
    unfolding has_line
    all_read =
        let k = kept r in
        let o = k.over refl in
        let i = ready-idle Idle Under steps t.text t.fed k.page k.ready (ap has_line o.1) in
        (subst (Idle t.text t.fed) o.0 i.0, i.1)

    -- The counts are the definition's for the whole text, but for the places of the buffer,
    pub read-counts : (k : ℕ) → (k ≡ 0 → ⊥) → (k ≡ 12 → ⊥) → (k ≡ 13 → ⊥) → (k ≡ 20 → ⊥)
        → get_or (counts_of t.fed) k 0 ≡ get_or whole.replay.state.log.counts k 0
    read-counts = counts-written t whole all_read.0 all_read.1

    -- so is what is handed back,
    pub read-outcome : outcome_of (was_whole 3) (counts_of t.fed) ≡ outcome_of true whole.replay.state.log.counts
    unfolding outcome_of was_whole
    read-outcome =
        let same : (k : ℕ) → 0 < k → k < 12 → get_or (counts_of t.fed) k 0 ≡ get_or whole.replay.state.log.counts k 0
        = λ k low high. read-counts k (λ e. omega arith) (λ e. omega arith) (λ e. omega arith) (λ e. omega arith) in
        rw (same 5 (omega arith) (omega arith), same 6 (omega arith) (omega arith), same 7 (omega arith) (omega arith), same 8 (omega arith) (omega arith))

    -- and what is written in the turns, with the last line.
    pub read-text : t.text ++ written_now (last_said true t.fed.replay.state.log) ≡ replay_text path check (whole_text pieces)
    unfolding replay_text
    read-text = end-written t whole all_read.0 all_read.1

  -- ---- what `replay` in session ensures

  pub whole-told : {t : Bool} (state : ℕ) (counts : List ℕ) {outcome : Outcome} → outcome ≡ outcome_of (was_whole state) counts → outcome.whole ≡ t → was_whole state ≡ t
  unfolding outcome_of
  whole-told state counts told all = sym (ap (λ (o : Outcome). o.whole) told) ∙ all

  stopped : (state : ℕ) → was_whole state ≡ true → state ≡ 3
  unfolding was_whole
  stopped state all = eqb-true state 3 all

  -- A replay that reads its file to the end:
  module _ {outcome : Outcome} (r : Replayed path check outcome) (all : outcome.whole ≡ true) where
    at-end : r.state ≡ 3
    at-end = stopped r.state (whole-told r.state (counts_of r.last.fed) r.told all)

    there : Reached path check r.turns r.pieces 3 r.last
    there = subst (λ (s : ℕ). Reached path check r.turns r.pieces s r.last) at-end r.reached

    -- its turns write, with the last line, what the definition writes for the whole text,
    pub replay-written : r.last.text ++ written_now (last_said true r.last.fed.replay.state.log) ≡ replay_text path check (whole_text r.pieces)
    replay-written = read-text there

    -- and it hands back what the definition counts for it.
    pub replay-told : outcome ≡ outcome_of true (last_page path check (whole_text r.pieces)).replay.state.log.counts
    replay-told = r.told ∙ (ap (λ (s : ℕ). outcome_of (was_whole s) (counts_of r.last.fed)) at-end ∙ read-outcome there)

  -- Every replay comes to an end, of a text of less than 4,500 terabytes: for these the loop's count of turns is enough.
  pub replay-ends : {outcome : Outcome} (r : Replayed path check outcome) → length (whole_text r.pieces) < 4500000000000000
      → goes_on r.state ≡ false
  replay-ends r few =
      by-test (goes_on r.state) (λ going. absurd (omega (arith, r.over going, few, few-turns r.reached))) (λ still. still)
