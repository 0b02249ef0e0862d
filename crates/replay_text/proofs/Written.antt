-- What is written for a text is the definition's, wherever the pieces end in which it is read, and whenever answers are written. Assumes
-- nothing.
use Prim.Native.Nat.{ℕ, ◌+◌, ◌≤◌, ◌<◌}
use mathlib.Core.Bool.{Bool, true, false, cond}
use mathlib.Core.List.{List, [], ◌∷◌, ◌++◌, append-nil}
use mathlib.Core.Path.{◌≡◌, refl, sym, ap, subst, ◌∙◌}
use native.Mathlib.Omega.{arith}
use lib.Dec.{eqb}
use lib.ListN.{length, get_or, set, take, drop, replicate, length-set, length-replicate}
use lib.Seq.{get_or-set_other}
use borrow.Author.Tests.{eq-eqb}
use Rattle.unit.proofs.Cases.{by-test, by-leb}
use Rattle.numeral.specs.Place.{next_place, written, put_each, joined}
use Rattle.numeral.specs.Ascii.{ascii}
use Rattle.wording.specs.Wording.{calls, faults, counted}
use Rattle.line.specs.Line.{line_reading}
use Rattle.line_buffer.specs.Lines.{has_line, whole_text, each_line, text_lines, pieces_read}
use Rattle.item_state.specs.Log.{Log, said}
use Rattle.answer_text.specs.Texts.{Told, on_page, HasRoom, asked}
use Rattle.answer_text.proofs.Page.{page-ends, page-text}
use Rattle.answer_text.proofs.Questions.{said-page}
use Rattle.answer_length.proofs.Sizes.{size, size-joined, size-append, counted-size}
use Rattle.session.specs.Line.{Replay}
use Rattle.session.specs.Feed.{Fed, line_fed}
use Rattle.session.specs.Flush.{written_to, written_now}
use Rattle.session.specs.Ends.{names_begun, counts_begun, last_texts, last_said}
use Rattle.session.specs.Turns.{Turned, start}
use Rattle.line_text.specs.Text.{elsewhere}
use Rattle.line_text.proofs.Apart.{count-elsewhere}
use Rattle.line_text.proofs.Text.{text_of}
use Rattle.line_room.specs.Form.{InForm, ticks_of}
use Rattle.line_room.proofs.Room.{put-long}
use Rattle.line_room.proofs.Start.{start-form, start-numbers}
use Rattle.replay_text.specs.Replay.{Page, page_line, first_page, last_page, last_text, replay_text}
use Rattle.replay_text.specs.Turns.{pieces_turned, all_written}
use Rattle.replay_text.proofs.Long.{pieces-page}
use Rattle.replay_text.proofs.Loop.{used_of, Comes, Steps, all-written}
use Rattle.replay_text.proofs.Sim.{plain, counts_of, line_in, Idle, idle-flushed, idle-bytes, Under}
use Rattle.replay_text.proofs.Flushed.{under-way, under-flushed}
use Rattle.replay_text.proofs.Lines.{short-comes}
use Rattle.replay_text.proofs.Parts.{part-comes}
use Rattle.replay_text.proofs.Begun.{long-comes}

-- ---- every line

line-comes : (w : List ℕ) (f : Fed) (p : Page) → Idle w f p → used_of f ≤ 49152 → has_line f.left ≡ true → Comes Idle Under w f (line_fed f) p
line-comes w f p i used some =
    by-leb (ticks_of (line_reading f.numbers (line_in f)).content (counts_of f)) 1048576 (λ few e. short-comes w f p i used some few)
    (λ many e. long-comes w f p i used some many)

pub steps : Steps Idle Under
steps = record {
  whole = λ w f p i. i.none;
  going = λ w f p u. (under-way u, u.some);
  line = line-comes;
  part = λ w f p u used. part-comes u used;
  bytes = idle-bytes;
  idle = idle-flushed;
  under = λ w f p u. under-flushed u;
}

-- ---- the start

module _ (path : List ℕ) where
  abbrev first : Bool → List ℕ
  first check = counts_begun (replicate 5120 0) path check (replicate 22 0)

  first-long : (check : Bool) → length (first check) ≡ 22
  unfolding counts_begun
  first-long true = refl
  first-long false = refl

  first-zero : (check : Bool) → (get_or (first check) 0 0 ≡ 0) × (get_or (first check) 13 0 ≡ 0) × (get_or (first check) 21 0 ≡ 0)
  unfolding counts_begun
  first-zero true = (refl, refl, refl)
  first-zero false = (refl, refl, refl)

  first_plain : (check : Bool) → elsewhere 0 0 0 0 (first check) ≡ first check
  unfolding counts_begun
  first_plain true = refl
  first_plain false = refl

  names-long : length (names_begun (replicate 5120 0) path) ≡ 5120
  unfolding names_begun put_each
  names-long = put-long (path ∷ []) (replicate 5120 0) 0 ∙ length-replicate {A = ℕ} 5120 0

  pub start-idle : (check : Bool) → Idle [] (start path check) (first_page path check)
  unfolding start first_page
  start-idle check =
      let zero = first-zero check in
      record {
        form = start-form (replicate 8192 0xFF) (replicate 1024 0) (names_begun (replicate 5120 0) path) record { counts = first check; answers = replicate 163840 0 } (first-long check)
            (length-replicate {A = ℕ} 163840 0) names-long;
        fits = start-numbers;
        none = zero.2;
        low = omega (arith, zero.1);
        text = rw (zero.0, zero.1);
        numbers = refl;
        kept = rw (first_plain check);
      }

  pub start-used : (check : Bool) → used_of (start path check) ≡ 0
  unfolding start
  start-used check = (first-zero check).0

  pub start_left : (check : Bool) → (has_line (start path check).left ≡ false) × (take 1002 (start path check).left ≡ [])
  unfolding start has_line
  start_left check = (refl, refl)

-- ---- all is answered that was read

module _ (t : Turned) (page : Page) (idle : Idle t.text t.fed page) (used : used_of t.fed ≡ 0) where
  abbrev log : Log
  log = t.fed.replay.state.log

  no_text : text_of t.fed.replay ≡ []
  no_text = rw used

  nothing-kept : get_or log.counts 13 0 ≡ 0
  nothing-kept = omega (arith, idle.low, ap length no_text)

  -- Before the last line all is written that the definition writes.
  pub lines-written : t.text ≡ page.text
  lines-written = sym (append-nil t.text) ∙ (rw (no_text, nothing-kept) at idle.text)

  -- The counts are the definition's, but for the places of the buffer.
  pub counts-written : (k : ℕ) → (k ≡ 0 → ⊥) → (k ≡ 12 → ⊥) → (k ≡ 13 → ⊥) → (k ≡ 20 → ⊥)
      → get_or log.counts k 0 ≡ get_or page.replay.state.log.counts k 0
  counts-written k a b c d =
      sym (count-elsewhere 0 0 0 0 log.counts k a b c d) ∙ ap (λ (r : Replay). get_or r.state.log.counts k 0) idle.kept

  -- ---- the last line

  last-short : (counts : List ℕ) → length (joined (last_texts counts)) ≤ 300
  unfolding last_texts calls faults size ascii
  last-short counts =
      rw (size-joined, size-append, size-append, size-append, size-append, size-append)
      (omega (arith, counted-size (get_or counts 3 0) (ascii " calls, "), counted-size (get_or counts 4 0) (ascii " refused, "), counted-size (get_or counts 5 0) (ascii " unannounced, "), counted-size (get_or counts 6 0) (ascii " bad lines, "), counted-size (get_or counts 7 0) (ascii " expectations, "), counted-size (get_or counts 8 0) (ascii " differ\n")))

  texts-same : last_texts log.counts ≡ last_texts page.replay.state.log.counts
  unfolding last_texts
  texts-same =
      let same : (k : ℕ) → 0 < k → k < 12 → get_or log.counts k 0 ≡ get_or page.replay.state.log.counts k 0
      = λ k low high. counts-written k (λ e. omega arith) (λ e. omega arith) (λ e. omega arith) (λ e. omega arith) in
      rw (same 3 (omega arith) (omega arith), same 4 (omega arith) (omega arith), same 5 (omega arith) (omega arith), same 6 (omega arith) (omega arith), same 7 (omega arith) (omega arith), same 8 (omega arith) (omega arith))

  check-same : get_or log.counts 14 0 ≡ get_or page.replay.state.log.counts 14 0
  check-same = counts-written 14 (λ e. omega arith) (λ e. omega arith) (λ e. omega arith) (λ e. omega arith)

  abbrev told : Told
  told = asked (last_texts log.counts) log.counts

  room : HasRoom told log
  room = omega (arith, used, last-short log.counts, idle.form.places)

  some : 0 < length log.counts
  some = omega (arith, idle.form.counts)

  said-other : (k : ℕ) → (k ≡ 0 → ⊥) → get_or (on_page told log).counts k 0 ≡ get_or log.counts k 0
  unfolding on_page
  said-other k apart = get_or-set_other log.counts 0 k _ 0 apart

  said-written : written_now (said (last_texts log.counts) log) ≡ joined (last_texts log.counts)
  unfolding written_now written_to
  said-written =
      rw (said-page (last_texts log.counts) log, said-other 21 (λ e. omega arith), said-other 13 (λ e. omega arith), eq-eqb (get_or log.counts 21 0) 0 idle.none, nothing-kept)
      (page-text told log room some ∙ rw used)

  -- Nothing is left to be written.
  pub none_written : written_now log ≡ []
  unfolding written_now written_to
  none_written = rw (eq-eqb (get_or log.counts 21 0) 0 idle.none, nothing-kept, used)

  last_written : written_now (last_said true log) ≡ last_text page.replay.state.log.counts
  unfolding last_said last_text
  last_written =
      by-test (eqb (get_or page.replay.state.log.counts 14 0) 0)
      (λ e. rw (check-same, e) (said-written ∙ ap joined texts-same))
      (λ e. rw (check-same, e) none_written)

  -- With the last line all is written that the definition writes.
  pub end-written : t.text ++ written_now (last_said true log) ≡ page.text ++ last_text page.replay.state.log.counts
  end-written = rw (lines-written, last_written)

-- ---- all pieces

module _ (path : List ℕ) (check : Bool) (pieces : List (List ℕ)) where
  abbrev turns : Turned
  turns = pieces_turned pieces (start path check)

  abbrev whole : Page
  whole = last_page path check (whole_text pieces)

  pub page-is : pieces_read page_line pieces record { state = first_page path check; held = [] } ≡ whole
  unfolding last_page
  page-is = pieces-page pieces (first_page path check)

  page-held : pieces_read page_line pieces record { state = first_page path check; held = take 1002 (start path check).left } ≡ whole
  page-held = rw (start_left path check).1 page-is

  -- Behind the last turn all is answered,
  pub turns-idle : Idle turns.text turns.fed whole
  turns-idle =
      subst (Idle turns.text turns.fed) page-held
      (all-written Idle Under steps pieces [] (start path check) (first_page path check) (start-idle path check) (start-used path check) (start_left path check).0).there

  pub turns-used : used_of turns.fed ≡ 0
  turns-used =
      (all-written Idle Under steps pieces [] (start path check) (first_page path check) (start-idle path check) (start-used path check) (start_left path check).0).used

  -- and what is written for a text that is read in pieces is what the definition gives for the whole text.
  pub all-is : all_written path check pieces ≡ replay_text path check (whole_text pieces)
  unfolding all_written replay_text
  all-is = end-written turns whole turns-idle turns-used
