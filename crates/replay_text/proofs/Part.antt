-- One more part of a line of ticks, as it stands in the buffer. Assumes nothing.
use Prim.Native.Nat.{ℕ, ◌+◌, ◌-◌, ◌*◌, ◌≤◌, ◌<◌, min}
use mathlib.Core.Bool.{Bool, true, false, cond, true≢false}
use mathlib.Core.List.{List, [], ◌∷◌, ◌++◌, append-nil, append_assoc}
use mathlib.Core.Path.{◌≡◌, refl, sym, ap, subst, ◌∙◌}
use native.Mathlib.Omega.{arith}
use lib.Dec.{eqb}
use lib.ListN.{length, get_or, set, take, drop, length-append, length-set}
use lib.Seq.{get_or-set_same, get_or-set_other, set_comm, set-set}
use Rattle.numeral.specs.Place.{no_room, joined}
use Rattle.device.specs.declared.Model.{Model}
use Rattle.wording.specs.Wording.{Texts}
use Rattle.item_state.specs.Log.{Log, call_counted}
use Rattle.item_calls.specs.Lines.{Ticks, ticked}
use Rattle.item_checks.specs.Close.{briefly, kept_briefly}
use Rattle.item_checks.proofs.Briefly.{briefly-parts}
use Rattle.answer_text.specs.Texts.{Told, on_page, HasRoom, end_texts}
use Rattle.answer_text.specs.Line.{line_told}
use Rattle.answer_text.proofs.Page.{page-ends, page-text, page-long, joined-append}
use Rattle.session.specs.Line.{with_flash, State, line_done, Replay}
use Rattle.session.specs.Feed.{Fed}
use Rattle.line_text.specs.Text.{bare, shown_answer, head_of, elsewhere}
use Rattle.line_text.proofs.Close.{Stands, Written, written-briefly, buffer-briefly, ends-briefly}
use Rattle.line_text.proofs.Whole.{tell-any}
use Rattle.line_room.proofs.Parts.{part-size, part-page}
use Rattle.tick_parts.proofs.Ticks.{ticked-cut}
use Rattle.replay_text.specs.Replay.{TickLine, Page}
use Rattle.replay_text.proofs.Runs.{part-told}
use Rattle.replay_text.proofs.Loop.{used_of}
use Rattle.replay_text.proofs.Sim.{counts_of, line_in, head_counts, answer_after, Under}
use Rattle.replay_text.proofs.Flushed.{check-same, under-way}

module _ {w : List ℕ} {f : Fed} {p : Page} (u : Under w f p) (used : used_of f ≤ 70680) where
  abbrev pub r : Replay
  r = f.replay

  abbrev log : Log
  log = r.state.log

  abbrev pub counts : List ℕ
  counts = counts_of f

  abbrev pub done : ℕ
  done = 1048576 * u.parts

  -- the ticks that are left, those of this part, and those left behind it
  abbrev pub left : ℕ
  left = u.run.ticks - done

  abbrev pub ticks : ℕ
  ticks = min left 1048576

  abbrev pub over : ℕ
  over = left - ticks

  abbrev head : List ℕ
  head = joined (head_of p.replay).texts

  -- ---- what it tells

  abbrev pub reports : Texts
  reports = (ticked ticks ticks (u.run.before + done) r.state.model).texts

  abbrev pub told : Told
  told = record { texts = reports ++ end_texts over; counts = set counts 21 over }

  start_is : u.total - left ≡ u.run.before + done
  start_is = omega (arith, u.more, u.runs.low, u.runs.before)

  told_is : line_told u.content f.numbers (with_flash r.state) r.state.differences r.state.probes ≡ told
  told_is =
      let low : get_or counts 21 0 ≤ u.total = omega (arith, u.left, u.runs.low) in
      tell-any u.content f.numbers r.state log
      ∙ (u.runs.later f.numbers r.state counts (under-way u)
      ∙ (part-told u.total r.state.model counts low ∙ rw (u.left, start_is)))

  -- It stands on the page.
  pub done-page : (line_done u.content f.numbers r.state).log ≡ on_page told log
  done-page =
      part-page u.content f.numbers r u.form u.fits u.runs.bounded u.runs.listing ∙ ap (λ (t : Told). on_page t log) told_is

  abbrev pub piece : List ℕ
  piece = joined told.texts

  piece-short : length piece ≤ 28700
  piece-short =
      rw told_is at (part-size u.content f.numbers r u.form u.fits u.runs.bounded u.runs.listing)

  room : HasRoom told log
  room = omega (arith, piece-short, u.form.places)

  some : 0 < length told.counts
  some = omega (arith, length-set counts 21 over, u.form.counts)

  pub other : (k : ℕ) → (k ≡ 0 → ⊥) → (k ≡ 21 → ⊥) → get_or (on_page told log).counts k 0 ≡ get_or counts k 0
  unfolding on_page
  other k a b = get_or-set_other (set counts 21 over) 0 k _ 0 a ∙ get_or-set_other counts 21 k over 0 b

  stands : Stands u.base head (u.own ++ piece) (on_page told log)
  stands = record {
    text = page-text told log room some
        ∙ (ap (λ (x : List ℕ). x ++ piece) u.stands.text
        ∙ (append_assoc u.base (head ++ u.own) piece ∙ ap (λ (x : List ℕ). u.base ++ x) (append_assoc head u.own piece)));
    ends = page-ends told log room some ∙ omega (arith, u.stands.ends, length-append u.own piece);
    body = other 20 (λ e. omega arith) (λ e. omega arith) ∙ u.stands.body;
    start = other 12 (λ e. omega arith) (λ e. omega arith) ∙ u.stands.start;
  }

  same : (on_page told log).counts ≡ set told.counts 0 (get_or (on_page told log).counts 0 0)
  unfolding on_page
  same = rw (get_or-set_same told.counts 0 _ 0 some)

  page-some : 0 < length (on_page told log).counts
  unfolding on_page
  page-some = rw length-set some

  pub small : length (on_page told log).answers ≤ no_room
  small = rw (page-long told log, u.form.places) (omega arith)

  -- as a check keeps it
  abbrev pub own : List ℕ
  own = shown_answer told.counts (u.own ++ piece)

  written : Written u.base head (u.own ++ piece) told.counts (on_page told log)
  written = record { stands = stands; same = same; some = page-some }

  pub shown : Written u.base head own told.counts (kept_briefly (on_page told log))
  shown = written-briefly written small

  -- in a buffer of the same length, with room behind it
  pub page-used : get_or (kept_briefly (on_page told log)).counts 0 0 ≤ 99380
  page-used =
      omega (arith, ends-briefly written small, page-ends told log room some, piece-short)

  pub page-places : length (kept_briefly (on_page told log)).answers ≡ 163840
  page-places = buffer-briefly written small ∙ (page-long told log ∙ u.form.places)

  -- ---- the whole answer so far

  done-times : done ≡ 16384 * (64 * u.parts)
  done-times = omega arith

  cut : ticked (done + ticks) (done + ticks) u.run.before p.replay.state.model
      ≡ record {
        model = (ticked ticks ticks (u.run.before + done) r.state.model).model;
        texts = (ticked done done u.run.before p.replay.state.model).texts ++ reports;
      }
  cut = ticked-cut (64 * u.parts) done ticks u.run.before p.replay.state.model done-times ∙ rw (← u.model)

  pub model-after : (line_done u.content f.numbers r.state).model ≡ (ticked (done + ticks) (done + ticks) u.run.before p.replay.state.model).model
  model-after =
      let m = r.state.model in
      let moved : (ticked (min (get_or counts 21 0) 1048576) (min (get_or counts 21 0) 1048576) (u.total - get_or counts 21 0) m).model ≡ (ticked ticks ticks (u.run.before + done) m).model =
      rw (u.left, start_is) in
      u.runs.later_model f.numbers r.state (under-way u) (omega (arith, u.left, u.runs.low)) ∙ (moved ∙ sym (ap (λ (t : Ticks). t.model) cut))

  pub answer-after : answer_after u.run done p ++ joined reports ≡ answer_after u.run (done + ticks) p
  answer-after =
      let before = (ticked done done u.run.before p.replay.state.model).texts in
      append_assoc (joined u.run.head) (joined before) (joined reports)
      ∙ ap (λ (x : List ℕ). joined u.run.head ++ x) (sym (ap (λ (t : Texts). joined t) (ap (λ (t : Ticks). t.texts) cut) ∙ joined-append before reports))

  pub piece_is : piece ≡ joined reports ++ joined (end_texts over)
  piece_is = joined-append reports (end_texts over)

  -- ---- a check or not

  pub told-check : get_or told.counts 14 0 ≡ get_or (head_counts p) 14 0
  told-check = get_or-set_other counts 21 14 over 0 (λ e. omega arith) ∙ check-same u

  pub own_open : eqb (get_or (head_counts p) 14 0) 0 ≡ true → own ≡ u.own ++ piece
  unfolding shown_answer
  own_open outside = rw (told-check, outside)

  pub own-checked : eqb (get_or (head_counts p) 14 0) 0 ≡ false → own ≡ briefly (answer_after u.run done p ++ piece)
  unfolding shown_answer
  own-checked inside =
      rw (told-check, inside) (ap (λ (x : List ℕ). briefly (x ++ piece)) (u.checked inside).kept ∙ briefly-parts (answer_after u.run done p) piece)

  -- ---- the counts

  ticks-elsewhere : (c : List ℕ) (v : ℕ) → elsewhere 0 0 0 0 (set c 21 v) ≡ set (elsewhere 0 0 0 0 c) 21 v
  ticks-elsewhere c v =
      rw (set_comm c 21 0 v 0 (λ e. omega arith), set_comm (set c 0 0) 21 12 v 0 (λ e. omega arith), set_comm (set (set c 0 0) 12 0) 21 13 v 0 (λ e. omega arith), set_comm (set (set (set c 0 0) 12 0) 13 0) 21 20 v 0 (λ e. omega arith))

  pub told-elsewhere : elsewhere 0 0 0 0 told.counts ≡ elsewhere 0 0 0 0 (set (call_counted 0 u.run.counts) 21 over)
  told-elsewhere =
      let x = call_counted 0 u.run.counts in
      ticks-elsewhere counts over
      ∙ (ap (λ (c : List ℕ). set c 21 over) (u.counts ∙ ticks-elsewhere x left)
      ∙ (set-set (elsewhere 0 0 0 0 x) 21 left over ∙ sym (ticks-elsewhere x over)))
