-- Answers that are written within a line of ticks. Assumes nothing.
use Prim.Native.Nat.{ℕ, ◌+◌, ◌-◌, ◌*◌, ◌≤◌, ◌<◌, min}
use mathlib.Core.Bool.{Bool, true, false, cond, true≢false}
use mathlib.Core.List.{List, [], ◌∷◌, ◌++◌, append-nil, append_assoc}
use mathlib.Core.Logic.{◌⊎◌, ⊎_elim, inl, inr}
use mathlib.Core.Path.{◌≡◌, refl, sym, ap, subst, ◌∙◌}
use native.Mathlib.Omega.{arith}
use lib.Dec.{eqb, ltb}
use lib.ListN.{length, get_or, set, take, drop, length-append, length-set, length-take, drop_of_length-le}
use lib.Seq.{get_or-set_same, get_or-set_other, length-take-le, drop_at, take-take, take-append-add}
use borrow.Author.Tests.{ne_eqb, ltb-true, ltb-false}
use Rattle.unit.proofs.Cases.{by-test}
use Rattle.numeral.specs.Place.{joined}
use Rattle.item_state.specs.Log.{Log, added, call_counted}
use Rattle.item_checks.specs.Open.{line_counted}
use Rattle.item_calls.specs.Lines.{ticked}
use Rattle.answer_text.specs.Texts.{Told, silent, asked}
use Rattle.answer_length.proofs.Sizes.{size-joined}
use Rattle.wording.specs.Wording.{place}
use Rattle.session.specs.Feed.{Fed}
use Rattle.session.specs.Flush.{is_long, written_to, written_now, kept_to, after_writing}
use Rattle.line_text.specs.Text.{head_told, begun_told, head_of, elsewhere}
use Rattle.line_text.proofs.Apart.{count-elsewhere}
use Rattle.line_text.proofs.Close.{Stands}
use Rattle.line_room.specs.Form.{InForm}
use Rattle.line_room.proofs.Room.{begun-size}
use Rattle.tick_parts.specs.Kept.{Startable}
use Rattle.tick_parts.proofs.Feedless.{ticked-feedless}
use Rattle.tick_parts.proofs.Early.{start-again}
use Rattle.item_checks.proofs.Briefly.{briefly-length}
use Rattle.replay_text.specs.Replay.{Page}
use Rattle.session.specs.Turns.{flushed}
use Rattle.replay_text.proofs.Runs.{called-check}
use Rattle.replay_text.proofs.Sim.{counts_of, counting, counting-form, ends-elsewhere, written-elsewhere, Opened, Checked, Under, head_counts, answer_after}

-- ---- the head of a line

-- Outside a check it has no text.
head-counts : (names counts : List ℕ) → get_or (head_told names counts).counts 14 0 ≡ get_or counts 14 0
unfolding head_told
head-counts names counts = by-test (eqb (get_or counts 14 0) 0) (λ e. rw e) (λ e. rw e (get_or-set_other counts 19 14 _ 0 (λ k. omega arith)))

pub head-check : (names counts : List ℕ) → get_or (begun_told names counts).counts 14 0 ≡ get_or (line_counted counts) 14 0
unfolding begun_told
head-check names counts =
    let head = head_told names (line_counted counts) in
    get_or-set_other head.counts 20 14 (get_or counts 0 0 + length (joined head.texts)) 0 (λ e. omega arith) ∙ head-counts names (line_counted counts)

pub head-none : (names counts : List ℕ) → eqb (get_or (begun_told names counts).counts 14 0) 0 ≡ true → joined (begun_told names counts).texts ≡ []
unfolding begun_told head_told joined
head-none names counts outside =
    let here = rw (head-check names counts) at outside in rw here

-- ---- the counts

module _ {w : List ℕ} {f : Fed} {p : Page} (u : Under w f p) where
  abbrev counts : List ℕ
  counts = counts_of f

  abbrev log : Log
  log = f.replay.state.log

  abbrev head : List ℕ
  head = joined (head_of p.replay).texts

  -- It is a check where the definition's page is of one.
  pub check-same : get_or counts 14 0 ≡ get_or (head_counts p) 14 0
  check-same =
      let told = set (call_counted 0 u.run.counts) 21 (u.run.ticks - 1048576 * u.parts) in
      sym (count-elsewhere 0 0 0 0 counts 14 (λ e. omega arith) (λ e. omega arith) (λ e. omega arith) (λ e. omega arith))
      ∙ (ap (λ (c : List ℕ). get_or c 14 0) u.counts
      ∙ (count-elsewhere 0 0 0 0 told 14 (λ e. omega arith) (λ e. omega arith) (λ e. omega arith) (λ e. omega arith)
      ∙ (get_or-set_other (call_counted 0 u.run.counts) 21 14 _ 0 (λ e. omega arith) ∙ (called-check 0 u.run.counts ∙ u.runs.check))))

  pub under-way : get_or counts 21 0 ≡ 0 → ⊥
  under-way none = omega (arith, u.left, u.more)

  nothing : drop (get_or counts 13 0) (take (get_or counts 13 0) log.answers) ≡ []
  nothing = drop_of_length-le (take (get_or counts 13 0) log.answers) {i = get_or counts 13 0} (omega (arith, length-take (get_or counts 13 0) log.answers))

  -- ---- nothing is written

  stays : w ++ [] ≡ w
  stays = append-nil w

  head-short : length head ≤ 5143
  head-short =
      omega (arith, size-joined (head_of p.replay).texts, begun-size p.replay.names p.replay.state.log.counts, ap length u.names, u.form.names)

  check-used : eqb (get_or (head_counts p) 14 0) 0 ≡ false → get_or counts 0 0 ≤ 70680
  check-used inside =
      let c = u.checked inside in
      omega (arith, u.stands.ends, u.short, head-short, ap length c.kept, briefly-length (answer_after u.run (1048576 * u.parts) p))

  -- ---- the start of a long answer is written

  module _ (outside : eqb (get_or (head_counts p) 14 0) 0 ≡ true) where
    abbrev o : Opened w u.base u.own (answer_after u.run (1048576 * u.parts) p) p.text (get_or counts 13 0)
    o = u.open' outside

    no-head : head ≡ []
    no-head = head-none p.replay.names p.replay.state.log.counts outside

    body_is : get_or counts 20 0 ≡ length u.base
    body_is = omega (arith, u.stands.body, ap length no-head)

    used-is : get_or counts 0 0 ≡ length u.base + length u.own
    used-is = omega (arith, u.stands.ends, ap length no-head)

    short-used : ltb (min (get_or counts 20 0 + 16384) 18446744073709551615) (get_or counts 0 0) ≡ false → get_or counts 0 0 ≤ 70680
    short-used e = omega (arith, ltb-false (min (get_or counts 20 0 + 16384) 18446744073709551615) (get_or counts 0 0) e, body_is, u.short)

    module _ (long : ltb (min (get_or counts 20 0 + 16384) 18446744073709551615) (get_or counts 0 0) ≡ true) where
      own-long : 16384 < length u.own
      own-long = omega (arith, ltb-true (min (get_or counts 20 0 + 16384) 18446744073709551615) (get_or counts 0 0) long, body_is, used-is, u.short)

      abbrev gone : List ℕ
      gone = o.gone ++ o.rest

      gone_long : 2048 ≤ length gone
      gone_long = ⊎_elim (λ none. omega (arith, own-long, ap length o.kept, length-append (take 2048 o.gone) o.rest, length-append o.gone o.rest, length-take 2048 o.gone))
          (λ some. omega (arith, length-append o.gone o.rest))
          o.long

      abbrev kept : ℕ
      kept = kept_to counts

      kept-is : kept ≡ length u.base + 2048
      unfolding kept_to
      kept-is = omega (arith, body_is, u.short)

      own-start : take 2048 u.own ≡ take 2048 gone
      own-start = ap (take 2048) o.kept ∙ start-again 2048 o.gone o.rest

      start-long : length (take 2048 gone) ≡ 2048
      start-long = length-take-le 2048 gone gone_long

      buffer : take (get_or counts 0 0) log.answers ≡ u.base ++ u.own
      buffer = u.stands.text ∙ rw no-head

      abbrev after : List ℕ
      after = set (set counts 0 kept) 13 kept

      after-used : get_or after 0 0 ≡ kept
      after-used = get_or-set_other (set counts 0 kept) 13 0 kept 0 (λ e. omega arith) ∙ get_or-set_same counts 0 kept 0 (omega (arith, u.form.counts))

      after-written : get_or after 13 0 ≡ kept
      after-written = get_or-set_same (set counts 0 kept) 13 kept 0 (omega (arith, u.form.counts, length-set counts 0 kept))

      after-other : (k : ℕ) → (k ≡ 0 → ⊥) → (k ≡ 13 → ⊥) → get_or after k 0 ≡ get_or counts k 0
      after-other k a b = get_or-set_other (set counts 0 kept) 13 k kept 0 b ∙ get_or-set_other counts 0 k kept 0 a

      after_text : take kept log.answers ≡ u.base ++ take 2048 gone
      after_text =
          sym (take-take kept (get_or counts 0 0) log.answers (omega (arith, kept-is, used-is, own-long)))
          ∙ (ap (take kept) buffer ∙ (ap (λ (n : ℕ). take n (u.base ++ u.own)) kept-is ∙ (take-append-add u.base u.own 2048 ∙ ap (λ (x : List ℕ). u.base ++ x) own-start)))

      after-stands : Stands u.base head (take 2048 gone ++ []) record { counts = after; answers = log.answers }
      after-stands = record {
        text = rw (after-used, no-head, append-nil (take 2048 gone)) after_text;
        ends = after-used ∙ (kept-is ∙ omega (arith, ap length no-head, start-long, ap length (append-nil (take 2048 gone))));
        body = after-other 20 (λ e. omega arith) (λ e. omega arith) ∙ u.stands.body;
        start = after-other 12 (λ e. omega arith) (λ e. omega arith) ∙ u.stands.start;
      }

      abbrev written : List ℕ
      written = drop (get_or counts 13 0) (take (get_or counts 0 0) log.answers)

      written_is : w ++ written ≡ p.text ++ gone
      written_is =
          ap (λ (x : List ℕ). w ++ drop (get_or counts 13 0) x) (buffer ∙ ap (λ (x : List ℕ). u.base ++ x) o.kept) ∙ o.stream o.rest

      after-stream : (more : List ℕ) → (w ++ written) ++ drop kept (u.base ++ (take 2048 gone ++ more)) ≡ p.text ++ (gone ++ more)
      after-stream more =
          let start = u.base ++ take 2048 gone in
          let there : drop kept (u.base ++ (take 2048 gone ++ more)) ≡ more =
          ap (drop kept) (sym (append_assoc u.base (take 2048 gone) more)) ∙ drop_at start more kept (length-append u.base (take 2048 gone) ∙ omega (arith, start-long, kept-is)) in
          rw (there, written_is) (append_assoc p.text gone more)

      after-opened : Opened (w ++ written) u.base (take 2048 gone ++ []) (answer_after u.run (1048576 * u.parts) p) p.text (get_or after 13 0)
      after-opened = record {
        gone = gone;
        rest = [];
        whole = o.whole ∙ sym (append-nil gone);
        kept = refl;
        long = inr gone_long;
        startable = λ expected few.
            subst (Startable expected) o.whole
            (u.runs.starts expected (joined (ticked (1048576 * u.parts) (1048576 * u.parts) u.run.before p.replay.state.model).texts) few (ticked-feedless (1048576 * u.parts) (1048576 * u.parts) u.run.before p.replay.state.model));
        low = omega (arith, after-written, kept-is, start-long);
        stream = rw after-written after-stream;
      }

      pub spilled : Under (w ++ written) record { replay = counting after f.replay; numbers = f.numbers; left = f.left } p × (get_or after 0 0 ≤ 70680)
      spilled = (
        record {
          form = counting-form after f.replay (length-set (set counts 0 kept) 13 kept ∙ (length-set counts 0 kept ∙ u.form.counts)) u.form;
          fits = u.fits;
          some = u.some;
          numbers = u.numbers;
          content = u.content;
          read = u.read;
          good = u.good;
          total = u.total;
          run = u.run;
          runs = u.runs;
          bound = u.bound;
          idle = u.idle;
          parts = u.parts;
          more = u.more;
          left = after-other 21 (λ e. omega arith) (λ e. omega arith) ∙ u.left;
          model = u.model;
          flash = u.flash;
          differences = u.differences;
          probes = u.probes;
          names = u.names;
          counts = written-elsewhere (set counts 0 kept) 0 0 0 0 kept ∙ (ends-elsewhere counts 0 0 0 0 kept ∙ u.counts);
          base = u.base;
          own = take 2048 gone ++ [];
          short = u.short;
          stands = after-stands;
          open' = λ e. after-opened;
          checked = λ e. absurd (true≢false (sym outside ∙ e));
        },
        omega (arith, after-used, kept-is, u.short),
      )

  -- ---- all of it

  abbrev Flushed : Bool → Bool → Type 0
  Flushed outside long =
      let is = cond outside long false in
      Under (w ++ drop (get_or counts 13 0) (take (cond is (get_or counts 0 0) (get_or counts 13 0)) log.answers))
      record { replay = counting (cond is (set (set counts 0 (kept_to counts)) 13 (kept_to counts)) counts) f.replay; numbers = f.numbers; left = f.left } p
      × (get_or (cond is (set (set counts 0 (kept_to counts)) 13 (kept_to counts)) counts) 0 0 ≤ 70680)

  unwritten : get_or counts 0 0 ≤ 70680 → Under (w ++ drop (get_or counts 13 0) (take (get_or counts 13 0) log.answers)) f p × (get_or counts 0 0 ≤ 70680)
  unwritten low = (subst (λ (x : List ℕ). Under x f p) (sym (ap (λ (x : List ℕ). w ++ x) nothing ∙ stays)) u, low)

  by_cases : (outside : Bool) → eqb (get_or (head_counts p) 14 0) 0 ≡ outside → (long : Bool)
      → ltb (min (get_or counts 20 0 + 16384) 18446744073709551615) (get_or counts 0 0) ≡ long → Flushed outside long
  by_cases true a true b = spilled a b
  by_cases true a false b = unwritten (short-used a b)
  by_cases false a long b = unwritten (check-used a)

  pub under-flushed : Under (w ++ written_now log) (flushed f) p × (get_or (counts_of (flushed f)) 0 0 ≤ 70680)
  unfolding flushed after_writing written_now written_to is_long
  under-flushed =
      rw (ne_eqb (get_or counts 21 0) 0 under-way, check-same)
      (by_cases (eqb (get_or (head_counts p) 14 0) 0) refl (ltb (min (get_or counts 20 0 + 16384) 18446744073709551615) (get_or counts 0 0)) refl)
