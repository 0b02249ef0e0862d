-- A line leaves on the page its head and its own answer, before what it expects is looked at. Assumes nothing.
use Prim.Native.Nat.{ℕ, ◌≤◌, ◌<◌}
use mathlib.Core.Path.{◌≡◌, sym, ap, subst, ◌∙◌}
use mathlib.Core.List.{List, [], ◌++◌, append_assoc}
use native.Mathlib.Omega.{arith}
use lib.ListN.{length, get_or, length-set}
use lib.Seq.{set-get_or, get_or-set_other}
use borrow.Author.Tests.{eq-eqb, ne_eqb}
use Rattle.numeral.specs.Place.{no_room}
use Rattle.listing.proofs.Meaning.{Fit}
use Rattle.line.specs.declared.Content.{Content}
use Rattle.item_state.specs.Log.{Log, put}
use Rattle.item_calls.specs.Lines.{WithFlash}
use Rattle.item_checks.specs.Fault.{left_of, fault_log}
use Rattle.item_checks.specs.Open.{begun, opened}
use Rattle.item_checks.specs.Close.{kept_briefly, closed}
use Rattle.answer_text.specs.Texts.{Told, on_page, HasRoom, behind}
use Rattle.answer_text.specs.Line.{beside, line_told}
use Rattle.answer_text.proofs.Page.{page-long, room-first, room-second}
use Rattle.answer_text.proofs.Aside.{Apart, page-counts, page-behind}
use Rattle.answer_text.proofs.Analysis.{Listable}
use Rattle.answer_text.proofs.Calls.{call-model}
use Rattle.answer_text.proofs.Line.{line-page, line-aside, line_kept}
use Rattle.session.specs.Line.{State, with_flash, line_done, Replay, with_log, line_begun, line_ended, content_answered}
use Rattle.line_text.specs.Text.{fault_told, item_told, names_after, bare, own_told, head_of, own_of}
use Rattle.line_text.proofs.Close.{briefly-count}
use Rattle.line_text.proofs.Told.{begun-long, begun-page, left-set, fault-page, fault-aside, item-page, item-aside, item-names}

-- ---- what is told of the model goes by no answers

module _ (content : Content) (numbers : List ℕ) (s : State) where
  abbrev tell : List ℕ → Told
  tell counts = line_told content numbers (bare s counts) s.differences s.probes

  pub tell-aside : Apart tell
  tell-aside counts place = line-aside content numbers (bare s counts) s.differences s.probes place []

  pub tell-any : (l : Log) → line_told content numbers record { model = s.model; flash = s.flash; log = l } s.differences s.probes ≡ tell l.counts
  tell-any l =
      let place = get_or l.counts 0 0 in
      let w : WithFlash = record { model = s.model; flash = s.flash; log = l } in
      let there = rw (set-get_or l.counts 0 0) at (line-aside content numbers w s.differences s.probes place []).same in
      let here = rw (set-get_or l.counts 0 0) at (line-aside content numbers w s.differences s.probes place l.answers).same in
      here ∙ sym there

-- ---- one behind the other

behind-all : (head : Told) (f i t : List ℕ → Told)
    → behind (behind (behind head f) i) t
    ≡ record { texts = head.texts ++ (behind (behind (f head.counts) i) t).texts; counts = (behind (behind (f head.counts) i) t).counts }
behind-all head f i t =
    let one = f head.counts in
    let two = i one.counts in
    let three = t two.counts in
    rw (append_assoc (head.texts ++ one.texts) two.texts three.texts, append_assoc head.texts one.texts (two.texts ++ three.texts), append_assoc one.texts two.texts three.texts)

-- A line that is not under way any more is closed.
pub page-left : (told : Told) (l : Log) → get_or (on_page told l).counts 21 0 ≡ get_or told.counts 21 0
unfolding on_page
page-left told l = get_or-set_other told.counts 0 21 _ 0 (λ e. omega arith)

ended-whole : (expected : List (List ℕ)) (names : List ℕ) (told : Told) (l : Log) → get_or told.counts 21 0 ≡ 0
    → line_ended expected names (on_page told l) ≡ closed expected names (kept_briefly (on_page told l))
unfolding line_ended
ended-whole expected names told l after =
    rw (eq-eqb (get_or (kept_briefly (on_page told l)).counts 21 0) 0 (briefly-count (on_page told l) 21 (λ e. omega arith) ∙ (page-left told l ∙ after)))

ended-part : (expected : List (List ℕ)) (names : List ℕ) (told : Told) (l : Log) → (get_or told.counts 21 0 ≡ 0 → ⊥)
    → line_ended expected names (on_page told l) ≡ kept_briefly (on_page told l)
unfolding line_ended
ended-part expected names told l more =
    rw (ne_eqb (get_or (kept_briefly (on_page told l)).counts 21 0) 0 (λ e. more (sym (briefly-count (on_page told l) 21 (λ k. omega arith) ∙ page-left told l) ∙ e)))

-- ---- a line, before it is closed

module _ (content : Content) (text numbers : List ℕ) (r : Replay) where
  abbrev log : Log
  log = r.state.log

  abbrev pub left : Content
  left = left_of content (head_of r).counts

  abbrev pub opening : Told
  opening = behind (behind (head_of r) (fault_told content)) (item_told left text r.names)

  -- the head, and the line's own answer
  abbrev pub whole : Told
  whole = record { texts = (head_of r).texts ++ (own_of content text numbers r).texts; counts = (own_of content text numbers r).counts }

  pub whole_is : behind opening (tell left numbers r.state) ≡ whole
  unfolding own_told
  whole_is = behind-all (head_of r) (fault_told content) (item_told left text r.names) (tell left numbers r.state)

  module _ (some : 0 < length log.counts) (room : HasRoom whole log) where
    head-some : 0 < length (head_of r).counts
    head-some = omega (arith, begun-long r.names log.counts)

    fault-some : 0 < length (behind (head_of r) (fault_told content)).counts
    fault-some = omega (arith, (fault-aside content (head_of r).counts 0).long, begun-long r.names log.counts)

    opening-some : 0 < length opening.counts
    opening-some = omega (arith, fault-some, (item-aside left text r.names (behind (head_of r) (fault_told content)).counts 0).long)

    head-room : HasRoom (head_of r) log
    head-room = room-first (head_of r) (own_of content text numbers r) log room

    begun-left : left_of content (begun r.names log).counts ≡ left
    unfolding on_page
    begun-left = rw (begun-page r.names log some head-room) (left-set content (head_of r).counts _)

    fault-there : fault_log content (begun r.names log) ≡ on_page (behind (head_of r) (fault_told content)) log
    fault-there =
        rw (begun-page r.names log some head-room)
        (fault-page content (on_page (head_of r) log) ∙ page-behind (head_of r) (fault_told content) log head-some (fault-aside content))

    -- What stands before the line's own answer is on the page.
    pub opened-page : opened content text r.names log ≡ record { content = left; names = names_after left text r.names; log = on_page opening log }
    unfolding opened
    opened-page =
        let first = behind (head_of r) (fault_told content) in
        rw (begun-left, fault-there, item-names left text r.names (on_page first log), item-page left text r.names (on_page first log), page-behind first (item_told left text r.names) log fault-some (item-aside left text r.names))

    -- the same with no buffer
    abbrev pub plain : State
    plain = with_log r.state record { counts = opening.counts; answers = [] }

    -- What a line leaves beside counts and answers goes by no buffer.
    done_plain : ((line_done left numbers (with_log r.state (on_page opening log))).model ≡ (line_done left numbers plain).model)
        × ((line_done left numbers (with_log r.state (on_page opening log))).flash ≡ (line_done left numbers plain).flash)
        × ((line_done left numbers (with_log r.state (on_page opening log))).differences ≡ (line_done left numbers plain).differences)
        × ((line_done left numbers (with_log r.state (on_page opening log))).probes ≡ (line_done left numbers plain).probes)
    unfolding line_done on_page
    done_plain =
        let next = (put opening.texts log).next in
        let bytes = (put opening.texts log).bytes in
        let moved = call-model left numbers (with_flash plain) next bytes in
        let kept = line_kept left numbers (with_flash plain) r.state.differences r.state.probes next bytes opening-some in
        (moved.0, moved.1, kept.0, kept.1)

    module _ (expected : List (List ℕ)) (before : get_or log.counts 21 0 ≡ 0) where
      abbrev answered : Replay
      answered = content_answered content expected text numbers r

      state-page : answered.state ≡ with_log (line_done left numbers (with_log r.state (on_page opening log))) answered.state.log
      unfolding content_answered line_begun
      state-page = rw (eq-eqb (get_or log.counts 21 0) 0 before, opened-page)

      pub names-page : answered.names ≡ names_after left text r.names
      unfolding content_answered line_begun
      names-page = rw (eq-eqb (get_or log.counts 21 0) 0 before, opened-page)

      pub model-page : answered.state.model ≡ (line_done left numbers plain).model
      model-page = ap (λ (s : State). s.model) state-page ∙ done_plain.0

      pub flash-page : answered.state.flash ≡ (line_done left numbers plain).flash
      flash-page = ap (λ (s : State). s.flash) state-page ∙ done_plain.1

      pub differences-page : answered.state.differences ≡ (line_done left numbers plain).differences
      differences-page = ap (λ (s : State). s.differences) state-page ∙ done_plain.2

      pub probes-page : answered.state.probes ≡ (line_done left numbers plain).probes
      probes-page = ap (λ (s : State). s.probes) state-page ∙ done_plain.3

    module _ (small : length log.answers ≤ no_room) (fit : Fit r.state.differences) where
      abbrev there : State
      there = with_log r.state (on_page opening log)

      room-there : HasRoom (behind opening (tell left numbers r.state)) log
      room-there = subst (λ (t : Told). HasRoom t log) (sym whole_is) room

      can : Listable left (line_told left numbers (with_flash there) r.state.differences r.state.probes) (beside r.state.differences r.state.probes (on_page opening log))
      can = record {
        room = λ h. rw (tell-any left numbers r.state (on_page opening log), page-counts opening log (tell left numbers r.state) (tell-aside left numbers r.state))
            (room-second opening (tell left numbers r.state opening.counts) log opening-some room-there);
        small = λ h. rw (page-long opening log) small;
        fit = λ h. fit;
      }

      page-some' : 0 < length (on_page opening log).counts
      unfolding on_page
      page-some' = rw length-set opening-some

      pub done-page : (line_done left numbers there).log ≡ on_page whole log
      unfolding line_done
      done-page =
          line-page left numbers (with_flash there) r.state.differences r.state.probes page-some' can
          ∙ (ap (λ (t : Told). on_page t (on_page opening log)) (tell-any left numbers r.state (on_page opening log))
          ∙ (page-behind opening (tell left numbers r.state) log opening-some (tell-aside left numbers r.state) ∙ ap (λ (t : Told). on_page t log) whole_is))

      -- A line that is answered whole is closed with its head and its own answer on the page, which a check keeps briefly.
      pub whole-page : (expected : List (List ℕ)) → get_or log.counts 21 0 ≡ 0 → get_or (own_of content text numbers r).counts 21 0 ≡ 0
          → (content_answered content expected text numbers r).state.log ≡ closed expected (names_after left text r.names) (kept_briefly (on_page whole log))
      unfolding content_answered line_begun
      whole-page expected before after =
          rw (eq-eqb (get_or log.counts 21 0) 0 before, opened-page, done-page) (ended-whole expected (names_after left text r.names) whole log after)

      -- One that is under way behind its first part is not closed.
      pub under-page : (expected : List (List ℕ)) → get_or log.counts 21 0 ≡ 0 → (get_or (own_of content text numbers r).counts 21 0 ≡ 0 → ⊥)
          → (content_answered content expected text numbers r).state.log ≡ kept_briefly (on_page whole log)
      unfolding content_answered line_begun
      under-page expected before after =
          rw (eq-eqb (get_or log.counts 21 0) 0 before, opened-page, done-page) (ended-part expected (names_after left text r.names) whole log after)
