-- "N single ticks": what a line of ticks tells in a replay, and the model that it leaves, are those of its ticks one by one. Assumes nothing.
use Prim.Native.Nat.{ℕ, ◌+◌, ◌-◌, ◌<◌}
use mathlib.Core.Bool.{Bool, true, false}
use mathlib.Core.List.{List, [], ◌∷◌, ◌++◌, append-nil}
use mathlib.Core.Path.{◌≡◌, refl, sym, ap, subst, ◌∙◌}
use native.Mathlib.Omega.{arith}
use lib.Dec.{eqb, ltb}
use lib.ListN.{get_or}
use borrow.Author.Tests.{eqb-true, eqb-false, ltb-false}
use Rattle.unit.proofs.Cases.{by-test}
use Rattle.numeral.specs.Place.{joined}
use Rattle.device.specs.declared.Model.{Model}
use Rattle.device.specs.Model.{is_sound}
use Rattle.line.specs.declared.Content.{Content}
use Rattle.line_buffer.specs.Lines.{each_line}
use Rattle.numeral.specs.Ascii.{ascii}
use Rattle.wording.specs.Wording.{line_feed, numbered}
use Rattle.item_calls.specs.Lines.{call_line, beside, tick_line, single_line, told}
use Rattle.item_checks.specs.Fault.{is_past_or_full, is_fault, left_of}
use Rattle.item_checks.specs.Open.{is_item}
use Rattle.answer_text.specs.Texts.{call_told, told_of_tick, told_of_single, question_told, analysis_told}
use Rattle.answer_text.specs.Line.{line_told}
use Rattle.session.specs.Line.{State, line_done, with_log}
use Rattle.line_text.specs.Text.{head_of, bare, fault_told, item_told}
use Rattle.tick_parts.specs.Singly.{singly}
use Rattle.tick_parts.proofs.Singly.{ticks-singly, single-line-singly}
use Rattle.replay_text.specs.Replay.{TickLine, tick_lines, ticks_told, ticks_done, told_by, done_by, opening, own_whole, done_whole, Page, content_page, page_line, first_page}
use Rattle.replay_text.specs.LastLine.{counts_of, read_on, line_own, is_bad}
use Rattle.replay_text.proofs.Reading.{tick-bounded, at-bounded}
use Rattle.replay_text.proofs.Runs.{tick_run, at_run}
use Rattle.replay_text.proofs.Counts.{begun-alike}
use Rattle.replay_text.proofs.Order.{InOrder, order-first, order-lines}

-- ---- one line of ticks

module _ (t : TickLine) (few : t.before + t.ticks < 4294967296) where
  told-singly : (m : Model) → is_sound m ≡ true
      → (ticks_told t m).texts ≡ t.head ++ ((singly t.ticks t.before m).texts ++ (line_feed ∷ []))
  unfolding ticks_told
  told-singly m sound = rw (ticks-singly t.ticks t.before m sound few)

  done-singly : (s : State) → is_sound s.model ≡ true → (ticks_done t s).model ≡ (singly t.ticks t.before s.model).model
  unfolding ticks_done
  done-singly s sound = rw (ticks-singly t.ticks t.before s.model sound few)

module _ (s : State) (c : List ℕ) (sound : is_sound s.model ≡ true) where
  abbrev held : State
  held = with_log s record { counts = c; answers = [] }

  single-told : (numbers : List ℕ) → joined (line_told (Content.Tick 1) numbers (bare s c) s.differences s.probes).texts
      ≡ joined (numbered (ascii "tick ") 1 ++ ((singly 1 0 s.model).texts ++ (line_feed ∷ [])))
  unfolding line_told call_told told_of_tick told_of_single question_told analysis_told
  single-told numbers =
      let t = (told_of_single s.model c).texts in
      ap joined (append-nil (t ++ []) ∙ append-nil t) ∙ single-line-singly s.model sound

  single-done : (numbers : List ℕ) → (line_done (Content.Tick 1) numbers held).model ≡ (singly 1 0 s.model).model
  unfolding line_done call_line beside tick_line single_line told singly
  single-done numbers = refl

  tick-told : (n : ℕ) → n < 4294967296 → (line numbers names : List ℕ)
      → joined (own_whole (Content.Tick n) line numbers names s c).texts
      ≡ joined (numbered (ascii "tick ") n ++ ((singly n 0 s.model).texts ++ (line_feed ∷ [])))
  unfolding own_whole opening fault_told left_of is_fault is_past_or_full item_told is_item told_by tick_lines
  tick-told n few line numbers names =
      by-test (eqb n 1)
      (λ one. rw one (subst (λ (k : ℕ). joined (line_told (Content.Tick k) numbers (bare s c) s.differences s.probes).texts
      ≡ joined (numbered (ascii "tick ") k ++ ((singly k 0 s.model).texts ++ (line_feed ∷ [])))) (sym (eqb-true n 1 one)) (single-told numbers)))
      (λ more. rw more (ap joined (told-singly (tick_run n (eqb-false n 1 more) c) (omega (arith, few)) s.model sound)))

  tick-done : (n : ℕ) → n < 4294967296 → (line numbers names : List ℕ)
      → (done_whole (Content.Tick n) line numbers names s c).model ≡ (singly n 0 s.model).model
  unfolding done_whole opening fault_told left_of is_fault is_past_or_full item_told is_item done_by tick_lines
  tick-done n few line numbers names =
      by-test (eqb n 1)
      (λ one. rw one (subst (λ (k : ℕ). (line_done (Content.Tick k) numbers held).model ≡ (singly k 0 s.model).model) (sym (eqb-true n 1 one)) (single-done numbers)))
      (λ more. rw more (done-singly (tick_run n (eqb-false n 1 more) c) (omega (arith, few)) held sound))

  module _ (t : ℕ) (few : t < 4294967296) (ahead : ltb t (get_or c 9 0) ≡ false) (line numbers names : List ℕ) where
    passed : t - (t - get_or c 9 0) ≡ get_or c 9 0
    passed = omega (arith, ltb-false t (get_or c 9 0) ahead)

    at_told : joined (own_whole (Content.At t) line numbers names s c).texts
        ≡ joined (numbered (ascii "at ") t ++ ((singly (t - get_or c 9 0) (get_or c 9 0) s.model).texts ++ (line_feed ∷ [])))
    unfolding own_whole opening fault_told left_of is_fault is_past_or_full item_told is_item told_by tick_lines
    at_told =
        rw ahead
        (ap joined (told-singly (at_run t c) (omega (arith, few)) s.model sound)
        ∙ ap (λ (k : ℕ). joined (numbered (ascii "at ") t ++ ((singly (t - get_or c 9 0) k s.model).texts ++ (line_feed ∷ [])))) passed)

    at_done : (done_whole (Content.At t) line numbers names s c).model ≡ (singly (t - get_or c 9 0) (get_or c 9 0) s.model).model
    unfolding done_whole opening fault_told left_of is_fault is_past_or_full item_told is_item done_by tick_lines
    at_done =
        rw ahead
        (done-singly (at_run t c) (omega (arith, few)) held sound
        ∙ ap (λ (k : ℕ). (singly (t - get_or c 9 0) k s.model).model) passed)

-- ---- a line of a text

-- Behind any lines of a text:
module _ (path : List ℕ) (check : Bool) (before : List (List ℕ)) (line : List ℕ) where
  abbrev page : Page
  page = each_line page_line before (first_page path check)

  abbrev model : Model
  model = page.replay.state.model

  order : InOrder page
  order = order-lines before (first_page path check) (order-first path check)

  -- "`tick N`, then ` WHAT@I` for each thing that the I-th of these ticks reported"
  pub tick-line-singly : (n : ℕ) → (read_on line page).content ≡ Content.Tick n
      → (joined (line_own line page).texts ≡ joined (numbered (ascii "tick ") n ++ ((singly n 0 model).texts ++ (line_feed ∷ []))))
      × ((page_line line page).replay.state.model ≡ (singly n 0 model).model)
  unfolding line_own page_line content_page
  tick-line-singly n is =
      let few : n < 4294967296 = omega (arith, tick-bounded page.numbers line n is) in
      let h = (head_of page.replay).counts in
      let numbers = (read_on line page).numbers in
      rw is (
        tick-told page.replay.state h order.sound n few line numbers page.replay.names,
        tick-done page.replay.state h order.sound n few line numbers page.replay.names,
      )

  -- "single ticks until T ticks .. have passed": "`at T`, then ` WHAT@J` for each report, J in the same count", count 9 being those that have
  -- passed
  pub at-line-singly : (t : ℕ) → (read_on line page).content ≡ Content.At t → is_bad line page ≡ false
      → let passed = get_or (counts_of page) 9 0 in
      (joined (line_own line page).texts ≡ joined (numbered (ascii "at ") t ++ ((singly (t - passed) passed model).texts ++ (line_feed ∷ []))))
      × ((page_line line page).replay.state.model ≡ (singly (t - passed) passed model).model)
  unfolding line_own page_line content_page is_bad is_fault is_past_or_full
  at-line-singly t is good =
      let few : t < 4294967296 = omega (arith, at-bounded page.numbers line t is) in
      let h = (head_of page.replay).counts in
      let numbers = (read_on line page).numbers in
      let nine : get_or h 9 0 ≡ get_or (counts_of page) 9 0 = sym ((begun-alike page.replay.names (counts_of page) order.long).each 9 refl) in
      let ahead : ltb t (get_or h 9 0) ≡ false = rw nine (rw is at good) in
      rw (is, ← nine) (
        at_told page.replay.state h order.sound t few ahead line numbers page.replay.names,
        at_done page.replay.state h order.sound t few ahead line numbers page.replay.names,
      )
