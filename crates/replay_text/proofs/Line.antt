-- A line that is answered in one turn adds to the page what the definition adds. Assumes nothing.
use Prim.Native.Nat.{ℕ, ◌+◌, ◌-◌, ◌*◌, ◌≤◌, ◌<◌}
use mathlib.Core.Bool.{Bool, true, false, cond}
use mathlib.Core.List.{List, [], ◌∷◌, ◌++◌, append_assoc}
use mathlib.Core.Path.{◌≡◌, refl, sym, ap, subst, ◌∙◌}
use native.Mathlib.Omega.{arith}
use lib.Dec.{eqb}
use lib.ListN.{length, get_or, set, take, drop, length-set}
use lib.Seq.{get_or-set_same, get_or-set_other, length-take-le, drop-append-le}
use borrow.Author.Tests.{eq-eqb}
use Rattle.numeral.specs.Place.{joined}
use Rattle.line.specs.declared.Content.{Content}
use Rattle.line.specs.Line.{line_reading}
use Rattle.line_buffer.specs.Lines.{has_line, line_of, behind_line}
use Rattle.item_checks.specs.Fault.{left_of}
use Rattle.item_checks.specs.Close.{expected_of}
use Rattle.answer_text.specs.Texts.{Told, HasRoom, behind}
use Rattle.answer_text.specs.Line.{line_told}
use Rattle.session.specs.Line.{State, line_done, Replay, with_log, content_answered, line_answered}
use Rattle.session.specs.Feed.{Fed, left_behind, line_fed}
use Rattle.line_text.specs.Text.{fault_told, item_told, names_after, bare, own_told, told_text, told_counts, head_of, own_of, line_text, line_counts, elsewhere}
use Rattle.line_text.proofs.Apart.{count-elsewhere}
use Rattle.line_text.proofs.Whole.{whole as whole_told, names-page, model-page, flash-page, differences-page, probes-page}
use Rattle.line_text.proofs.Elsewhere.{rebuffered, text_same, counts_same}
use Rattle.line_text.proofs.Text.{text_of, line_length, Whole, room-told, content-text, content-counts}
use Rattle.line_text.proofs.Kept.{Alike, there, names-there, kept_there}
use Rattle.line_room.specs.Form.{InForm, NumbersFit, ticks_of}
use Rattle.line_room.proofs.Ticks.{second, second-long, second_none, ticks-are, ticks-same, own-after}
use Rattle.line_room.proofs.Numbers.{numbers-kept}
use Rattle.line_room.proofs.Kept.{content-kept}
use Rattle.line_room.proofs.Whole.{whole}
use Rattle.replay_text.specs.Replay.{tick_lines, told_by, done_by, opening, own_whole, done_whole, Page, content_page, page_line}
use Rattle.replay_text.proofs.Short.{told-short, done-short}
use Rattle.replay_text.proofs.Sim.{plain, counts_of, ends-elsewhere, twice-elsewhere, Idle}

-- ---- a line that was read

module _ (content : Content) (expected : List (List ℕ)) (line numbers : List ℕ) (r : Replay) (here : Whole content expected line numbers r)
    (few : ticks_of content r.state.log.counts ≤ 1048576) where
  abbrev counts : List ℕ
  counts = r.state.log.counts

  abbrev r₀ : Replay
  r₀ = plain r

  abbrev after : Replay
  after = content_answered content expected line numbers r

  long₀ : length r₀.state.log.counts ≡ 22
  long₀ = simp length-set here.counts

  none₀ : get_or r₀.state.log.counts 21 0 ≡ 0
  none₀ = count-elsewhere 0 0 0 0 counts 21 (λ e. omega arith) (λ e. omega arith) (λ e. omega arith) (λ e. omega arith) ∙ here.before

  -- the counts behind a bad line's text and an item's name
  abbrev behind₀ : List ℕ
  behind₀ = second content line numbers r₀ long₀ none₀

  ticks-nine : (c : Content) → ticks_of c r₀.state.log.counts ≡ ticks_of c counts
  ticks-nine c = ticks-same c counts r₀.state.log.counts (count-elsewhere 0 0 0 0 counts 9 (λ e. omega arith) (λ e. omega arith) (λ e. omega arith) (λ e. omega arith))

  few₀ : ticks_of (left_of content (head_of r₀).counts) behind₀ ≤ 1048576
  few₀ = rw (ticks-are content line numbers r₀ long₀ none₀, ticks-nine content) few

  -- What the definition tells is what the line tells,
  own_is : own_whole content line numbers r.names r₀.state (head_of r₀).counts ≡ own_of content line numbers r₀
  unfolding own_whole own_told opening
  own_is =
      ap (λ (t : Told). record {
        texts = (behind (fault_told content (head_of r₀).counts) (item_told (left_of content (head_of r₀).counts) line r.names)).texts ++ t.texts;
        counts = t.counts;
      })
      (told-short behind₀ (second-long content line numbers r₀ long₀ none₀) (second_none content line numbers r₀ long₀ none₀) numbers r₀.state (left_of content (head_of r₀).counts) few₀)

  -- and what it leaves is.
  done-is : Alike (done_whole content line numbers r.names r₀.state (head_of r₀).counts) (line_done (left_of content (head_of r₀).counts) numbers (with_log r.state record { counts = behind₀; answers = [] }))
  unfolding done_whole opening
  done-is =
      done-short behind₀ (second-long content line numbers r₀ long₀ none₀) (second_none content line numbers r₀ long₀ none₀) numbers (with_log r.state record { counts = behind₀; answers = [] }) refl
      (left_of content (head_of r₀).counts) few₀

  -- ---- the same line in a buffer that starts empty

  abbrev answers : List ℕ
  answers = r.state.log.answers

  abbrev other : Replay
  other = rebuffered 0 0 0 0 answers r

  room₀ : 0 + line_length content expected line numbers r ≤ length answers
  room₀ = omega (arith, here.room)

  abbrev there₀ : Whole content expected line numbers other
  there₀ = there content expected line numbers r here 0 0 0 0 answers here.small room₀

  some₀ : 0 < length other.state.log.counts
  some₀ = omega (arith, there₀.counts)

  wide₀ : HasRoom (whole_told content line numbers other) other.state.log
  wide₀ = room-told content expected line numbers other there₀

  names-are : after.names ≡ names_after (left_of content (head_of r₀).counts) line r.names
  names-are =
      sym (names-there content expected line numbers r here 0 0 0 0 answers here.small room₀)
      ∙ names-page content line numbers other some₀ wide₀ expected there₀.before

  alike : Alike (content_answered content expected line numbers other).state after.state
  alike = kept_there content expected line numbers r here 0 0 0 0 answers here.small room₀

  abbrev done₀ : State
  done₀ = done_whole content line numbers r.names r₀.state (head_of r₀).counts

  model_is : after.state.model ≡ done₀.model
  model_is = sym alike.model ∙ (model-page content line numbers other some₀ wide₀ expected there₀.before ∙ sym done-is.model)

  flash-is : after.state.flash ≡ done₀.flash
  flash-is = sym alike.flash ∙ (flash-page content line numbers other some₀ wide₀ expected there₀.before ∙ sym done-is.flash)

  differences-is : after.state.differences ≡ done₀.differences
  differences-is = sym alike.differences ∙ (differences-page content line numbers other some₀ wide₀ expected there₀.before ∙ sym done-is.differences)

  probes-is : after.state.probes ≡ done₀.probes
  probes-is = sym alike.probes ∙ (probes-page content line numbers other some₀ wide₀ expected there₀.before ∙ sym done-is.probes)

  -- ---- text and counts

  counts-are : elsewhere 0 0 0 0 after.state.log.counts ≡ elsewhere 0 0 0 0 (told_counts expected (own_of content line numbers r₀))
  unfolding line_counts
  counts-are =
      let mine = line_counts content expected line numbers r in
      let body = 0 + length (joined (head_of r).texts) in
      ap (elsewhere 0 0 0 0) (content-counts content expected line numbers r here)
      ∙ (ends-elsewhere mine 0 0 0 0 (get_or after.state.log.counts 0 0)
      ∙ (sym (twice-elsewhere 0 0 0 0 0 0 0 body mine) ∙ sym (ap (elsewhere 0 0 0 0) (counts_same content expected line numbers r 0 0 0 0 [] here.counts))))

  text-is : text_of after ≡ text_of r ++ told_text expected (names_after (left_of content (head_of r₀).counts) line r.names) (head_of r₀) (own_of content line numbers r₀)
  unfolding line_text
  text-is =
      content-text content expected line numbers r here
      ∙ ap (λ (t : List ℕ). text_of r ++ t) (sym (text_same content expected line numbers r 0 0 0 0 [] here.counts))

  -- The page of the definition behind the line.
  module _ (before numbers₀ : List ℕ) where
    abbrev page : Page
    page = content_page content expected line numbers record { text = before; numbers = numbers₀; replay = r₀ }

    pub page-text : page.text ≡ before ++ told_text expected (names_after (left_of content (head_of r₀).counts) line r.names) (head_of r₀) (own_of content line numbers r₀)
    unfolding content_page
    page-text = rw own_is

    pub page-kept : plain after ≡ page.replay
    unfolding content_page
    page-kept = rw (own_is, ← counts-are, ← names-are, ← model_is, ← flash-is, ← differences-is, ← probes-is)

  pub page-adds : text_of after ≡ text_of r ++ told_text expected (names_after (left_of content (head_of r₀).counts) line r.names) (head_of r₀) (own_of content line numbers r₀)
  page-adds = text-is
