-- A line of ticks that is under way: what one more part of it leaves. Assumes nothing.
use Prim.Native.Nat.{ℕ, ◌+◌, ◌-◌, ◌≤◌, ◌<◌, min}
use mathlib.Core.Path.{◌≡◌, sym, ◌∙◌}
use mathlib.Core.Bool.{Bool, true, false}
use mathlib.Core.List.{List, [], ◌++◌}
use native.Mathlib.Omega.{arith}
use lib.ListN.{length, get_or, take}
use borrow.Author.Tests.{ne_eqb}
use Rattle.numeral.specs.Place.{joined}
use Rattle.device.specs.declared.Model.{Model}
use Rattle.line.specs.declared.Content.{Content}
use Rattle.line.specs.Line.{Bounded}
use Rattle.answer_text.specs.Texts.{Told, on_page, HasRoom, is_listing, told_of_head, told_of_ticks, told_of_tick, told_of_at, call_told, question_told, analysis_told}
use Rattle.answer_text.specs.Line.{line_told}
use Rattle.answer_text.proofs.Page.{page-text}
use Rattle.answer_text.proofs.Line.{line-page, line-aside}
use Rattle.answer_length.specs.Longest.{longest}
use Rattle.answer_length.proofs.Line.{line-size}
use Rattle.session.specs.Line.{with_flash, Replay, with_log, line_done, line_begun, line_ended, content_answered}
use Rattle.line_text.proofs.Text.{text_of}
use Rattle.line_room.specs.Form.{InForm, NumbersFit}
use Rattle.line_room.proofs.Ticks.{part_left}
use Rattle.line_room.proofs.Room.{small_of}

-- ---- what a part tells

module _ (content : Content) (numbers : List ℕ) (r : Replay) (i : InForm r) (f : NumbersFit numbers) (bounded : Bounded content) (short : is_listing content ≡ false) where
  abbrev told : Told
  told = line_told content numbers (with_flash r.state) r.state.differences r.state.probes

  -- The texts of a part, the first or a later one, have at most 28,700 bytes; so have those of any line but a listing.
  pub part-size : length (joined told.texts) ≤ 28700
  part-size =
      let most = line-size numbers (with_flash r.state) r.state.differences r.state.probes (small_of numbers r i f r.state.log) content bounded in
      omega (arith, most, others)
    where
      others : longest content ≡ 28700
      others = unfold longest in rw short

  told-some : 0 < length told.counts
  told-some = omega (arith, (line-aside content numbers (with_flash r.state) r.state.differences r.state.probes 0 []).long, i.counts)

  -- It stands on the page, whatever room there is,
  pub part-page : (line_done content numbers r.state).log ≡ on_page told r.state.log
  unfolding line_done
  part-page =
      let no : is_listing content ≡ true → ⊥ = λ h. let z : ◌≡◌ {A = Bool} true false = sym h ∙ short in let y : ◌≡◌ {A = ℕ} 0 1 = cc in omega arith in
      line-page content numbers (with_flash r.state) r.state.differences r.state.probes (omega (arith, i.counts)) record {
        room = λ h. absurd (no h);
        small = λ h. absurd (no h);
        fit = λ h. absurd (no h);
      }

  -- and there is room for it behind 49,152 bytes.
  pub part_room : get_or r.state.log.counts 0 0 ≤ 49152 → HasRoom told r.state.log
  part_room used = omega (arith, part-size, i.places)

  pub part-adds : get_or r.state.log.counts 0 0 ≤ 49152
      → take (get_or (line_done content numbers r.state).log.counts 0 0) (line_done content numbers r.state).log.answers ≡ text_of r ++ joined told.texts
  part-adds used = rw part-page (page-text told r.state.log (part_room used) told-some)

-- ---- what is left

-- A line that is under way is not begun again: of the line this part is all, and what ends the line.
pub way-is : (content : Content) (expected : List (List ℕ)) (text numbers : List ℕ) (r : Replay) → (get_or r.state.log.counts 21 0 ≡ 0 → ⊥)
    → content_answered content expected text numbers r
    ≡ record {
      state = with_log (line_done content numbers r.state) (line_ended expected r.names (line_done content numbers r.state).log);
      names = r.names;
    }
unfolding content_answered line_begun
way-is content expected text numbers r way = rw (ne_eqb (get_or r.state.log.counts 21 0) 0 way)

module _ (counts : List ℕ) (way : get_or counts 21 0 ≡ 0 → ⊥) (long : 21 < length counts) where
  tick-part : (n : ℕ) (m : Model) → (n ≡ 1 → ⊥) → get_or (told_of_tick n m counts).counts 21 0 ≡ min (get_or counts 21 0) n - 1048576
  unfolding told_of_tick told_of_ticks told_of_head
  tick-part n m many = rw (ne_eqb n 1 many, ne_eqb (get_or counts 21 0) 0 way) (part_left n m counts long ∙ omega arith)

  at_part : (t : ℕ) (m : Model) → get_or (told_of_at t m counts).counts 21 0 ≡ min (get_or counts 21 0) t - 1048576
  unfolding told_of_at told_of_head
  at_part t m = rw (ne_eqb (get_or counts 21 0) 0 way) (part_left t m counts long ∙ omega arith)

-- Each part takes 1,048,576 ticks from count 21, or what is left.
module _ (numbers : List ℕ) (r : Replay) (i : InForm r) (way : get_or r.state.log.counts 21 0 ≡ 0 → ⊥) where
  pub tick-parts : (n : ℕ) → (n ≡ 1 → ⊥)
      → get_or (line_told (Content.Tick n) numbers (with_flash r.state) r.state.differences r.state.probes).counts 21 0
      ≡ min (get_or r.state.log.counts 21 0) n - 1048576
  unfolding line_told call_told question_told analysis_told
  tick-parts n many = tick-part r.state.log.counts way (omega (arith, i.counts)) n r.state.model many

  pub at-parts : (t : ℕ)
      → get_or (line_told (Content.At t) numbers (with_flash r.state) r.state.differences r.state.probes).counts 21 0
      ≡ min (get_or r.state.log.counts 21 0) t - 1048576
  unfolding line_told call_told question_told analysis_told
  at-parts t = at_part r.state.log.counts way (omega (arith, i.counts)) t r.state.model
