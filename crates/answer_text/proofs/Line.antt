-- Any line leaves on the page what it tells. Assumes nothing.
use Prim.Native.Nat.{ℕ, ◌<◌}
use mathlib.Core.Path.{◌≡◌, sym, ap, ◌∙◌}
use mathlib.Core.List.{List, [], ◌++◌}
use native.Mathlib.Omega.{arith}
use lib.IntN.{ℤ}
use lib.ListN.{length, get_or, set, take, length-set}
use Rattle.numeral.specs.Place.{joined}
use Rattle.device.specs.declared.Model.{Model}
use Rattle.line.specs.declared.Content.{Content}
use Rattle.item_calls.specs.Lines.{WithFlash, call_line}
use Rattle.item_questions.specs.Answers.{question_line}
use Rattle.item_analysis.specs.Lines.{ItemKept, analysis_line}
use Rattle.answer_text.specs.Texts.{Told, on_page, HasRoom, behind, call_told, question_told, analysis_told}
use Rattle.answer_text.specs.Line.{beside, line_left, told_of_kept, line_told}
use Rattle.answer_text.proofs.Page.{page-long, page-text, room-second}
use Rattle.answer_text.proofs.Aside.{Aside, Apart, page-counts, page-behind, behind-aside}
use Rattle.answer_text.proofs.Calls.{otherwise, call-page, call-aside, call-model}
use Rattle.answer_text.proofs.Questions.{question-page, question-aside}
use Rattle.answer_text.proofs.Analysis.{Listable, analysis-page, analysis-aside, analysis-kept, any-answers}

module _ (content : Content) (numbers : List ℕ) (s : WithFlash) (differences : List ℤ) (probes : List ℕ) where
  -- the model after the line, and what was told before the record and the probe table are
  abbrev after : Model
  after = (call_line content numbers s).model

  abbrev before : Told
  before = behind (call_told content numbers s) (question_told content numbers after)

  abbrev last : List ℕ → Told
  last = told_of_kept content numbers after differences probes

  last_apart : Apart last
  last_apart counts place = analysis-aside content numbers after (beside differences probes record { counts = counts; answers = [] }) place []

  before-long : length before.counts ≡ length s.log.counts
  before-long = (question-aside content numbers after (call_told content numbers s).counts 0).long ∙ (call-aside content numbers s 0 []).long

  -- what is kept, with what was told before on the page, and with its counts alone
  abbrev there : ItemKept
  there = beside differences probes (on_page before s.log)

  abbrev plain : ItemKept
  plain = beside differences probes record { counts = before.counts; answers = [] }

  module _ (some : 0 < length s.log.counts) where
    before-some : 0 < length before.counts
    before-some = omega (arith, before-long)

    before-page : question_line content numbers after (call_line content numbers s).log ≡ on_page before s.log
    before-page =
        let first : 0 < length (call_told content numbers s).counts = omega (arith, (call-aside content numbers s 0 []).long) in
        rw (call-page content numbers s some)
        (question-page content numbers after (on_page (call_told content numbers s) s.log)
        ∙ page-behind (call_told content numbers s) (question_told content numbers after) s.log first (question-aside content numbers after))

    last-there : analysis_told content numbers after there ≡ last (on_page before s.log).counts
    last-there = sym (any-answers content numbers after there [])

    last-texts : (analysis_told content numbers after there).texts ≡ (last before.counts).texts
    last-texts = ap (λ (t : Told). t.texts) (last-there ∙ page-counts before s.log last last_apart)

    module _ (can : Listable content (line_told content numbers s differences probes) (beside differences probes s.log)) where
      can-there : Listable content (analysis_told content numbers after there) there
      unfolding line_told
      can-there = record {
        room = λ h. rw last-texts (room-second before (last before.counts) s.log before-some (can.room h));
        small = λ h. rw (page-long before s.log) (can.small h);
        fit = can.fit;
      }

      -- What a line leaves of counts and answers is what it tells, on the page.
      pub line-page : (line_left content numbers s differences probes).log ≡ on_page (line_told content numbers s differences probes) s.log
      unfolding line_left line_told
      line-page =
          rw before-page
          (analysis-page content numbers after there can-there
          ∙ (ap (λ (t : Told). on_page t (on_page before s.log)) last-there ∙ page-behind before last s.log before-some last_apart))

      line-some : 0 < length (line_told content numbers s differences probes).counts
      unfolding line_told
      line-some = omega (arith, (last_apart before.counts 0).long, before-some)

      -- Where there is room, the answers are those before the line, and then its texts.
      pub line-text : HasRoom (line_told content numbers s differences probes) s.log
          → take (get_or (line_left content numbers s differences probes).log.counts 0 0) (line_left content numbers s differences probes).log.answers
          ≡ take (get_or s.log.counts 0 0) s.log.answers ++ joined (line_told content numbers s differences probes).texts
      line-text room = rw line-page (page-text (line_told content numbers s differences probes) s.log room line-some)

    -- What is kept is that of the counts that were told.
    kept-plain : ((line_left content numbers s differences probes).differences ≡ (analysis_line content numbers after plain).differences)
        × ((line_left content numbers s differences probes).probes ≡ (analysis_line content numbers after plain).probes)
    unfolding line_left on_page
    kept-plain = rw before-page (analysis-kept content numbers after plain _ _)

-- What a line tells goes by neither the answers nor where they end
pub line-aside : (content : Content) (numbers : List ℕ) (s : WithFlash) (differences : List ℤ) (probes : List ℕ) (place : ℕ) (answers : List ℕ)
    → Aside s.log.counts place (line_told content numbers s differences probes) (line_told content numbers (otherwise s place answers) differences probes)
unfolding line_told
line-aside content numbers s differences probes place answers =
    let m = (call_line content numbers s).model in
    rw (call-model content numbers s place answers).0
    (behind-aside s.log.counts place _ _ (told_of_kept content numbers m differences probes) (last_apart content numbers s differences probes)
    (behind-aside s.log.counts place _ _ (question_told content numbers m) (question-aside content numbers m)
    (call-aside content numbers s place answers)))

-- and no more do the record and the probe table after it; so it is of the model and the user flash (`call-model`).
module _ (content : Content) (numbers : List ℕ) (s : WithFlash) (differences : List ℤ) (probes : List ℕ) (place : ℕ) (answers : List ℕ) where
  abbrev other : WithFlash
  other = otherwise s place answers

  before-other : (before content numbers other differences probes).counts ≡ set (before content numbers s differences probes).counts 0 place
  before-other =
      rw (call-model content numbers s place answers).0
      (ap (λ (t : Told). t.counts)
      (behind-aside s.log.counts place _ _ (question_told content numbers (call_line content numbers s).model)
      (question-aside content numbers (call_line content numbers s).model) (call-aside content numbers s place answers)).same)

  plain_other : plain content numbers other differences probes ≡ beside differences probes record { counts = set (before content numbers s differences probes).counts 0 place; answers = [] }
  plain_other = rw before-other

  pub line_kept : 0 < length s.log.counts
      → ((line_left content numbers other differences probes).differences ≡ (line_left content numbers s differences probes).differences)
      × ((line_left content numbers other differences probes).probes ≡ (line_left content numbers s differences probes).probes)
  line_kept some =
      let here = kept-plain content numbers s differences probes some in
      let there = kept-plain content numbers other differences probes (rw length-set some) in
      let m = (call_line content numbers s).model in
      let same = analysis-kept content numbers m (plain content numbers s differences probes) place [] in
      let moved = (call-model content numbers s place answers).0 in
      let left : analysis_line content numbers (call_line content numbers other).model (plain content numbers other differences probes)
      ≡ analysis_line content numbers m (beside differences probes record { counts = set (before content numbers s differences probes).counts 0 place; answers = [] }) = rw (plain_other, moved) in (
        there.0 ∙ (ap (λ (k : ItemKept). k.differences) left ∙ (same.0 ∙ sym here.0)),
        there.1 ∙ (ap (λ (k : ItemKept). k.probes) left ∙ (same.1 ∙ sym here.1)),
      )
