-- How the first line of an answer is ended, and what comes to its step. Assumes nothing.
use Prim.Native.Nat.{ℕ, ◌+◌, ◌≤◌}
use mathlib.Core.Bool.{Bool}
use mathlib.Core.List.{List, [], ◌∷◌, ◌++◌}
use mathlib.Core.Path.{◌≡◌, ap, ◌∙◌}
use native.Mathlib.Omega.{arith}
use lib.IntN.{ℤ}
use lib.ListN.{length, length-append}
use Rattle.numeral.proofs.PlaceLaws.{overwrite-nil}
use Rattle.text.specs.Text.{Text, text_where, ended}
use Rattle.text.specs.OwnPut.{Puts}
use Rattle.text.proofs.Putting.{puts_then}
use Rattle.item_line.specs.Line.{Expected}
use Rattle.item_answer.specs.declared.Stepped.{Stepped}
use Rattle.item_answer.specs.Answer.{Item, Told, Result, told}
use Rattle.item_answer.specs.Step.{Step, disagrees, expected_text, told_step, result_step}
use Rattle.item_chip_code.specs.declared.Answered.{Answered}
use Rattle.item_keep_code.specs.OwnJudged.{tallied}
use Rattle.item_keep_code.proofs.Judging.{step-text, step_counts}
use Rattle.item_answer_code.specs.OwnSteps.{Steps}
use Rattle.item_answer_code.specs.OwnFirst.{First, Closes}

-- A text that has room has room for its beginning.
room-first : (a b : Text) (at n : ℕ) → at + length (a ++ b) ≤ n → at + length a ≤ n
room-first a b at n h = let g : at + (length a + length b) ≤ n = rw length-append at h in omega arith

room-line : (calls : ℕ) (x : Expected) (t : Told) (at n : ℕ) → at + length (told_step calls x t).text ≤ n → at + length t.line ≤ n
unfolding told_step ended
room-line calls x t at n h =
    let more = text_where (disagrees x t.line) (expected_text x) in
    room-first t.line more at n (room-first (t.line ++ more) (10 ∷ []) at n (room-first ((t.line ++ more) ++ (10 ∷ [])) t.further at n h))

-- The first line, and the lines after it, as a step.
module _ {t : Told} {l k k' l' : List ℕ} {at calls end : ℕ} {x : Expected} {first : Answered} {s : Stepped} {fs : List ℕ} {ds : List ℤ} {es : List ℕ} where
  pub told-steps : First t l at first fs ds es k → Closes calls x first at k s k' → Puts k' s.end t.further end l'
      → Steps (told_step calls x t) l at (record { carried = s.carried; end = end; adds = s.adds }) fs ds es l'
  unfolding told_step
  told-steps f c g =
      let room = room-line calls x t at (length l) in
      let after : Puts k' c.judged.end t.further end l' = rw (← c.end) g in record {
        text = record {
          next = λ h. (step-text calls t x l k at first.end (room h) f.line c.is after).next h;
          bytes = λ h. (step-text calls t x l k at first.end (room h) f.line c.is after).bytes h;
        };
        item = rw c.carried f.item;
        adds = λ h. c.adds ∙ (ap (λ (b : Bool). tallied calls b c.judged) f.refused ∙ step_counts calls t x l k at first.end (room h) f.line c.is);
        few = rw c.carried f.few;
      }

  pub result-steps : (number : ℕ) (i : Item) {result : Result} → result ≡ told t → First t l at first fs ds es k → Closes calls x first at k s k'
      → Puts k' s.end t.further end l'
      → Steps (result_step number calls x result i) l at (record { carried = s.carried; end = end; adds = s.adds }) fs ds es l'
  unfolding result_step
  result-steps number i is f c g = rw is (told-steps f c g)

-- A step after nothing was put.
pub steps-after : {s : Step} {l k l' : List ℕ} {at q : ℕ} {r : Stepped} {fs : List ℕ} {ds : List ℤ} {es : List ℕ}
    → Puts l at [] q k → Steps s k q r fs ds es l' → Steps s l at r fs ds es l'
steps-after {s} {l} {k} {l'} {at} {q} {r} none steps =
    let room : at + length s.text ≤ length l → at + 0 ≤ length l = λ h. omega arith in record {
      text = puts_then none steps.text;
      item = steps.item;
      adds = λ h. steps.adds (let same : q ≡ at = omega (arith, none.next (room h)) in rw (same, none.bytes (room h), overwrite-nil l at) h);
      few = steps.few;
    }
