-- An answer that is held against what its line expects, and the words of an item's name. Assumes nothing.
use Prim.Native.Nat.{ℕ, ◌+◌, ◌-◌, ◌≤◌}
use mathlib.Core.Bool.{Bool, true, false}
use mathlib.Core.List.{List, [], ◌∷◌, ◌++◌, append-nil, append_assoc}
use mathlib.Core.Path.{◌≡◌, refl, ◌∙◌}
use native.Mathlib.Omega.{arith}
use lib.Dec.{ltb}
use lib.ListN.{length, take, drop, replicate, drop_of_length-le}
use lib.Seq.{take-append_seam, drop_at, length-take-le}
use Rattle.numeral.specs.Ascii.{ascii}
use Rattle.numeral.specs.Place.{overwrite}
use Rattle.text.specs.Text.{Text, ended, text_where, spaced, spaced_each, words, begin_with}
use Rattle.text.specs.OwnPut.{Puts}
use Rattle.text.specs.OwnPart.{part}
use Rattle.text.proofs.Putting.{puts_then}
use Rattle.item_line.specs.Line.{Expected}
use Rattle.item_answer.specs.Answer.{Told}
use Rattle.item_answer.specs.Step.{agrees, disagrees, expected_text, expects, told_step}
use Rattle.item_keep_code.specs.declared.Judged.{Judged}
use Rattle.item_keep_code.specs.OwnJudged.{Judges, line_at, tallied}

-- Words after a blank each are a blank and the words parted by one.
pub spaced-each : (ws : List Text) → ¬ (length ws ≡ 0) → spaced_each ws ≡ ascii " " ++ spaced ws
unfolding spaced_each spaced
spaced-each [] h = absurd (h refl)
spaced-each (w ∷ ws) h = append_assoc (ascii " ") w (spaced_each ws)

-- All places have been filled.
pub filled : (l : List ℕ) (i : ℕ) {l' : List ℕ} → i ≤ length l → length l ≤ i → l' ≡ replicate i 255 ++ drop i l → l' ≡ replicate (length l) 255
filled l i low high e = let all : i ≡ length l = omega arith in rw (drop_of_length-le l high, append-nil, all) at e

-- A line with a `=>` that agrees, and one that differs.
module _ (xs : List Text) (line : Text) {l l' : List ℕ} {at after : ℕ} {some : Bool} (counted : some ≡ ltb 0 (length xs)) where
  pub judged-agrees : begin_with xs (drop 1 (words line)) ≡ true → Puts l at (10 ∷ []) after l' →
      Judges l at line (Expected.marked xs) record { end = after; agrees = true; differs = false; expects = some } l'
  unfolding agrees disagrees expects text_where
  judged-agrees test put = record { text = rw test put; agrees = rw test; differs = rw test; expects = counted }

  pub judged-differs : begin_with xs (drop 1 (words line)) ≡ false → Puts l at (ascii " expected " ++ spaced xs ++ (10 ∷ [])) after l' →
      Judges l at line (Expected.marked xs) record { end = after; agrees = false; differs = true; expects = some } l'
  unfolding agrees disagrees expects expected_text text_where
  judged-differs test put = record { text = rw test put; agrees = rw test; differs = rw test; expects = counted }

-- A text that was put stands where it was put.
line-there : {l k : List ℕ} {at end : ℕ} {line : Text} → at + length line ≤ length l → Puts l at line end k → line_at k at end ≡ line
unfolding part overwrite
line-there {l} {k} {at} {end} {line} room put =
    let size : end - at ≡ length line = omega (arith, put.next room) in
    let before : length (take at l) ≡ at = length-take-le at l (omega arith) in
    let split : k ≡ take at l ++ (line ++ drop (at + length line) l) = put.bytes room ∙ append_assoc (take at l) line (drop (at + length line) l) in
    rw (size, split, drop_at (take at l) (line ++ drop (at + length line) l) at before) (take-append_seam line (drop (at + length line) l))

-- An answer whose first line has room: its first line, what is expected and the further lines are the text of its step, and so is what it adds
-- to the counts.
module _ (calls : ℕ) (t : Told) (x : Expected) (l k : List ℕ) (at end : ℕ) (room : at + length t.line ≤ length l)
    (first : Puts l at t.line end k) {j : Judged} {l' : List ℕ} (judged : Judges k end (line_at k at end) x j l') where
  of-line : Judges k end t.line x j l'
  of-line = rw (← line-there room first) judged

  pub step-text : {r : ℕ} {l'' : List ℕ} → Puts l' j.end t.further r l'' → Puts l at (told_step calls x t).text r l''
  unfolding told_step ended
  step-text further =
      rw (append_assoc t.line (text_where (disagrees x t.line) (expected_text x)) (10 ∷ []))
      (puts_then (puts_then first of-line.text) further)

  pub step_counts : tallied calls t.refused j ≡ (told_step calls x t).adds
  unfolding tallied told_step
  step_counts = rw (of-line.agrees, of-line.differs, of-line.expects)
