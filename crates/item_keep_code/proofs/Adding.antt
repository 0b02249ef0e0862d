-- Values that are added to a list, and what the line that adds them answers. Assumes nothing.
use Prim.Native.Nat.{ℕ, suc, ◌+◌, ◌≤◌, ◌<◌}
use mathlib.Core.Bool.{true, false}
use mathlib.Core.List.{List, [], ◌∷◌, ◌++◌, append_assoc, append-nil, map}
use mathlib.Core.Path.{◌≡◌, refl, ap, ◌∙◌}
use native.Mathlib.Nat.{add-zero}
use native.Mathlib.Omega.{arith}
use native.Mathlib.Numerals.{add-one}
use lib.Dec.{ltb}
use lib.ListN.{length, take, set, get_or, length-append}
use lib.Seq.{take-suc, take-suc-set, take_all}
use borrow.Author.Tests.{lt-ltb, le-ltb}
use Rattle.unit.specs.Choice.{pick}
use Rattle.text.specs.Text.{Text}
use Rattle.text.specs.OwnPut.{Puts}
use Rattle.text.proofs.Putting.{puts_none}
use Rattle.item_line.specs.Line.{Fault}
use Rattle.device.specs.declared.Model.{Model}
use Rattle.difference.specs.Difference.{signed_of}
use Rattle.item_answer.specs.Answer.{Item, Result, told, fault, answer, added}
use Rattle.item_keep_code.specs.OwnAdded.{line_in, Adds}

-- The turns of a loop that puts the values xs after the first `used` of t₀.
module _ {A : Type 0} (xs t₀ t : List A) (used i : ℕ) where
  pub added-on :
      (d : A) {v : A} →
      i < length xs →
      used + i < length t →
      v ≡ get_or xs i d →
      take (used + i) t ≡ take used t₀ ++ take i xs →
      take (used + (i + 1)) (set t (used + i) v) ≡ take used t₀ ++ take (i + 1) xs
  added-on d {v} less room is e =
      let next : used + (i + 1) ≡ suc (used + i) = omega arith in
      rw (next, take-suc-set t (used + i) v room, e, add-one i, take-suc xs i d less, is) (append_assoc (take used t₀) (take i xs) (get_or xs i d ∷ []))

  pub added_none : take (used + 0) t ≡ take used t ++ take 0 xs
  added_none = rw (add-zero, append-nil)

  pub added-all :
      length xs ≤ i → i ≤ length xs → take (used + i) t ≡ take used t₀ ++ take i xs → take (used + length xs) t ≡ take used t₀ ++ xs
  added-all long short e =
      let same : i ≡ length xs = omega arith in
      ap (λ (n : ℕ). take (used + n) t) (rw same) ∙ (e ∙ ap (λ (l : List A). take used t₀ ++ l) (take_all i xs long))

-- What a line answers that adds xs to the values that an item has, at most `most` in all.
module _ {A : Type 0} (l : List ℕ) (at : ℕ) (i : Item) (most : ℕ) (old xs : List A) (line : Text) (with : List A → Item) (same : with old ≡ i) where
  abbrev adding : Result
  adding = pick (ltb most (length (old ++ xs))) (fault Fault.no_room) (told (answer line [] (with (old ++ xs))))

  pub adds_none : {count : ℕ} {now : List A} → most < length old + length xs → now ≡ old →
      Adds l at i adding record { fits = false; count = count; end = at } (with now) l
  unfolding line_in
  adds_none {count} {now} over is =
      let test : ltb most (length (old ++ xs)) ≡ true = rw length-append (lt-ltb _ _ over) in
      rw test record { line = puts_none l at; full = λ e. refl; kept = λ e. rw is same; told = λ e. cc }

  pub adds-all : {count r : ℕ} {now : List A} {l' : List ℕ} → length old + length xs ≤ most → Puts l at line r l' → now ≡ old ++ xs →
      Adds l at i adding record { fits = true; count = count; end = r } (with now) l'
  unfolding line_in
  adds-all {count} {r} {now} {l'} fits put is =
      let test : ltb most (length (old ++ xs)) ≡ false = rw length-append (le-ltb _ _ fits) in
      rw (test, is) record { line = put; full = λ e. cc; kept = λ e. cc; told = λ e. refl }

-- Some words are their differences, and no words TOF_DIFF.
pub length-zero : {A : Type 0} (l : List A) → length l ≡ 0 → l ≡ []
length-zero [] h = refl
length-zero (x ∷ l) h = absurd (omega (arith, h))

pub added-some : (ws : List ℕ) (m : Model) → ¬ (length ws ≡ 0) → added (map signed_of ws) m ≡ map signed_of ws
unfolding added
added-some [] m h = absurd (h refl)
added-some (w ∷ ws) m h = refl
