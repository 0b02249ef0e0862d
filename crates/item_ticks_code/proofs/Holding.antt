-- Words that are held against those expected, one after the other. Assumes nothing.
use Prim.Native.Nat.{ℕ, ◌+◌, ◌-◌, ◌≤◌, ◌<◌}
use mathlib.Core.Bool.{Bool, true, false}
use mathlib.Core.List.{List, [], ◌∷◌, ◌++◌}
use mathlib.Core.Path.{◌≡◌, refl, sym, ap, ◌∙◌}
use native.Mathlib.Nat.{zero-add}
use native.Mathlib.Omega.{arith}
use lib.Dec.{ltb}
use lib.ListN.{length, length-append, take, drop, length-take}
use lib.Seq.{take-append_seam}
use borrow.Author.Tests.{lt-ltb, le-ltb}
use Rattle.unit.specs.Choice.{either, both, negate}
use Rattle.unit.proofs.Cases.{by-ltb}
use Rattle.numeral.specs.Place.{overwrite, Put}
use Rattle.numeral.specs.Print.{decimal, decimal_width}
use Rattle.numeral.proofs.PlaceLaws.{length-overwrite}
use Rattle.numeral.proofs.PrintLaws.{length-decimal, width-most}
use Rattle.device.specs.declared.Model.{Model}
use Rattle.text.specs.Text.{Text, words, words_after, begun_before, fits, begin_with}
use Rattle.text.specs.OwnPut.{Puts}
use Rattle.text.proofs.Putting.{puts, puts_first}
use Rattle.text_code.specs.OwnWords.{between, Next}
use Rattle.text_code.proofs.WordLaws.{begin-none}
use Rattle.item_answer.specs.Answer.{Run, ticked}
use Rattle.item_words_code.specs.OwnReports.{reports_in}
use Rattle.item_ticks_code.specs.declared.Held.{Held}
use Rattle.item_ticks_code.specs.declared.Moved.{Moved}
use Rattle.item_ticks_code.specs.OwnMoved.{MovedOn}
use Rattle.item_ticks_code.specs.OwnHeld.{still_expected, differs_by, ExpectedFrom, HeldAgainst, report_words}
use Rattle.item_ticks_code.proofs.Ticks.{ticked-then}
use Rattle.item_ticks_code.proofs.ReportWords.{words-reports}

-- ---- the words that are expected

pub expected-from : (s : Text) (at start end : ℕ) (differs : Bool) → Next s at start end → (ws : List Text)
    → differs_by s (record { start = start; end = end; differs = differs }) ws ≡ either differs (negate (begin_with (words (drop at s)) ws))
unfolding differs_by still_expected
expected-from s at start end differs next ws =
    by-ltb start end (λ l e. rw (e, next.some l)) (λ l e. rw (e, next.none l))

module _ (s : Text) (h : Held) where
  -- Where no word is left, those to come change nothing.
  none_left : h.end ≤ h.start → (ws : List Text) → differs_by s h ws ≡ either h.differs false
  unfolding differs_by still_expected
  none_left none ws = rw (le-ltb _ _ none, begin-none [] ws refl)

  one_left : h.start < h.end → (ws : List Text)
      → differs_by s h ws ≡ either h.differs (negate (begin_with (between h.start h.end s ∷ words (drop h.end s)) ws))
  unfolding differs_by still_expected
  one_left some ws = rw (lt-ltb _ _ some)

-- ---- a word against the next of them

either_true : (b : Bool) → either b true ≡ true
either_true true = refl
either_true false = refl

module _ (s : Text) (h : Held) (w : Text) where
  pub held_none : h.end ≤ length s → h.end ≤ h.start → HeldAgainst s h (λ ws. w ∷ ws) h
  held_none high none = record {
    within = high;
    rule = λ ws. none_left s h none ws ∙ sym (none_left s h none (w ∷ ws));
  }

  module _ (some : h.start < h.end) where
    pub held_fits : fits (between h.start h.end s) w ≡ true → {r : Held} → ExpectedFrom s h.end h.differs r → HeldAgainst s h (λ ws. w ∷ ws) r
    unfolding begin_with
    held_fits e x = record {
      within = x.within;
      rule = λ ws. x.rule ws ∙ sym (one_left s h some (w ∷ ws) ∙ rw e);
    }

    pub held-differs : fits (between h.start h.end s) w ≡ false
        → HeldAgainst s h (λ ws. w ∷ ws) (record { start = 0; end = 0; differs = true })
    unfolding begin_with differs_by
    held-differs e = record {
      within = omega arith;
      rule = λ ws. sym (one_left s h some (w ∷ ws) ∙ rw (e, either_true h.differs));
    }

-- ---- words one after the other

pub held-not : (s : Text) (h : Held) → h.end ≤ length s → HeldAgainst s h (λ ws. ws) h
held-not s h high = record { within = high; rule = λ ws. refl }

pub held_then : {s : Text} {h a b : Held} {f g : List Text → List Text} → HeldAgainst s h f a → HeldAgainst s a g b
    → HeldAgainst s h (λ ws. f (g ws)) b
held_then {g = g} p q = record { within = q.within; rule = λ ws. q.rule ws ∙ p.rule (g ws) }

-- ---- a text that was put at a buffer's front

front : (l t : Text) → take (0 + length t) (overwrite l 0 t) ≡ t
unfolding overwrite
front l t = rw zero-add (take-append_seam t (drop (length t) l))

-- The word of a text and a number, in a buffer of 48 bytes.
module _ (what : Text) (i : ℕ) (short : length what ≤ 24) (few : i < 18446744073709551616) where
  word-short : length (what ++ decimal i) ≤ 44
  unfolding decimal_width
  word-short = rw (length-append, length-decimal) (omega (arith, width-most 19 19 i (omega arith)))

  module _ {l k l' : Text} {q r : ℕ} (long : length l ≡ 48) (first : Put l 0 what q k) (then : Put k q (decimal i) r l') where
    whole : Puts l 0 (what ++ decimal i) r l'
    whole = puts_first first (puts then)

    room : 0 + length (what ++ decimal i) ≤ length l
    room = omega (arith, word-short)

    pub word_end : r ≤ length l'
    word_end =
        rw (whole.next room, whole.bytes room, length-overwrite l 0 (what ++ decimal i) room) room

    pub word-long : r ≡ length (take r l')
    word-long = let end = word_end in rw length-take (omega arith)

    pub word-there : take r l' ≡ what ++ decimal i
    word-there = rw (whole.next room, whole.bytes room) (front l (what ++ decimal i))

-- ---- ticks, turn by turn

pub tick-more : (left : ℕ) (h : Held) → both (ltb 0 left) (ltb h.start h.end) ≡ true → 0 < left
tick-more left h =
    by-ltb 0 left (λ l e _. l) (λ l e. rw e (λ z. let no : ◌≡◌ {A = ℕ} 0 1 = cc in absurd (omega arith)))

module _ (s : Text) where
  pub held-turn : {h r : Held} {m : Model} {left : ℕ} (i : ℕ) {v : Moved} → MovedOn m left v → {fewer later : ℕ} → fewer ≡ left - v.ran.0
      → later ≡ i + v.ran.0 → HeldAgainst s h (report_words v.flight v.temperature (later - 1)) r
      → differs_by s r (words (ticked fewer later v.model).reports) ≡ differs_by s h (words (ticked left i m).reports)
  held-turn {h} {r} {m} {left} i {v} o {fewer} {later} e d held =
      let all : v.ran.0 + fewer ≡ left = omega (arith, o.few) in
      let run = o.run i in
      let cut : (ticked left i m).reports ≡ reports_in v.flight v.temperature (later - 1) ++ (ticked fewer later v.model).reports
      = ap (λ (n : ℕ). (ticked n i m).reports) (sym all)
      ∙ (ap (λ (x : Run). x.reports) (ticked-then v.ran.0 fewer i m) ∙ rw (run, d)) in
      held.rule (words (ticked fewer later v.model).reports)
      ∙ ap (differs_by s h)
      (sym (ap words cut ∙ words-reports v.flight v.temperature (later - 1) fewer later v.model))

  no-ticks : (i : ℕ) (m : Model) → words (ticked 0 i m).reports ≡ []
  unfolding ticked words words_after begun_before
  no-ticks i m = refl

  -- No tick is left, or no word.
  pub held-end : (h : Held) (left i : ℕ) (m : Model) → both (ltb 0 left) (ltb h.start h.end) ≡ false
      → either h.differs (ltb h.start h.end) ≡ differs_by s h (words (ticked left i m).reports)
  unfolding begin_with
  held-end h left i m over =
      by-ltb h.start h.end
      (λ l e.
      let none : left ≡ 0 = by-ltb 0 left (λ g f. let t : true ≡ false = rw (e, f) at over in let z : ◌≡◌ {A = ℕ} 0 1 = cc in absurd (omega arith)) (λ g f. omega arith) in
      rw (e, none, no-ticks i m) (sym (one_left s h l [])))
      (λ l e. rw e (sym (none_left s h l (words (ticked left i m).reports))))
