-- Words compared one after the other. Assumes nothing.
use Prim.Native.Nat.{ℕ, zero, suc, ◌+◌, ◌≤◌, ◌<◌}
use mathlib.Core.Bool.{Bool, true, false}
use mathlib.Core.List.{List, [], ◌∷◌, map}
use mathlib.Core.Path.{◌≡◌, refl}
use native.Mathlib.Nat.{add-zero}
use native.Mathlib.Numerals.{add-one}
use native.Mathlib.Omega.{arith}
use lib.Dec.{eqb}
use borrow.Author.Tests.{ne_eqb}
use lib.ListN.{length, get_or, drop, length-append, drop_of_length-le, length-map, length-replicate}
use lib.Seq.{drop-cons}
use Rattle.unit.specs.Choice.{negate}
use Rattle.unit.proofs.Cases.{by-test, by-ltb}
use Rattle.numeral.specs.Ascii.{ascii}
use Rattle.numeral.specs.Digit.{digits}
use Rattle.numeral.specs.Place.{Put}
use Rattle.device.specs.Reply.{flag}
use Rattle.text.specs.Text.{Text, ended, text_where, words, is, fits}
use Rattle.text.specs.OwnPut.{Puts}
use Rattle.text.proofs.Putting.{puts, puts-last, puts_then}
use Rattle.text_code.specs.OwnWords.{Next, between}
use Rattle.item_line.specs.Line.{Wanted}
use Rattle.item_line.specs.OwnBounds.{Fours}
use Rattle.item_line.specs.Reading.{four_digits}
use Rattle.item_page.specs.Row.{word}
use Rattle.item_answer.specs.declared.Carried.{Carried}
use Rattle.item_answer.specs.OwnView.{tally_of}
use Rattle.item_answer.specs.Words.{difference, differences, joined, verdict}
use Rattle.item_answer.specs.Step.{expectations}
use Rattle.item_words_code.specs.OwnTexts.{difference_text}
use Rattle.item_chip_code.specs.declared.Compared.{Compared}
use Rattle.item_chip_code.specs.OwnCompared.{verdict_after, Judges, Comparing, Compares}

-- ---- one word

-- It is as wanted.
pub judges-fit : {c r : Compared} {address has : ℕ} {wanted : Wanted} {l : List ℕ} {e : ℕ} → true ≡ fits wanted (word has)
    → e ≡ flag (negate (is "xxxx" wanted)) → r.end ≡ c.end → r.differ ≡ c.differ → r.expectations ≡ c.expectations + e
    → Judges c address has wanted l r l
unfolding difference
judges-fit {c} {r} {address} {has} {wanted} {l} {e} fit one end differ more = record {
  put = λ others k q p. rw (← fit) (rw (end, differ) at p);
  differ = rw (← fit, add-zero) differ;
  expected = rw (← one) more;
}

-- It differs, the first that does or one after it.
put-differing : (n : ℕ) {l j l' k : List ℕ} {at head end q : ℕ} {d : Text} (others : List Text)
    → Puts l at (text_where (eqb n 0) (ascii " differs")) head j → Puts j head d end l'
    → Puts l' end (verdict_after (suc n) others) q k → Puts l at (verdict_after n (d ∷ others)) q k
unfolding verdict_after verdict joined text_where
put-differing zero others first put rest = puts_then first (puts_then put rest)
put-differing (suc n) others first put rest =
    let later : eqb (suc n) 0 ≡ false = ne_eqb (suc n) 0 (λ e. omega (arith, e)) in
    let none = rw later at first in puts_then none (puts_then put rest)

pub judges-differ : {c r : Compared} {address has : ℕ} {wanted : Wanted} {l j l' : List ℕ} {head e : ℕ} → false ≡ fits wanted (word has)
    → e ≡ flag (negate (is "xxxx" wanted)) → Puts l c.end (text_where (eqb c.differ 0) (ascii " differs")) head j
    → Puts j head (difference_text address has wanted) r.end l' → r.differ ≡ c.differ + 1 → r.expectations ≡ c.expectations + e
    → Judges c address has wanted l r l'
unfolding difference difference_text
judges-differ {c} {r} {address} {has} {wanted} {l} {j} {l'} {head} {e} unfit one first put differ more =
    let next : r.differ ≡ suc c.differ = rw (add-one c.differ) at differ in record {
      put = λ others k q p. rw (← unfit) (put-differing c.differ others first put (rw next at p));
      differ = rw (← unfit) differ;
      expected = rw (← one) more;
    }

-- ---- each word

-- No more words differ, or are expectations, than there are.
difference-few : (at has : ℕ) (wanted : Wanted) → length (difference at has wanted) ≤ 1
unfolding difference
difference-few at has wanted = by-test (fits wanted (word has)) (λ e. rw e (omega arith)) (λ e. rw e (omega arith))

differences-few : (at : ℕ) (hs : List ℕ) (ws : List Wanted) → length (differences at hs ws) ≤ length hs
unfolding differences
differences-few at [] [] = omega arith
differences-few at [] (w ∷ ws) = omega arith
differences-few at (h ∷ hs) [] = omega arith
differences-few at (h ∷ hs) (w ∷ ws) =
    omega (arith, length-append (difference at h w) (differences (at + 1) hs ws), difference-few at h w, differences-few (at + 1) hs ws)

flag-few : (b : Bool) → flag b ≤ 1
flag-few true = omega arith
flag-few false = omega arith

expectations-few : (ws : List Wanted) → expectations ws ≤ length ws
unfolding expectations
expectations-few [] = omega arith
expectations-few (w ∷ ws) = omega (arith, flag-few (negate (is "xxxx" w)), expectations-few ws)

no_words : (ws : List Wanted) → 0 ≡ length ws → ws ≡ []
no_words [] h = refl
no_words (w ∷ ws) h = absurd (omega (arith, h))

-- The words of a text that are wanted, from a place on.
abbrev pub wanted_from : List ℕ → ℕ → List Wanted
wanted_from text place = map four_digits (words (drop place text))

length-four : (w : Text) → length (four_digits w) ≡ 4 → length w ≤ 4
unfolding four_digits
length-four w h = let e = rw (length-append, length-replicate, length-map) at h in omega (arith, e)

-- One word less is left.
comparing-on : {l k k' : List ℕ} {at total : ℕ} {all : List Text} {c c' : Compared} {address h : ℕ} {w : Wanted} {hs : List ℕ} {ws : List Wanted}
    → Comparing l at all total k c address (h ∷ hs) (w ∷ ws) → Judges c address h w k c' k' → Comparing l at all total k' c' (address + 1) hs ws
unfolding differences expectations
comparing-on {l} {k} {k'} {at} {total} {all} {c} {c'} {address} {h} {w} {hs} {ws} x j = record {
  put = λ k'' q p. x.put k'' q (j.put (differences (address + 1) hs ws) k'' q p);
  differ = omega (arith, x.differ, j.differ, length-append (difference address h w) (differences (address + 1) hs ws));
  expected = omega (arith, x.expected, j.expected);
}

-- Where the loop stands: so many words of the registers and of the text are left.
pub record Left (has text : List ℕ) (l : List ℕ) (at a : ℕ) (k : List ℕ) (c : Compared) (address place i : ℕ) : Type 0 where
  pub short : length has ≤ 256
  pub few : length (wanted_from text 0) ≤ 256
  pub within : place ≤ length text
  pub low : address + length (drop i has) ≤ 256
  pub alike : length (drop i has) ≡ length (wanted_from text place)
  pub fours : Fours (wanted_from text place)
  pub so_far : Comparing l at (differences a has (wanted_from text 0)) (expectations (wanted_from text 0)) k c address (drop i has) (wanted_from text place)

pub left-start : (has text l : List ℕ) (at a : ℕ) → length has ≡ length (words text) → Fours (map four_digits (words text)) → a + length has ≤ 256
    → Left has text l at a l (record { end = at; expectations = 0; differ = 0 }) a 0 0
unfolding verdict_after
left-start has text l at a same fours low =
    let alike : length has ≡ length (map four_digits (words text)) = rw length-map same in record {
      short = omega arith;
      few = omega arith;
      within = omega arith;
      low = low;
      alike = alike;
      fours = fours;
      so_far = record { put = λ k q p. p; differ = omega arith; expected = omega arith };
    }

fours-first : (w : Text) (ws : List Text) → Fours (map four_digits (w ∷ ws)) → (length (four_digits w) ≡ 4) × Fours (map four_digits ws)
fours-first w ws (Fours.more four others) = (four, others)

module _ {has text l : List ℕ} {at a : ℕ} {k : List ℕ} {c : Compared} {address place i : ℕ} (x : Left has text l at a k c address place i) where
  -- Words are left.
  module _ (less : i < length has) {start end : ℕ} (n : Next text place start end) where
    some_left : start < end
    some_left =
        by-ltb start end (λ h e. h)
        (λ h e. let q = rw (n.none h, drop-cons has i 0 less) at x.alike in absurd (omega (arith, q)))

    found : words (drop place text) ≡ between start end text ∷ words (drop end text)
    found = n.some some_left

    both-fours : (length (four_digits (between start end text)) ≡ 4) × Fours (wanted_from text end)
    both-fours = fours-first (between start end text) (words (drop end text)) (rw found at x.fours)

    pub four-left : length (between start end text) ≤ 4
    four-left = length-four (between start end text) both-fours.0

    pub counts-left : (c.differ ≤ 256) × (c.expectations ≤ 256)
    counts-left = (
      omega (arith, x.so_far.differ, differences-few a has (wanted_from text 0), x.short),
      omega (arith, x.so_far.expected, expectations-few (wanted_from text 0), x.few),
    )

    pub address-left : address < 256
    address-left = let low = rw (drop-cons has i 0 less) at x.low in omega (arith, low)

    pub left-on : {digits k' : List ℕ} {c' : Compared} → digits ≡ four_digits (between start end text)
        → Judges c address (get_or has i 0) digits k c' k' → Left has text l at a k' c' (address + 1) end (i + 1)
    left-on {digits} {k'} {c'} four j =
        let low = rw (drop-cons has i 0 less) at x.low in
        let alike = rw (drop-cons has i 0 less, found) at x.alike in
        let so_far = rw (drop-cons has i 0 less, found) at x.so_far in
        let judged : Judges c address (get_or has i 0) (four_digits (between start end text)) k c' k' = rw four at j in record {
          short = x.short;
          few = x.few;
          within = n.high;
          low = rw (add-one i) (omega (arith, low));
          alike = rw (add-one i) (omega (arith, alike));
          fours = both-fours.1;
          so_far = rw (add-one i) (comparing-on so_far judged);
        }

  -- None is left.
  pub left_end : length has ≤ i → Comparing l at (differences a has (wanted_from text 0)) (expectations (wanted_from text 0)) k c 0 [] []
  unfolding differences
  left_end full =
      let none : drop i has ≡ [] = drop_of_length-le has full in
      let alike = rw none at x.alike in
      let all = no_words (wanted_from text place) alike in
      let so_far = rw (none, all) at x.so_far in record { put = so_far.put; differ = so_far.differ; expected = so_far.expected }

-- ---- the end

-- ` ok` stands there where none differs.
ends : (n : ℕ) → text_where (eqb n 0) (ascii " ok") ≡ verdict_after n []
unfolding verdict_after verdict joined text_where
ends zero = refl
ends (suc n) = let later : eqb (suc n) 0 ≡ false = ne_eqb (suc n) 0 (λ e. omega (arith, e)) in rw later

-- A whole line.
pub compares : {l l1 l2 l3 l4 l5 : List ℕ} {at k h v end : ℕ} (keyword : Text) (calls a : ℕ) (has : List ℕ) (ws : List Wanted) (carried : Carried) {c : Compared}
    → Put l at keyword k l1 → Put l1 k (digits 16 2 a) h l2 → Comparing l2 h (differences a has ws) (expectations ws) l3 c 0 [] []
    → Puts l3 c.end (text_where (eqb c.differ 0) (ascii " ok")) v l4 → Put l4 v (10 ∷ []) end l5
    → Compares keyword calls a has ws carried l at
    (record { carried = carried; end = end; adds = record { calls = calls; refused = 0; unannounced = 0; bad = 0; expectations = c.expectations; differ = c.differ } }) l5
unfolding ended differences expectations tally_of
compares {l} {l1} {l2} {l3} {l4} {l5} {at} {k} {h} {v} {end} keyword calls a has ws carried {c} p1 p2 x p4 p5 =
    let differ : c.differ ≡ length (differences a has ws) = rw add-zero at x.differ in
    let expected : c.expectations ≡ expectations ws = rw add-zero at x.expected in record {
      text = puts-last (puts_then (puts-last (puts p1) p2) (x.put l4 v (rw ends at p4))) p5;
      carried = refl;
      adds = rw (differ, expected);
    }
