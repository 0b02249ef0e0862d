-- What the definitions of `OwnDigits` come to: digits that stand alone are a word of the list, and its number is their value. Assumes nothing.
use Prim.Native.Nat.{ℕ, suc, ◌+◌, ◌-◌, ◌*◌, ◌^◌, ◌≤◌, ◌<◌}
use mathlib.Core.Path.{◌≡◌, refl, sym, ◌∙◌}
use mathlib.Core.Bool.{Bool, true, false}
use mathlib.Core.List.{List, [], ◌∷◌, ◌++◌}
use native.Mathlib.Nat.{pow-suc, pow-le-pow_right, zero-mul, zero-add, add_assoc}
use native.Mathlib.Decide.{dec_lt}
use native.Mathlib.Omega.{arith}
use lib.ListN.{length, get_or, set, drop, length-drop}
use lib.Seq.{take-suc, get_or-drop}
use borrow.Author.Tests.{lt-ltb, ne_eqb}
use Rattle.numeral.specs.Digit.{digit_of, are_digits, value_of}
use Rattle.numeral.proofs.DigitLaws.{value-append, are-append, hex-reads}
use Rattle.unit.specs.Choice.{both}
use Rattle.unit.proofs.Cases.{by_eqb}
use Rattle.numeral.specs.Ascii.{ascii}
use Rattle.text.specs.Text.{Text, is_blank, words_after, words, same, is}
use Rattle.text_code.specs.OwnWords.{between}
use Rattle.text_code.proofs.WordLaws.{length-between, words-blank, word-grows, word-stops, word-ends}
use Rattle.item_line_code.specs.declared.Kind.{Kind}
use Rattle.item_line_code.specs.declared.Form.{Form}
use Rattle.item_line_code.specs.declared.ListWord.{ListWord}
use Rattle.item_line_code.specs.OwnNumbers.{read_as, number_in, list_word, tallied, Outcome}
use Rattle.item_line_code.specs.OwnDigits.{DigitsAt, WholeAt, PairAt, Passed}
use Rattle.item_line_code.proofs.NumberLaws.{tally-word}

-- A digit is no blank.
digit-dark : (c : ℕ) → digit_of c < 16 → is_blank c ≡ false
unfolding is_blank digit_of
digit-dark c h = rw (ne_eqb c 32 (λ e. let d : digit_of c ≡ digit_of 32 = rw e in omega arith), ne_eqb c 9 (λ e. let d : digit_of c ≡ digit_of 9 = rw e in omega arith))

-- Digits are no slash.
digits-apart : (w : Text) → are_digits 16 w ≡ true → is "/" w ≡ false
unfolding are_digits digit_of same ascii
digits-apart [] all = refl
digits-apart (c ∷ cs) all = by_eqb c 47 (λ e t. absurd (never (rw e at all))) (λ e t. rw t)
  where
    never : false ≡ true → ⊥
    never e = let z : ◌≡◌ {A = ℕ} 0 1 = cc in omega arith

part-grows : (s : List ℕ) (i j : ℕ) → i ≤ j → j < length s → between i (j + 1) s ≡ between i j s ++ (get_or s j 0 ∷ [])
part-grows s i j h inside =
    let more : j + 1 - i ≡ suc (j - i) = omega arith in
    let there : i + (j - i) ≡ j = omega arith in
    let room : j - i < length (drop i s) = rw length-drop (omega arith) in
    rw (more, take-suc (drop i s) (j - i) 0 room, get_or-drop i s (j - i) 0, there)

pub digits-none : (s : List ℕ) (i m : ℕ) → i ≤ length s → DigitsAt s i i m 0
unfolding are_digits value_of words
digits-none s i m h =
    let none : i - i ≡ 0 = omega arith in
    record {
      low = omega arith;
      high = h;
      within = omega arith;
      eight = omega arith;
      all = rw none;
      value = rw none;
      small = rw none (omega arith);
      begun = rw none;
    }

module _ {s : List ℕ} {i j m v : ℕ} (d : DigitsAt s i j m v) where
  pub digits-fit : j < i + 8 → v < 268435456
  digits-fit h =
      let seven : j - i ≤ 7 = omega arith in
      let top : 16 ^ (j - i) ≤ 16 ^ 7 = pow-le-pow_right (omega arith) seven in
      omega (arith, d.small)

  digits-small : v ≤ 4294967295
  digits-small =
      let eight : j - i ≤ 8 = omega (arith, d.eight) in
      let top : 16 ^ (j - i) ≤ 16 ^ 8 = pow-le-pow_right (omega arith) eight in
      omega (arith, d.small)

  pub digits_more : j < length s → j < i + m → j < i + 8 → digit_of (get_or s j 0) < 16 → DigitsAt s i (j + 1) m (v * 16 + digit_of (get_or s j 0))
  unfolding are_digits value_of
  digits_more inside room eight digit =
      let grows = part-grows s i j d.low inside in
      let more : j + 1 - i ≡ suc (j - i) = omega (arith, d.low) in
      record {
        low = omega (arith, d.low);
        high = omega arith;
        within = omega arith;
        eight = omega arith;
        all = rw (grows, are-append 16 (between i j s) (get_or s j 0 ∷ []) d.all, lt-ltb (digit_of (get_or s j 0)) 16 digit);
        value = rw (grows, value-append 16 0 (between i j s) (get_or s j 0 ∷ []), ← d.value);
        small = rw (more, pow-suc) (omega (arith, d.small));
        begun = d.begun ∙ word-grows s j inside i d.low (digit-dark (get_or s j 0) digit);
      }

  module _ (f : Form) (most : m ≡ f.most) (whole : WholeAt s i j f.least) where
    first_word : words (drop i s) ≡ between i j s ∷ words (drop j s)
    first_word = d.begun ∙ go (dec_lt j (length s))
      where
        go : Dec (j < length s) → words_after (between i j s) (drop j s) ≡ between i j s ∷ words (drop j s)
        go (yes p) = word-stops s j p i whole.some (whole.stops p)
        go (no p) = word-ends s i j whole.some d.high (omega arith)

    number_word : f.kind ≡ Kind.Hex → list_word f (between i j s) ≡ ListWord.Word v
    unfolding list_word number_in read_as
    number_word kind =
        let long = length-between i j s d.high in
        let reads =
        hex-reads f.least f.most (between i j s) (omega (arith, long, whole.some)) (omega (arith, long, whole.long)) (omega (arith, long, d.within))
        (omega (arith, long, d.eight))
        d.all
        (rw (← d.value) digits-small) in
        rw (digits-apart (between i j s) d.all, never f.slash, kind, reads, ← d.value)
      where
        never : (t : Bool) → both t false ≡ false
        never true = refl
        never false = refl

pub pair-digits : (s : List ℕ) (i : ℕ) → i + 3 ≤ length s → get_or s i 0 ≡ 32 → digit_of (get_or s (i + 1) 0) < 16 → digit_of (get_or s (i + 2) 0) < 16
    → (i + 3 < length s → is_blank (get_or s (i + 3) 0) ≡ true) → PairAt s i (digit_of (get_or s (i + 1) 0) * 16 + digit_of (get_or s (i + 2) 0))
unfolding is_blank
pair-digits s i h blank high low stops =
    let none = digits-none s (i + 1) 2 (omega arith) in
    let one = digits_more none (omega arith) (omega arith) (omega arith) high in
    let two : DigitsAt s (i + 1) (i + 2) 2 (digit_of (get_or s (i + 1) 0)) = rw (zero-mul, zero-add, add_assoc) at one in
    record {
      alike = words-blank s i (omega arith) (rw blank);
      digits = rw add_assoc at (digits_more two (omega arith) (omega arith) (omega arith) low);
      whole = record { some = omega arith; long = omega arith; stops = stops };
    }

pub passed_none : (f : Form) (s : List ℕ) (at n : ℕ) (l : List ℕ) → at ≤ length s → Passed f s at n l at n l
passed_none f s at n l h = record { low = omega arith; high = h; count = omega arith; alike = λ k u. refl }

-- One number more.
pub passed-more : {f : Form} {s : List ℕ} {at n i c : ℕ} {l l' : List ℕ} → Passed f s at n l i c l' → f.kind ≡ Kind.Hex → {a b v : ℕ}
    → DigitsAt s a b f.most v → WholeAt s a b f.least → words (drop a s) ≡ words (drop i s) → i ≤ a → Passed f s at n l b (c + 1) (set l' c v)
passed-more {f = f} {s = s} {c = c} {l' = l'} p kind d whole blanks after =
    record {
      low = omega (arith, p.low, whole.some);
      high = d.high;
      count = omega (arith, p.count, whole.some);
      alike = λ k u. tally-word f c k u l' (sym blanks ∙ first_word d f refl whole) (number_word d f refl whole kind) ∙ p.alike k u;
    }

pub passed-pair : {f : Form} {s : List ℕ} {at n i c v : ℕ} {l l' : List ℕ} → Passed f s at n l i c l' → f.kind ≡ Kind.Hex → f.most ≡ 2 → f.least ≡ 2
    → PairAt s i v → Passed f s at n l (i + 3) (c + 1) (set l' c v)
passed-pair {i = i} {v = v} p kind most least pair =
    passed-more p kind {a = i + 1} {b = i + 3} {v = v} (rw most pair.digits) (rw least pair.whole) pair.alike (omega arith)

-- What a list comes to after its first words.
pub passed_on : {f : Form} {s : List ℕ} {at n i c : ℕ} {l l' : List ℕ} → Passed f s at n l i c l' → (k u : ℕ) {o : Outcome}
    → tallied f n k u l (words (drop at s)) ≡ o → {x : Outcome} → x ≡ tallied f c k u l' (words (drop i s)) → x ≡ o
passed_on p k u e h = h ∙ p.alike k u ∙ e

-- The same digits, up to an equal place.
pub digits_to : {s : List ℕ} {i j k m v : ℕ} → j ≡ k → DigitsAt s i j m v → DigitsAt s i k m v
digits_to e d = rw (← e) d
