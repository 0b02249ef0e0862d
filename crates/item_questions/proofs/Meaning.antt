-- What the answers of `regs` and `expect` mean. Assumes nothing.
use Rattle.std.proofs.Common.{◌≡◌, ℕ, zero, suc, ◌+◌, ◌*◌, ◌<◌, ◌≤◌, Bool, true, false, cond, eqb, ◌⊎◌, ◌↔◌, List, [], ◌∷◌, ◌++◌, length, get_or, sym, refl, ap, ◌∙◌, inl, inr, ⊎_elim, append_assoc, add-zero, arith, le-ltb, ne_eqb}
use borrow.Author.Tests.{eqb-false}
use Rattle.unit.proofs.Cases.{by-test, by_eqb}
use Rattle.numeral.specs.Digit.{digits}
use Rattle.numeral.specs.Place.{joined}
use Rattle.numeral.specs.Read.{read_hex}
use Rattle.numeral.proofs.DigitLaws.{hex-reads-back}
use Rattle.device.specs.declared.Model.{Model}
use Rattle.device.specs.Model.{is_sound}
use Rattle.device.specs.Question.{peek}
use Rattle.device.specs.Registers.{register_word}
use Rattle.numeral.specs.Ascii.{ascii}
use Rattle.wording.specs.Wording.{Texts, line_feed, blank_word, word_texts, row_texts, head, pair}
use Rattle.item_state.specs.Told.{told_value, read_word}
use Rattle.item_questions.specs.Answers.{next, row_words, row, rows, registers}
use Rattle.item_questions.specs.Answers.{differing, pairs, expectation}
use Rattle.std.specs.Prelude.{Some}

-- What is read at B0h to FFh is the register's word.
pub read_word_lem : (m : Model) (a : ℕ) → is_sound m ≡ true → 0xB0 ≤ a → a ≤ 0xFF → read_word m a ≡ register_word m a
unfolding read_word told_value peek
read_word_lem m a sound low high = rw (sound, le-ltb a 0xB0 low, le-ltb 0xFF a high)

-- A word's four digits read back as it.
pub reads-back : (w : ℕ) → w < 0x10000 → read_hex 4 4 (digits 16 4 w) ≡ Some w
reads-back w h = hex-reads-back 4 4 4 w (omega arith) (omega arith) (omega arith) (omega arith) h

-- ---- `regs`

-- A line, from the registers' words by their addresses: the address of the first, then eight words of four digits.
abbrev pub row_of : (ℕ → ℕ) → ℕ → Texts
row_of word a =
    digits 16 2 a
    ∷ ascii " " ∷ digits 16 4 (word a)
    ∷ ascii " " ∷ digits 16 4 (word (a + 1))
    ∷ ascii " " ∷ digits 16 4 (word (a + 2))
    ∷ ascii " " ∷ digits 16 4 (word (a + 3))
    ∷ ascii " " ∷ digits 16 4 (word (a + 4))
    ∷ ascii " " ∷ digits 16 4 (word (a + 5))
    ∷ ascii " " ∷ digits 16 4 (word (a + 6))
    ∷ ascii " " ∷ digits 16 4 (word (a + 7))
    ∷ line_feed ∷ []

-- Each line is such a one.
pub each_row : (m : Model) (a : ℕ) → is_sound m ≡ true → 0xB0 ≤ a → a + 7 ≤ 0xFF → row m a ≡ row_of (register_word m) a
unfolding row row_words row_texts word_texts blank_word
each_row m a sound low high =
    let n1 : next a ≡ a + 1 = omega arith in
    let n2 : next (a + 1) ≡ a + 2 = omega arith in
    let n3 : next (a + 2) ≡ a + 3 = omega arith in
    let n4 : next (a + 3) ≡ a + 4 = omega arith in
    let n5 : next (a + 4) ≡ a + 5 = omega arith in
    let n6 : next (a + 5) ≡ a + 6 = omega arith in
    let n7 : next (a + 6) ≡ a + 7 = omega arith in
    rw (
      n1,
      n2,
      n3,
      n4,
      n5,
      n6,
      n7,
      read_word_lem m a sound low (omega arith),
      read_word_lem m (a + 1) sound (omega arith) (omega arith),
      read_word_lem m (a + 2) sound (omega arith) (omega arith),
      read_word_lem m (a + 3) sound (omega arith) (omega arith),
      read_word_lem m (a + 4) sound (omega arith) (omega arith),
      read_word_lem m (a + 5) sound (omega arith) (omega arith),
      read_word_lem m (a + 6) sound (omega arith) (omega arith),
      read_word_lem m (a + 7) sound (omega arith) (omega arith),
    )

-- so for each of n lines from a on
unfoldable pub rows_of : (ℕ → ℕ) → ℕ → ℕ → Texts
rows_of word a zero = []
rows_of word a (suc n) = row_of word a ++ rows_of word (a + 8) n

each_rows : (m : Model) (a n : ℕ) → is_sound m ≡ true → 0xB0 ≤ a → a + 8 * n ≤ 0x100 → rows m a n ≡ rows_of (register_word m) a n
unfolding rows rows_of
each_rows m a zero sound low high = refl
each_rows m a (suc n) sound low high =
    rw (each_row m a sound low (omega (arith, high)), each_rows m (a + 8) n sound (omega arith) (omega (arith, high)))

-- The ten lines of a sound model, each word by its address.
pub ten-rows : (m : Model) → is_sound m ≡ true → registers m ≡ rows_of (register_word m) 0xB0 10
unfolding registers
ten-rows m sound = each_rows m 0xB0 10 sound (omega arith) (omega arith)

-- ---- `expect`

next-is : (a : ℕ) → a < 4294967295 → next a ≡ a + 1
next-is a h = omega arith

zero_of : (has wanted n : ℕ) → cond (eqb has wanted) 0 1 + n ≡ 0 → (has ≡ wanted) × (n ≡ 0)
zero_of has wanted n =
    by_eqb has wanted (λ p e. rw e (λ z. (p, omega arith))) (λ p e. rw e (λ z. absurd (omega arith)))

-- Every word from a on is the one wanted.
unfoldable pub Alike : Model → ℕ → List ℕ → Type 0
Alike m a ws = (i : ℕ) → i < length ws → read_word m (a + i) ≡ get_or ws i 0

alike : (m : Model) (a : ℕ) (ws : List ℕ) → a + length ws < 4294967296 → differing m a ws ≡ 0 → Alike m a ws
unfolding differing Alike
alike m a [] h e i less = absurd (omega arith)
alike m a (w ∷ ws) h e zero less = rw add-zero (zero_of (read_word m a) w (differing m (next a) ws) e).0
alike m a (w ∷ ws) h e (suc i) less =
    let after : next a ≡ a + 1 = next-is a (omega arith) in
    let there : a + suc i ≡ next a + i = omega arith in
    rw there (alike m (next a) ws (omega arith) (zero_of (read_word m a) w (differing m (next a) ws) e).1 i (omega arith))

same_first : (has wanted n : ℕ) → has ≡ wanted → n ≡ 0 → cond (eqb has wanted) 0 1 + n ≡ 0
same_first has wanted n p z = by_eqb has wanted (λ _ e. rw e (omega arith)) (λ q _. absurd (q p))

none_differ : (m : Model) (a : ℕ) (ws : List ℕ) → a + length ws < 4294967296 → Alike m a ws → differing m a ws ≡ 0
unfolding differing Alike
none_differ m a [] h all = refl
none_differ m a (w ∷ ws) h all =
    let after : next a ≡ a + 1 = next-is a (omega arith) in
    let first : read_word m a ≡ w = rw add-zero at (all 0 (omega arith)) in
    let later : Alike m (next a) ws = λ i less. let there : next a + i ≡ a + suc i = omega arith in rw there (all (suc i) (omega arith)) in
    same_first (read_word m a) w (differing m (next a) ws) first (none_differ m (next a) ws (omega arith) later)

-- None differs exactly when every register from a on holds the word wanted.
pub alike-exactly : (m : Model) (a : ℕ) (ws : List ℕ) → a + length ws < 4294967296 → (differing m a ws ≡ 0) ↔ Alike m a ws
alike-exactly m a ws h = (alike m a ws h, none_differ m a ws h)

-- Of a sound model, and addresses that a read has: `ok` exactly when each register's word is the one wanted.
pub ok-exactly : (m : Model) (a : ℕ) (ws : List ℕ) → is_sound m ≡ true → 0xB0 ≤ a → a + length ws ≤ 0x100
    → (differing m a ws ≡ 0) ↔ ((i : ℕ) → i < length ws → register_word m (a + i) ≡ get_or ws i 0)
unfolding Alike
ok-exactly m a ws sound low high =
    let both = alike-exactly m a ws (omega arith) in (
      λ e i less. sym (read_word_lem m (a + i) sound (omega arith) (omega arith)) ∙ both.0 e i less,
      λ all. both.1 (λ i less. read_word_lem m (a + i) sound (omega arith) (omega arith) ∙ all i less),
    )

-- A word as wanted is not told, another one is told with both.
pub word-told : (a has wanted : ℕ) → (has ≡ wanted → pair a has wanted ≡ [])
    × ((has ≡ wanted → ⊥) → pair a has wanted ≡ ascii " " ∷ digits 16 2 a ∷ ascii ":" ∷ digits 16 4 has ∷ ascii "/" ∷ digits 16 4 wanted ∷ [])
unfolding pair
word-told a has wanted =
    (λ p. by_eqb has wanted (λ _ e. rw e) (λ q _. absurd (q p)), λ p. by_eqb has wanted (λ q _. absurd (p q)) (λ _ e. rw e))

none_told : (m : Model) (a : ℕ) (ws : List ℕ) → differing m a ws ≡ 0 → pairs m a ws ≡ []
unfolding differing pairs
none_told m a [] e = refl
none_told m a (w ∷ ws) e =
    let z = zero_of (read_word m a) w (differing m (next a) ws) e in
    rw ((word-told a (read_word m a) w).0 z.0, none_told m (next a) ws z.1)

-- The whole line, where none differs.
pub ok-line : (m : Model) (a : ℕ) (ws : List ℕ) → differing m a ws ≡ 0
    → expectation m a ws ≡ ascii "expect " ∷ digits 16 2 a ∷ ascii " ok" ∷ line_feed ∷ []
unfolding expectation head
ok-line m a ws e = rw (e, none_told m a ws e)

-- Its first words, where some differ.
pub differs-said : (a n : ℕ) → ¬ (n ≡ 0) → head a n ≡ ascii "expect " ∷ digits 16 2 a ∷ ascii " differs" ∷ []
unfolding head
differs-said a n e = rw (ne_eqb n 0 e)

-- The word at each place is told where it differs, after those before it and before those behind it, with its own address.
pub told-in-order : (m : Model) (a : ℕ) (us : List ℕ) (w : ℕ) (ws : List ℕ) → a + length us + 1 < 4294967296
    → pairs m a (us ++ (w ∷ ws))
    ≡ pairs m a us ++ (pair (a + length us) (read_word m (a + length us)) w ++ pairs m (a + length us + 1) ws)
unfolding pairs
told-in-order m a [] w ws h = rw (add-zero, next-is a (omega arith))
told-in-order m a (u ∷ us) w ws h =
    let after : next a ≡ a + 1 = next-is a (omega arith) in
    let there : next a + length us ≡ a + suc (length us) = omega arith in
    rw (told-in-order m (next a) us w ws (omega arith), there, append_assoc)

-- ---- the words that differ, by their places

-- Of the n places from k on, those at which a test fails, in order.
unfoldable pub others : (ℕ → Bool) → ℕ → ℕ → List ℕ
others test k zero = []
others test k (suc n) = cond (test k) (others test (k + 1) n) (k ∷ others test (k + 1) n)

-- a number is one of a list
abbrev pub OneOf : ℕ → List ℕ → Type 0
OneOf i [] = ⊥
OneOf i (j ∷ js) = (i ≡ j) ⊎ OneOf i js

-- each number of a list is at least k, and below those behind it
abbrev pub RisingFrom : ℕ → List ℕ → Type 0
RisingFrom k [] = Unit
RisingFrom k (j ∷ js) = (k ≤ j) × RisingFrom (j + 1) js

rising-below : (k j : ℕ) (js : List ℕ) → k ≤ j → RisingFrom j js → RisingFrom k js
rising-below k j [] h r = tt
rising-below k j (i ∷ js) h r = (omega (arith, r.0), r.1)

module _ (test : ℕ → Bool) where
  -- They stand in order,
  pub others-rise : (k n : ℕ) → RisingFrom k (others test k n)
  unfolding others
  others-rise k zero = tt
  others-rise k (suc n) =
      let rest = others-rise (k + 1) n in
      by-test (test k) (λ e. rw e (rising-below k (k + 1) (others test (k + 1) n) (omega arith) rest)) (λ e. rw e (omega arith, rest))

  -- and are those at which the test fails, and no others.
  other-fails : (k n i : ℕ) → OneOf i (others test k n) → (k ≤ i) × (i < k + n) × (test i ≡ false)
  unfolding others
  other-fails k zero i = λ h. absurd h
  other-fails k (suc n) i =
      let rest : OneOf i (others test (k + 1) n) → (k ≤ i) × (i < k + suc n) × (test i ≡ false)
      = λ h. let r = other-fails (k + 1) n i h in (omega (arith, r.0), omega (arith, r.1), r.2) in
      by-test (test k) (λ e. rw e rest)
      (λ e. rw e (λ h. ⊎_elim (λ (same : i ≡ k). (omega (arith, same), omega (arith, same), ap test same ∙ e)) rest h))

  fails-other : (k n i : ℕ) → k ≤ i → i < k + n → test i ≡ false → OneOf i (others test k n)
  unfolding others
  fails-other k zero i low high e = absurd (omega (arith, low, high))
  fails-other k (suc n) i low high e =
      by_eqb i k
      (λ same _. let here : test k ≡ false = ap test (sym same) ∙ e in rw here (inl same))
      (λ other _.
      let rest : OneOf i (others test (k + 1) n) = fails-other (k + 1) n i (omega (arith, low, other)) (omega (arith, high)) e in
      by-test (test k) (λ t. rw t rest) (λ t. rw t (inr rest)))

  pub others-exactly : (k n i : ℕ) → OneOf i (others test k n) ↔ ((k ≤ i) × (i < k + n) × (test i ≡ false))
  others-exactly k n i = (other-fails k n i, λ h. fails-other k n i h.0 h.1 h.2)

-- ` ADDRESS:HELD/EXPECTED` of the word at place i, counted from 0
abbrev pub told_at : Model → ℕ → List ℕ → ℕ → Texts
told_at m a ws i =
    ascii " " ∷ digits 16 2 (a + i) ∷ ascii ":" ∷ digits 16 4 (register_word m (a + i)) ∷ ascii "/" ∷ digits 16 4 (get_or ws i 0) ∷ []

unfoldable pub told_each : Model → ℕ → List ℕ → List ℕ → Texts
told_each m a ws [] = []
told_each m a ws (i ∷ is) = told_at m a ws i ++ told_each m a ws is

-- whether the word at place i is the one expected, and the places of those that are not
abbrev pub same_at : Model → ℕ → List ℕ → ℕ → Bool
same_at m a ws i = eqb (register_word m (a + i)) (get_or ws i 0)

abbrev pub differing_at : Model → ℕ → List ℕ → List ℕ
differing_at m a ws = others (same_at m a ws) 0 (length ws)

-- These are the places, in order, whose registers hold another word.
pub differing-exactly : (m : Model) (a : ℕ) (ws : List ℕ)
    → RisingFrom 0 (differing_at m a ws) × ((i : ℕ) → OneOf i (differing_at m a ws) ↔ ((i < length ws) × ¬ (register_word m (a + i) ≡ get_or ws i 0)))
differing-exactly m a ws = (
  others-rise (same_at m a ws) 0 (length ws),
  λ i. let both = others-exactly (same_at m a ws) 0 (length ws) i in (
    λ h. (omega (arith, (both.0 h).1), eqb-false (register_word m (a + i)) (get_or ws i 0) (both.0 h).2),
    λ h. both.1 (omega arith, omega (arith, h.0), ne_eqb (register_word m (a + i)) (get_or ws i 0) h.1),
  ),
)

module _ (m : Model) (a : ℕ) (sound : is_sound m ≡ true) (low : 0xB0 ≤ a) where
  -- The words from place k on.
  pairs-from : (all ws : List ℕ) (k : ℕ) → a + k + length ws ≤ 0x100 → ((j : ℕ) → j < length ws → get_or all (k + j) 0 ≡ get_or ws j 0)
      → pairs m (a + k) ws ≡ told_each m a all (others (same_at m a all) k (length ws))
  unfolding pairs pair others told_each
  pairs-from all [] k high same = refl
  pairs-from all (w ∷ ws) k high same =
      let here : get_or all k 0 ≡ w = rw add-zero at (same 0 (omega arith)) in
      let word = read_word_lem m (a + k) sound (omega arith) (omega (arith, high)) in
      let after : next (a + k) ≡ a + (k + 1) = omega (arith, high) in
      let rest : pairs m (a + (k + 1)) ws ≡ told_each m a all (others (same_at m a all) (k + 1) (length ws))
      = pairs-from all ws (k + 1) (omega (arith, high))
      (λ j less. let there : k + 1 + j ≡ k + suc j = omega arith in rw there (same (suc j) (omega (arith, less)))) in
      by-test (eqb (register_word m (a + k)) (get_or all k 0)) (λ e. rw (word, after, ← here, e, rest)) (λ e. rw (word, after, ← here, e, rest))

  -- The whole line, where some register holds another word than expected: each of these in order, and no other, by its address, with both
  -- words.
  pub differs-line : (ws : List ℕ) → a + length ws ≤ 0x100 → ¬ ((i : ℕ) → i < length ws → register_word m (a + i) ≡ get_or ws i 0)
      → expectation m a ws
      ≡ ascii "expect " ∷ digits 16 2 a ∷ ascii " differs" ∷ (told_each m a ws (differing_at m a ws) ++ (line_feed ∷ []))
  unfolding expectation
  differs-line ws high some =
      let here : pairs m a ws ≡ told_each m a ws (differing_at m a ws)
      = ap (λ (x : ℕ). pairs m x ws) (sym (add-zero a))
      ∙ pairs-from ws ws 0 (omega (arith, high)) (λ j less. let there : 0 + j ≡ j = omega arith in rw there) in
      rw (differs-said a (differing m a ws) (λ none. some ((ok-exactly m a ws sound low high).0 none)), here)

  -- `ok` is said where every register from a on holds the word expected.
  pub alike-line : (ws : List ℕ) → a + length ws ≤ 0x100 → ((i : ℕ) → i < length ws → register_word m (a + i) ≡ get_or ws i 0)
      → expectation m a ws ≡ ascii "expect " ∷ digits 16 2 a ∷ ascii " ok" ∷ line_feed ∷ []
  alike-line ws high all = ok-line m a ws ((ok-exactly m a ws sound low high).1 all)

  -- the other line has another letter behind the address
  ok-only : (ws : List ℕ) → a + length ws ≤ 0x100
      → joined (expectation m a ws) ≡ joined (ascii "expect " ∷ digits 16 2 a ∷ ascii " ok" ∷ line_feed ∷ [])
      → (i : ℕ) → i < length ws → register_word m (a + i) ≡ get_or ws i 0
  unfolding expectation joined digits ascii
  ok-only ws high said =
      by_eqb (differing m a ws) 0 (λ none _. (ok-exactly m a ws sound low high).0 none)
      (λ some _.
      let line = rw (differs-said a (differing m a ws) some) at said in
      let z : 100 ≡ 111 = ap (λ (l : List ℕ). get_or l 10 0) line in
      absurd (omega (arith, z)))

  -- The line is `expect A ok` exactly when every register from A on holds the word expected.
  pub ok-said-exactly : (ws : List ℕ) → a + length ws ≤ 0x100
      → (joined (expectation m a ws) ≡ joined (ascii "expect " ∷ digits 16 2 a ∷ ascii " ok" ∷ line_feed ∷ []))
      ↔ ((i : ℕ) → i < length ws → register_word m (a + i) ≡ get_or ws i 0)
  ok-said-exactly ws high = (ok-only ws high, λ all. ap joined (alike-line ws high all))
