-- The answer to `regs`, byte by byte. Assumes nothing.
use Prim.Native.Nat.{ℕ, zero, suc, ◌+◌, ◌*◌, ◌-◌, ◌<◌}
use mathlib.Core.Bool.{true}
use mathlib.Core.List.{List, ◌++◌}
use mathlib.Core.Path.{◌≡◌, refl, ap, ◌∙◌}
use native.Mathlib.Nat.{add-zero}
use native.Mathlib.Omega.{arith}
use lib.ListN.{length, take, drop, length-append}
use lib.Seq.{drop-append-add}
use Rattle.numeral.specs.Ascii.{ascii}
use Rattle.numeral.specs.Digit.{digits}
use Rattle.numeral.specs.Place.{joined}
use Rattle.numeral.specs.Read.{read_hex}
use Rattle.device.specs.declared.Model.{Model}
use Rattle.device.specs.Model.{is_sound}
use Rattle.device.specs.Registers.{register_word}
use Rattle.item_questions.specs.Answers.{registers}
use Rattle.item_questions.proofs.Meaning.{row_of, rows_of, ten-rows, reads-back}
use Rattle.answer_text.proofs.Page.{joined-append}
use Rattle.std.specs.Prelude.{Some}

module _ (word : ℕ → ℕ) where
  -- A line has 43 bytes: two digits, five bytes for each word, a line feed.
  row-long : (a : ℕ) → length (joined (row_of word a)) ≡ 43
  unfolding joined digits ascii
  row-long a = refl

  -- the address, and the word in column j, counted from 0
  row-address : (a : ℕ) (rest : List ℕ) → take 2 (drop 0 (joined (row_of word a) ++ rest)) ≡ digits 16 2 a
  unfolding joined digits ascii
  row-address a rest = refl

  row_word : (a j : ℕ) (rest : List ℕ) → j < 8 → take 4 (drop (3 + 5 * j) (joined (row_of word a) ++ rest)) ≡ digits 16 4 (word (a + j))
  unfolding joined digits ascii
  row_word a zero rest h = rw (add-zero a)
  row_word a (suc zero) rest h = refl
  row_word a (suc (suc zero)) rest h = refl
  row_word a (suc (suc (suc zero))) rest h = refl
  row_word a (suc (suc (suc (suc zero)))) rest h = refl
  row_word a (suc (suc (suc (suc (suc zero))))) rest h = refl
  row_word a (suc (suc (suc (suc (suc (suc zero)))))) rest h = refl
  row_word a (suc (suc (suc (suc (suc (suc (suc zero))))))) rest h = refl
  row_word a (suc (suc (suc (suc (suc (suc (suc (suc j)))))))) rest h = absurd (omega arith)

  rows_long : (a n : ℕ) → length (joined (rows_of word a n)) ≡ 43 * n
  unfolding rows_of joined
  rows_long a zero = refl
  rows_long a (suc n) =
      ap length (joined-append (row_of word a) (rows_of word (a + 8) n))
      ∙ (length-append (joined (row_of word a)) (joined (rows_of word (a + 8) n)) ∙ omega (arith, row-long a, rows_long (a + 8) n))

  -- line i, counted from 0, starts at byte 43 * i
  row-there : (a n i k : ℕ) → i < n
      → drop (43 * i + k) (joined (rows_of word a n)) ≡ drop k (joined (row_of word (a + 8 * i)) ++ joined (rows_of word (a + 8 * i + 8) (n - i - 1)))
  unfolding rows_of
  row-there a zero i k few = absurd (omega (arith, few))
  row-there a (suc n) zero k few =
      let at : 43 * 0 + k ≡ k = omega arith in
      let here : a + 8 * 0 ≡ a = omega arith in
      let left : suc n - 0 - 1 ≡ n = omega arith in
      rw (at, here, left, joined-append (row_of word a) (rows_of word (a + 8) n))
  row-there a (suc n) (suc i) k few =
      let at : 43 * suc i + k ≡ length (joined (row_of word a)) + (43 * i + k) = omega (arith, row-long a) in
      let here : a + 8 + 8 * i ≡ a + 8 * suc i = omega arith in
      let left : n - i - 1 ≡ suc n - suc i - 1 = omega arith in
      rw (at, joined-append (row_of word a) (rows_of word (a + 8) n), drop-append-add (joined (row_of word a)) (joined (rows_of word (a + 8) n)) (43 * i + k), ← here, ← left)
      (row-there (a + 8) n i k (omega (arith, few)))

-- `regs` has 430 bytes, ten lines of 43.
pub regs_long : (m : Model) → is_sound m ≡ true → length (joined (registers m)) ≡ 430
regs_long m sound = rw (ten-rows m sound) (rows_long (register_word m) 0xB0 10)

-- Line i, of ten, starts with the address of its first register,
pub regs-address : (m : Model) (i : ℕ) → is_sound m ≡ true → i < 10 → take 2 (drop (43 * i) (joined (registers m))) ≡ digits 16 2 (0xB0 + 8 * i)
regs-address m i sound few =
    let at : 43 * i ≡ 43 * i + 0 = omega arith in
    rw (ten-rows m sound, at, row-there (register_word m) 0xB0 10 i 0 few) (row-address (register_word m) (0xB0 + 8 * i) _)

-- and has in column j, of eight, the word of the register at that address and j more.
pub regs-word : (m : Model) (i j : ℕ) → is_sound m ≡ true → i < 10 → j < 8
    → take 4 (drop (43 * i + (3 + 5 * j)) (joined (registers m))) ≡ digits 16 4 (register_word m (0xB0 + 8 * i + j))
regs-word m i j sound few less =
    rw (ten-rows m sound, row-there (register_word m) 0xB0 10 i (3 + 5 * j) few) (row_word (register_word m) (0xB0 + 8 * i) j _ less)

-- These four digits read back as the word.
pub regs-reads-back : (m : Model) (i j : ℕ) → is_sound m ≡ true → i < 10 → j < 8 → register_word m (0xB0 + 8 * i + j) < 0x10000
    → read_hex 4 4 (take 4 (drop (43 * i + (3 + 5 * j)) (joined (registers m)))) ≡ Some (register_word m (0xB0 + 8 * i + j))
regs-reads-back m i j sound few less fits = rw (regs-word m i j sound few less) (reads-back (register_word m (0xB0 + 8 * i + j)) fits)
