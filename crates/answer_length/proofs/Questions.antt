-- How long the answers of the lines that ask are at most, but for the page. Assumes nothing.
use Prim.Native.Nat.{ℕ, zero, suc, ◌+◌, ◌-◌, ◌*◌, ◌≤◌}
use mathlib.Core.List.{List, [], ◌∷◌}
use mathlib.Core.Path.{◌≡◌}
use native.Mathlib.Omega.{arith}
use lib.Dec.{eqb}
use lib.ListN.{length, take}
use Rattle.unit.proofs.Cases.{by_eqb, by-test}
use Rattle.numeral.proofs.DigitLaws.{length_digits}
use Rattle.device.specs.declared.Model.{Model}
use Rattle.device.specs.Model.{is_sound}
use Rattle.device.specs.Question.{interrupt_pending, awaited_told}
use Rattle.setup_frames.specs.Frames.{differs, starts, run_length, bytes_of, frame_at, frames_from, frames}
use Rattle.numeral.specs.Ascii.{ascii}
use Rattle.wording.specs.Wording.{line_feed, head, pair, blank_word, word_texts, row_texts, byte_texts, frame_texts, frame_lines}
use Rattle.item_state.specs.Told.{told_value, read_word}
use Rattle.item_questions.specs.Answers.{interrupt, awaited, next, row_words, row, rows, registers, differing, pairs, expectation}
use Rattle.answer_text.specs.Texts.{told_of_expect, told_of_frames}
use Rattle.answer_length.proofs.Sizes.{size, size-append, cond-size, take-most, decimal-most, counted-size, refused-size}

pub interrupt-size : (m : Model) → size (interrupt m) ≤ 8
unfolding size interrupt ascii
interrupt-size m = by_eqb (told_value (interrupt_pending m)) 0 (λ h e. rw e (omega arith)) (λ h e. rw e (omega arith))

pub awaited-size : (m : Model) → size (awaited m) ≤ 50
unfolding size awaited ascii
awaited-size m =
    omega (
      arith,
      decimal-most (told_value (awaited_told m m.flight.schedule)),
      decimal-most (told_value (awaited_told m m.temperature.schedule)),
    )

-- ---- `regs`

words_size : (ws : List ℕ) → size (word_texts ws) ≡ 5 * length ws
unfolding size word_texts blank_word ascii
words_size [] = omega arith
words_size (w ∷ ws) = rw size-append (omega (arith, length_digits 16 4 w, words_size ws))

words-many : (m : Model) (a n : ℕ) → length (row_words m a n) ≡ n
unfolding row_words
words-many m a zero = omega arith
words-many m a (suc n) = omega (arith, words-many m (next a) n)

row-size : (m : Model) (a : ℕ) → size (row m a) ≡ 43
unfolding size row row_texts
row-size m a = rw size-append (omega (arith, length_digits 16 2 a, words_size (row_words m a 8), words-many m a 8))

rows-size : (m : Model) (a n : ℕ) → size (rows m a n) ≡ 43 * n
unfolding size rows
rows-size m a zero = omega arith
rows-size m a (suc n) = rw size-append (omega (arith, row-size m a, rows-size m (a + 8) n))

pub registers-size : (m : Model) → size (registers m) ≡ 430
unfolding registers
registers-size m = rows-size m 0xB0 10

-- ---- `expect`

head-size : (a n : ℕ) → size (head a n) ≤ 17
unfolding size head ascii
head-size a n =
    let two = length_digits 16 2 a in
    by_eqb n 0 (λ h e. rw e (omega arith)) (λ h e. rw e (omega arith))

pair_size : (address has wanted : ℕ) → size (pair address has wanted) ≤ 13
unfolding size pair ascii
pair_size address has wanted =
    cond-size (eqb has wanted) [] _ 13 (omega arith)
    (omega (arith, length_digits 16 2 address, length_digits 16 4 has, length_digits 16 4 wanted))

pairs-size : (m : Model) (a : ℕ) (ws : List ℕ) → size (pairs m a ws) ≤ 13 * length ws
unfolding size pairs
pairs-size m a [] = omega arith
pairs-size m a (w ∷ ws) = rw size-append (omega (arith, pair_size a (read_word m a) w, pairs-size m (next a) ws))

pub told-expect-size : (m : Model) (a n : ℕ) (numbers counts : List ℕ) → n ≤ 80
    → size (told_of_expect m a (take n numbers) counts).texts ≤ 1058
unfolding size told_of_expect expectation
told-expect-size m a n numbers counts h =
    let ws : List ℕ = take n numbers in
    rw (size-append, size-append)
    (omega (arith, head-size a (differing m a ws), pairs-size m a ws, (take-most n numbers).0))

-- ---- `frames`

run-most : (s : List ℕ) (i k : ℕ) → run_length s i k ≤ k
unfolding run_length
run-most s i zero = omega arith
run-most s i (suc k) =
    by-test (differs s i) (λ e. rw e (omega (arith, run-most s (suc i) k))) (λ e. rw e (omega arith))

bytes-length : (s : List ℕ) (i n : ℕ) → length (bytes_of s i n) ≡ 2 * n
unfolding bytes_of
bytes-length s i zero = omega arith
bytes-length s i (suc n) = omega (arith, bytes-length s (suc i) n)

bytes-size : (bs : List ℕ) → size (byte_texts bs) ≡ 3 * length bs
unfolding size byte_texts ascii
bytes-size [] = omega arith
bytes-size (b ∷ bs) = omega (arith, length_digits 16 2 b, bytes-size bs)

-- a frame has at most 33 bytes
frame-size : (s : List ℕ) (i : ℕ) → size (frame_texts (frame_at s i)) ≤ 105
unfolding size frame_texts frame_at ascii
frame-size s i =
    let n : ℕ = run_length s i (16 - i) in
    rw size-append
    (omega (arith, bytes-size (frame_at s i), bytes-length s i n, run-most s i (16 - i)))

frames-size : (s : List ℕ) (i k : ℕ) → size (frame_lines (frames_from s i k)) ≤ 105 * k
unfolding size frame_lines frames_from
frames-size s i zero = omega arith
frames-size s i (suc k) =
    by-test (starts s i)
    (λ e. rw (e, size-append) (omega (arith, frame-size s i, frames-size s (suc i) k)))
    (λ e. rw e (omega (arith, frames-size s (suc i) k)))

pub told-frames-size : (m : Model) (counts : List ℕ) → size (told_of_frames m counts).texts ≤ 1708
unfolding size told_of_frames frames ascii
told-frames-size m counts =
    by-test (is_sound m)
    (λ e. rw (e, size-append)
    (omega (arith, counted-size (length (frames_from m.setup 0 16)) line_feed, frames-size m.setup 0 16)))
    (λ e. rw e (omega (arith, refused-size (ascii "frames") 0)))
