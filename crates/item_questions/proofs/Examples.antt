-- Answers of questions in plain words and numbers. Assumes nothing.
use Rattle.std.proofs.Common.{◌≡◌, ℕ, false, [], ◌∷◌, refl}
use Prim.Native.String.{String}
use Rattle.numeral.specs.Ascii.{ascii}
use Rattle.numeral.specs.Digit.{digits, glyph}
use Rattle.numeral.specs.Place.{joined, overwrite, next_place, written, put_each}
use Rattle.numeral.specs.Print.{width_from, decimal_width, decimal}
use Rattle.device.specs.declared.Model.{Model}
use Rattle.device.specs.Model.{is_sound}
use Rattle.device.specs.Question.{interrupt_pending, awaited_told}
use Rattle.wording.specs.Wording.{counted as Wording·counted, head, pair, byte_texts, frame_texts, frame_lines, refusal_words, refusal_word, refusal, refused}
use Rattle.item_state.specs.Log.{Log, added, call_counted, counted, called}
use Rattle.item_state.specs.Told.{told_value, read_word}
use Rattle.item_questions.specs.Answers.{interrupt, awaited, next, frames_told, frames_line, differing, pairs, expectation, expect_line}

-- the first nine counts, and the answers
abbrev log : ℕ → ℕ → ℕ → ℕ → String → Log
log used calls wanted differ text = record { counts = used ∷ 0 ∷ 0 ∷ calls ∷ 3 ∷ 0 ∷ 0 ∷ wanted ∷ differ ∷ []; answers = ascii text }

module _ (m : Model) where
  yes-and-no : (told_value (interrupt_pending m) ≡ 1 → joined (interrupt m) ≡ ascii "int yes\n") × (told_value (interrupt_pending m) ≡ 0 → joined (interrupt m) ≡ ascii "int no\n")
  unfolding interrupt joined ascii
  yes-and-no = (λ e. rw e refl, λ e. rw e refl)

  -- flight, then temperature
  kinds-awaited : (told_value (awaited_told m m.flight.schedule) ≡ 1 → told_value (awaited_told m m.temperature.schedule) ≡ 0 → joined (awaited m) ≡ ascii "awaited 1 0\n")
      × (told_value (awaited_told m m.flight.schedule) ≡ 0 → told_value (awaited_told m m.temperature.schedule) ≡ 1 → joined (awaited m) ≡ ascii "awaited 0 1\n")
  unfolding awaited joined decimal decimal_width width_from digits glyph ascii
  kinds-awaited = (λ f t. rw (f, t) refl, λ f t. rw (f, t) refl)

  -- TOF_DIFF of −125,902 quanta, of which the second word is not the one that is expected
  one-differs : read_word m 0xE2 ≡ 0xFFFE → read_word m 0xE3 ≡ 0x1432
      → expect_line m 0xE2 (0xFFFE ∷ 0x1433 ∷ []) (log 2 7 5 1 "..............................................") ≡ log 33 7 7 2 "..expect E2 differs E3:1432/1433\n............."
  unfolding expect_line expectation differing pairs head pair put_each written next_place overwrite added digits glyph ascii
  one-differs a b = rw (a, b) refl

-- the address behind E2h, and behind the largest of 32 bits
addresses : (next 0xE2 ≡ 0xE3) × (next 4294967295 ≡ 0)
addresses = (refl, refl)

-- two frames
frames-listed : frames_told 2 ((0x38 ∷ 0x10 ∷ 0x10 ∷ []) ∷ (0x42 ∷ 0x02 ∷ 0x00 ∷ []) ∷ []) (log 1 7 5 1 "..............................................") ≡ log 40 8 5 1 ".frames 2\nframe 38 10 10\nframe 42 02 00\n......"
unfolding frames_told frame_lines frame_texts byte_texts Wording·counted called counted call_counted added put_each written next_place overwrite decimal decimal_width width_from digits glyph ascii
frames-listed = refl

-- an unsound model, which no item has: number 0, a call and a refusal more
no_frames : (m : Model) → is_sound m ≡ false
    → frames_line m (log 1 7 5 1 ".....................") ≡ record { counts = 20 ∷ 0 ∷ 0 ∷ 8 ∷ 4 ∷ 0 ∷ 0 ∷ 5 ∷ 1 ∷ []; answers = ascii ".frames no 0 record\n." }
unfolding frames_line called counted call_counted added refused refusal refusal_word refusal_words put_each written next_place overwrite decimal decimal_width width_from digits glyph ascii
no_frames m e = rw e refl
