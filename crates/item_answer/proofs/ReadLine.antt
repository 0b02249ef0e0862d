-- `read` is a read that is not refused, and has the words that `expect` and `regs` have. Assumes nothing.
use Prim.Native.Nat.{ℕ, zero, suc, ◌+◌, ◌-◌, ◌*◌, ◌/◌, ◌%◌, ◌≤◌, ◌<◌}
use native.Mathlib.Omega.{arith}
use mathlib.Core.Bool.{true}
use mathlib.Core.List.{List, [], ◌∷◌}
use mathlib.Core.Path.{◌≡◌, refl, ◌∙◌}
use lib.ListN.{length, get_or, replicate, length-replicate}
use borrow.Author.Tests.{le-ltb, ne_eqb}
use Rattle.frame.specs.Frame.{is_read, not_whole, past_end}
use Rattle.frame.proofs.Laws.{read-means, read-alone}
use Rattle.device.specs.declared.Model.{Model}
use Rattle.device.specs.Model.{is_sound}
use Rattle.device.specs.Registers.{register_word}
use Rattle.device.specs.Reply.{output, output_by, accepted_output}
use Rattle.device.proofs.RegisterMeaning.{fill-length}
use Rattle.device.proofs.BusMeaning.{read-bytes}
use Rattle.item_answer.specs.Words.{words_of, registers}
use Rattle.item_answer.specs.Answer.{Item, read_call, read_words}
use Rattle.device.specs.Call.{transaction, accepted, verdict, first_of, table, no_frame, not_carried, wrong_length, past_registers, short_output, while_busy, supply_off, unreachable, unerased, bad_calendar, not_initialised, bad_setup, not_awaited, miscounted, too_long}

-- "No such read is refused": of n words from the address a on, with two bytes for each behind the address and in the buffer
frame-accepted :
    (m : Model) (a n : ℕ) (l o x : List ℕ) →
    is_sound m ≡ true →
    0xB0 ≤ a →
    1 ≤ n →
    a + n ≤ 0x100 →
    length l ≡ 2 * n →
    length o ≡ 2 * n →
    verdict m (transaction (a ∷ l) o x) ≡ accepted
unfolding verdict first_of table no_frame not_carried wrong_length past_registers short_output while_busy supply_off unreachable unerased bad_calendar not_initialised bad_setup not_awaited miscounted too_long not_whole past_end
frame-accepted m a n l o x sound low some high frame buffer =
    let r : is_read a ≡ true = (read-means a).1 (low, omega arith) in
    let (c, w, u) = read-alone a r in
    let behind : suc (2 * n) - 1 ≡ 2 * n = omega arith in
    let half : 2 * n / 2 ≡ n = omega arith in
    rw (
      sound,
      c,
      w,
      u,
      r,
      frame,
      buffer,
      behind,
      half,
      ne_eqb (suc (2 * n)) 0 (λ e. omega (arith, e)),
      ne_eqb (2 * n) 0 (λ e. omega (arith, e)),
      ne_eqb (2 * n % 2) 1 (λ e. omega (arith, e)),
      le-ltb 0x100 (a + n) high,
      le-ltb (2 * n) (2 * n) (omega arith),
    )

-- bytes that hold the words of n registers from a on, "high byte first"
abbrev Hold : Model → ℕ → ℕ → List ℕ → Type 0
Hold m a n bytes =
    (i : ℕ) →
    i < n →
    (get_or bytes (2 * i) 0 ≡ register_word m (a + i) / 256 % 256) × (get_or bytes (2 * i + 1) 0 ≡ register_word m (a + i) % 256)

-- the bytes behind the first word hold the words behind the first
others-hold : (m : Model) (a n high low : ℕ) (bytes : List ℕ) → Hold m a (suc n) (high ∷ low ∷ bytes) → Hold m (a + 1) n bytes
others-hold m a n high low bytes h i small =
    let even : 2 * (i + 1) ≡ suc (suc (2 * i)) = omega arith in
    let odd : 2 * (i + 1) + 1 ≡ suc (suc (2 * i + 1)) = omega arith in
    let next : a + (i + 1) ≡ a + 1 + i = omega arith in
    let r = h (i + 1) (omega arith) in
    (rw (even, next) at r.0, rw (odd, next) at r.1)

-- words of 16 bits are whole in their two bytes
words-held :
    (m : Model) (small : (b : ℕ) → register_word m b < 65536) (a n : ℕ) (bytes : List ℕ) →
    length bytes ≡ 2 * n →
    Hold m a n bytes →
    words_of bytes ≡ registers m a n
unfolding words_of registers
words-held m small a zero [] l h = refl
words-held m small a zero (b ∷ bytes) l h = absurd (omega (arith, l))
words-held m small a (suc n) [] l h = absurd (omega (arith, l))
words-held m small a (suc n) (b ∷ []) l h = absurd (omega (arith, l))
words-held m small a (suc n) (high ∷ low ∷ bytes) l h =
    let r = h 0 (omega arith) in
    let here : a + 0 ≡ a = omega arith in
    let upper : high ≡ register_word m a / 256 % 256 = rw here at r.0 in
    let lower : low ≡ register_word m a % 256 = rw here at r.1 in
    let whole : high * 256 + low ≡ register_word m a = omega (arith, upper, lower, small a) in
    rw (whole, words-held m small (a + 1) n bytes (omega (arith, l)) (others-hold m a n high low bytes h))

module _ (i : Item) (a n : ℕ) (sound : is_sound i.model ≡ true) (low : 0xB0 ≤ a) (some : 1 ≤ n) (high : a + n ≤ 0x100) where
  -- "No such read is refused."
  pub read-accepted : verdict i.model (read_call i a n) ≡ accepted
  read-accepted =
      frame-accepted i.model a n (replicate (2 * n) 0) (replicate (2 * n) 0xEE) i.flash sound low some high
      (length-replicate (2 * n) 0)
      (length-replicate (2 * n) 0xEE)

  -- the buffer has as many bytes as before
  output-length : length (output i.model (read_call i a n)) ≡ 2 * n
  unfolding output output_by accepted_output
  output-length =
      let (c, w, u) = read-alone a ((read-means a).1 (low, omega arith)) in
      rw (read-accepted, c, w, u)
      (fill-length i.model a (replicate (2 * n) 0xEE) ((suc (length (replicate (2 * n) 0)) - 1) / 2)
      ∙ length-replicate (2 * n) 0xEE)

  bytes-held : Hold i.model a n (output i.model (read_call i a n))
  bytes-held k small =
      let filler : List ℕ = replicate (2 * n) 0 in
      let count : (suc (length filler) - 1) / 2 ≡ n = rw (length-replicate {A = ℕ} (2 * n) 0) (omega arith) in
      read-bytes i.model (a ∷ replicate (2 * n) 0) (replicate (2 * n) 0xEE) i.flash read-accepted (low, omega arith) k
      (omega (arith, count))

  -- `read` has the words that `expect` and `regs` have: those of the registers before it clears the status.
  pub read-words : ((b : ℕ) → register_word i.model b < 65536) → read_words i a n ≡ registers i.model a n
  unfolding read_words
  read-words small =
      words-held i.model small a n (output i.model (read_call i a n)) output-length bytes-held
