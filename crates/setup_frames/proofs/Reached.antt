-- A set-up on its way: the words of s below a place, and the factory's from there on. What a write of the next words makes of it.
use Prim.Native.Nat.{ℕ, zero, suc, ◌+◌, ◌-◌, ◌*◌, ◌≤◌, ◌<◌}
use native.Mathlib.Nat.{add-zero}
use native.Mathlib.Omega.{arith}
use mathlib.Core.Bool.{true, false}
use mathlib.Core.List.{List, [], ◌∷◌, ◌++◌, append_assoc, append-nil}
use mathlib.Core.Path.{◌≡◌, refl, sym, ap, ◌∙◌}
use lib.ListN.{length, get_or, take, drop, set}
use lib.Seq.{take-suc, drop-cons, set_at, length-take-le, take_all}
use borrow.Author.Tests.{le-ltb, eqb-true}
use Rattle.calendar.specs.Words.{time_digits, minute_in, hour_fits, hour_named, hour_in, twelve_in, alarm_valid}
use Rattle.setup.specs.Setup.{factory, alarm_word}
use Rattle.frame.specs.Frame.{word_at}
use Rattle.device.specs.Write.{with_word, setup_after}
use Rattle.device.proofs.Table.{negated}
use Rattle.setup_frames.specs.Frames.{differs, bytes_of}
use Rattle.setup_frames.proofs.Words.{Words}

unfoldable pub reached : List ℕ → ℕ → List ℕ
reached s e = take e s ++ drop e factory

-- no word yet, and all
pub reached-none : (s : List ℕ) → reached s 0 ≡ factory
unfolding reached
reached-none s = refl

pub reached-all : (s : List ℕ) → length s ≡ 16 → reached s 16 ≡ s
unfolding reached factory
reached-all s l = append-nil (take 16 s) ∙ take_all 16 s (omega arith)

-- the words around place e
module _ (s : List ℕ) (l : length s ≡ 16) (e : ℕ) (h : e < 16) where
  here : reached s e ≡ take e s ++ get_or factory e 0 ∷ drop (suc e) factory
  unfolding reached factory
  here = rw (drop-cons factory e 0 h)

  next : reached s (suc e) ≡ take e s ++ get_or s e 0 ∷ drop (suc e) factory
  unfolding reached
  next = rw (take-suc s e 0 (omega arith), append_assoc (take e s) (get_or s e 0 ∷ []) (drop (suc e) factory))

  -- one word more
  pub reached-set : set (reached s e) e (get_or s e 0) ≡ reached s (suc e)
  reached-set =
      rw (here, next) (set_at (take e s) (get_or factory e 0) (drop (suc e) factory) (get_or s e 0) e (length-take-le e s (omega arith)))

  -- a word that does not differ
  pub reached-same : differs s e ≡ false → reached s e ≡ reached s (suc e)
  unfolding differs
  reached-same d =
      rw (here, next) (ap (λ (x : ℕ). take e s ++ x ∷ drop (suc e) factory) (sym (eqb-true (get_or s e 0) (get_or factory e 0) (negated _ d))))

-- the alarm is the fresh model's, or that of s
pub fresh-alarm : alarm_valid 0 ≡ true
unfolding alarm_valid time_digits minute_in hour_fits hour_named hour_in twelve_in
fresh-alarm = refl

pub reached-alarm :
    (s : List ℕ) (e : ℕ) →
    length s ≡ 16 →
    alarm_valid (alarm_word s) ≡ true →
    alarm_valid (alarm_word (reached s e)) ≡ true
unfolding reached factory alarm_word
reached-alarm [] e l v = absurd (omega arith)
reached-alarm (x ∷ []) e l v = absurd (omega arith)
reached-alarm (x ∷ y ∷ s) zero l v = fresh-alarm
reached-alarm (x ∷ y ∷ s) (suc zero) l v = fresh-alarm
reached-alarm (x ∷ y ∷ s) (suc (suc e)) l v = v

-- the words of a frame's bytes: "Words go high byte first" (01)
word_of :
    (s : List ℕ) →
    Words s →
    (n i k : ℕ) →
    k < n →
    i + n ≤ 16 →
    word_at (bytes_of s i n) k ≡ get_or s (i + k) 0
unfolding bytes_of word_at
word_of s w zero i k h m = absurd (omega arith)
word_of s w (suc n) i zero h m = rw (add-zero i) (omega (arith, w.below i (omega arith)))
word_of s w (suc n) i (suc k) h m =
    let a : 2 * suc k ≡ suc (suc (2 * k)) = omega arith in
    let b : 2 * suc k + 1 ≡ suc (suc (2 * k + 1)) = omega arith in
    let c : i + suc k ≡ suc i + k = omega arith in
    rw (b, a, c) (word_of s w n (suc i) k (omega arith) (omega arith))

-- a write of n words of s, from place i on
pub reached-write :
    (s : List ℕ) →
    Words s →
    (i most n : ℕ) →
    n ≤ most →
    i + most ≤ 16 →
    setup_after (bytes_of s i most) (0x34 + i) (reached s i) n ≡ reached s (i + n)
unfolding setup_after with_word
reached-write s w i most zero h m = rw (add-zero i)
reached-write s w i most (suc n) h m =
    let place : 0x34 + i + n - 0x34 ≡ i + n = omega arith in
    let after : i + suc n ≡ suc (i + n) = omega arith in
    rw (
      le-ltb (0x34 + i + n) 0x34 (omega arith),
      place,
      reached-write s w i most n (omega arith) m,
      word_of s w most i n (omega arith) m,
      after,
    )
    (reached-set s w.sixteen (i + n) (omega arith))
