-- What a write and an erase leave, byte by byte.
use Prim.Native.Nat.{ℕ, zero, suc, ◌+◌, ◌*◌, ◌/◌, ◌%◌, ◌≤◌, ◌<◌}
use native.Mathlib.Nat.{suc-add}
use native.Mathlib.Omega.{arith}
use mathlib.Core.Path.{◌≡◌, refl, sym, ap, ◌∙◌}
use mathlib.Core.Logic.{◌⊎◌, inl, inr, ⊎_elim}
use mathlib.Core.List.{List, [], ◌∷◌, ◌++◌}
use lib.ListN.{length, get_or, take, drop, set, replicate, length-set}
use lib.Seq.{get_or-set_same, get_or-set_other}
use Rattle.unit.proofs.Cases.{by-ltb, by_eqb}
use Rattle.flash.specs.Flash.{block_size, flash_word, flash_written, erased_from, flash_erased, first_word}

-- "Words lie high byte first"
pub word-means :
    (mem : List ℕ) (a : ℕ) →
    get_or mem (a + 1) 0 < 256 →
    (flash_word mem a / 256 ≡ get_or mem a 0) × (flash_word mem a % 256 ≡ get_or mem (a + 1) 0)
unfolding flash_word
word-means mem a h = omega arith

-- A write keeps the length, sets its two bytes and no other.
pub length-written : (mem : List ℕ) (a w : ℕ) → length (flash_written mem a w) ≡ length mem
unfolding flash_written
length-written mem a w = simp length-set

module _ (mem : List ℕ) (a w : ℕ) where
  pub written-high : a + 1 < length mem → get_or (flash_written mem a w) a 0 ≡ w / 256 % 256
  unfolding flash_written
  written-high h =
      get_or-set_other (set mem a (w / 256 % 256)) (a + 1) a (w % 256) 0 (λ e. omega arith)
      ∙ get_or-set_same mem a (w / 256 % 256) 0 (omega arith)

  pub written_low : a + 1 < length mem → get_or (flash_written mem a w) (a + 1) 0 ≡ w % 256
  unfolding flash_written
  written_low h =
      get_or-set_same (set mem a (w / 256 % 256)) (a + 1) (w % 256) 0 (rw length-set h)

  pub written-kept : (i : ℕ) → ¬ (i ≡ a) → ¬ (i ≡ a + 1) → get_or (flash_written mem a w) i 0 ≡ get_or mem i 0
  unfolding flash_written
  written-kept i m n =
      get_or-set_other (set mem a (w / 256 % 256)) (a + 1) i (w % 256) 0 n
      ∙ get_or-set_other mem a i (w / 256 % 256) 0 m

-- A word in the first two bytes of an output is a word written at 0.
pub first-written : (out : List ℕ) (w : ℕ) → first_word out w ≡ flash_written out 0 w
unfolding first_word flash_written
first-written out w = refl

-- A word put into a part of the memory, two bytes from a on, is a word written at a.
pub part-written :
    (mem : List ℕ) (a w : ℕ) →
    a + 1 < length mem →
    take a mem ++ (first_word (take 2 (drop a mem)) w ++ drop 2 (drop a mem)) ≡ flash_written mem a w
unfolding first_word flash_written
part-written [] a w h = absurd (omega arith)
part-written (x ∷ []) zero w h = absurd (omega arith)
part-written (x ∷ y ∷ mem) zero w h = refl
part-written (x ∷ mem) (suc a) w h = rw suc-add (ap (λ (l : List ℕ). x ∷ l) (part-written mem a w (omega arith)))

-- An erase keeps the length, sets each byte of the block that holds the address and no other.
length-erased-from : (mem : List ℕ) (start n : ℕ) → length (erased_from mem start n) ≡ length mem
unfolding erased_from
length-erased-from mem start zero = refl
length-erased-from mem start (suc n) = rw length-set (length-erased-from mem start n)

erased-from-kept :
    (mem : List ℕ) (start n i : ℕ) →
    (i < start) ⊎ (start + n ≤ i) →
    get_or (erased_from mem start n) i 0 ≡ get_or mem i 0
unfolding erased_from
erased-from-kept mem start zero i o = refl
erased-from-kept mem start (suc n) i o =
    get_or-set_other (erased_from mem start n) (start + n) i 0xFF 0 (⊎_elim (λ l e. omega arith) (λ m e. omega arith) o)
    ∙ erased-from-kept mem start n i (⊎_elim (λ l. inl l) (λ m. inr (omega arith)) o)

erased-from-set :
    (mem : List ℕ) (start n i : ℕ) →
    start + n ≤ length mem →
    start ≤ i →
    i < start + n →
    get_or (erased_from mem start n) i 0 ≡ 0xFF
unfolding erased_from
erased-from-set mem start zero i room from to = absurd (omega arith)
erased-from-set mem start (suc n) i room from to =
    by_eqb i (start + n)
    (λ e t. rw e (get_or-set_same (erased_from mem start n) (start + n) 0xFF 0 (rw length-erased-from (omega arith))))
    (λ e t. get_or-set_other (erased_from mem start n) (start + n) i 0xFF 0 e
    ∙ erased-from-set mem start n i (omega arith) from (omega arith))

-- A part of the memory that is filled with FFh, n bytes from `start` on, is erased from there: by the first byte, and by those before it.
erased-first : (x : ℕ) (mem : List ℕ) (n : ℕ) → erased_from (x ∷ mem) 0 (suc n) ≡ 0xFF ∷ erased_from mem 0 n
unfolding erased_from
erased-first x mem zero = refl
erased-first x mem (suc n) =
    let next : 0 + suc n ≡ suc (0 + n) = omega arith in
    ap (λ (l : List ℕ). set l (0 + suc n) 0xFF) (erased-first x mem n)
    ∙ ap (λ (k : ℕ). set (0xFF ∷ erased_from mem 0 n) k 0xFF) next

erased-later : (x : ℕ) (mem : List ℕ) (start n : ℕ) → erased_from (x ∷ mem) (suc start) n ≡ x ∷ erased_from mem start n
unfolding erased_from
erased-later x mem start zero = refl
erased-later x mem start (suc n) =
    let next : suc start + n ≡ suc (start + n) = omega arith in
    ap (λ (l : List ℕ). set l (suc start + n) 0xFF) (erased-later x mem start n)
    ∙ ap (λ (k : ℕ). set (x ∷ erased_from mem start n) k 0xFF) next

part-filled :
    (mem : List ℕ) (start n : ℕ) →
    start + n ≤ length mem →
    take start mem ++ (replicate n 0xFF ++ drop n (drop start mem)) ≡ erased_from mem start n
unfolding erased_from
part-filled mem zero zero h = refl
part-filled [] zero (suc n) h = absurd (omega arith)
part-filled (x ∷ mem) zero (suc n) h =
    ap (λ (l : List ℕ). 0xFF ∷ l) (part-filled mem zero n (omega arith)) ∙ sym (erased-first x mem n)
part-filled [] (suc start) zero h = absurd (omega arith)
part-filled [] (suc start) (suc n) h = absurd (omega arith)
part-filled (x ∷ mem) (suc start) n h =
    ap (λ (l : List ℕ). x ∷ l) (part-filled mem start n (omega arith)) ∙ sym (erased-later x mem start n)

pub part-erased :
    (mem : List ℕ) (a : ℕ) →
    a / 256 * 256 + 256 ≤ length mem →
    take (a / 256 * 256) mem ++ (replicate 256 0xFF ++ drop 256 (drop (a / 256 * 256) mem)) ≡ flash_erased mem a
unfolding flash_erased
part-erased mem a h = part-filled mem (a / block_size * block_size) block_size h

pub length-erased : (mem : List ℕ) (a : ℕ) → length (flash_erased mem a) ≡ length mem
unfolding flash_erased
length-erased mem a = length-erased-from mem (a / block_size * block_size) block_size

-- by the block's first byte, at a / 256 * 256 ..
module _ (mem : List ℕ) (a i : ℕ) where
  pub kept-bytes :
      (i < a / 256 * 256) ⊎ (a / 256 * 256 + 256 ≤ i) →
      get_or (flash_erased mem a) i 0 ≡ get_or mem i 0
  unfolding flash_erased
  kept-bytes o =
      erased-from-kept mem (a / block_size * block_size) block_size i (⊎_elim (λ l. inl (omega arith)) (λ m. inr (omega arith)) o)

  pub erased-bytes :
      a / 256 * 256 + 256 ≤ length mem →
      a / 256 * 256 ≤ i →
      i < a / 256 * 256 + 256 →
      get_or (flash_erased mem a) i 0 ≡ 0xFF
  unfolding flash_erased
  erased-bytes room from to =
      erased-from-set mem (a / block_size * block_size) block_size i (omega arith) (omega arith) (omega arith)

  -- .. and by the block's number
  pub kept-blocks : ¬ (i / 256 ≡ a / 256) → get_or (flash_erased mem a) i 0 ≡ get_or mem i 0
  kept-blocks n =
      by-ltb i (a / 256 * 256)
      (λ l t. kept-bytes (inl l))
      (λ l t. kept-bytes (inr (omega arith)))

  pub erased-block : length mem ≡ 8192 → a ≤ 0x1FFF → i / 256 ≡ a / 256 → get_or (flash_erased mem a) i 0 ≡ 0xFF
  erased-block size h e = erased-bytes (omega arith) (omega arith) (omega arith)
