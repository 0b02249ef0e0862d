-- What words read after writes and erases.
use Prim.Native.Nat.{ℕ, ◌+◌, ◌/◌, ◌%◌, ◌≤◌, ◌<◌}
use native.Mathlib.Omega.{arith}
use mathlib.Core.Path.{◌≡◌, refl, ◌∙◌}
use mathlib.Core.Logic.{◌↔◌}
use mathlib.Core.Bool.{true, false}
use mathlib.Core.List.{List, [], ◌∷◌, ◌++◌}
use lib.ListN.{length}
use Rattle.unit.specs.Choice.{pick}
use Rattle.unit.proofs.Cases.{by_eqb, holds, fails}
use Rattle.flash.specs.Flash.{flash_word, flash_written, flash_erased}
use Rattle.flash.specs.Operation.{Operation, write, erase, after_one, after_all, sets_word, word_set, last_word, InRange, AllInRange}
use Rattle.flash.proofs.Bytes.{length-written, written-high, written_low, written-kept, length-erased, erased-block, kept-blocks}

-- After one operation.
module _ (mem : List ℕ) (a : ℕ) where
  pub read-written : (w : ℕ) → a + 1 < length mem → w < 65536 → flash_word (flash_written mem a w) a ≡ w
  unfolding flash_word
  read-written w h fits = omega (arith, written-high mem a w h, written_low mem a w h)

  pub read-unwritten :
      (w b : ℕ) → a % 2 ≡ 0 → b % 2 ≡ 0 → ¬ (b ≡ a) → flash_word (flash_written mem a w) b ≡ flash_word mem b
  unfolding flash_word
  read-unwritten w b even even' n =
      rw (written-kept mem a w b n (λ e. omega arith), written-kept mem a w (b + 1) (λ e. omega arith) (λ e. omega arith))

  pub read-erased :
      (b : ℕ) → length mem ≡ 8192 → a ≤ 0x1FFF → b % 2 ≡ 0 → b / 256 ≡ a / 256 → flash_word (flash_erased mem a) b ≡ 0xFFFF
  unfolding flash_word
  read-erased b size h even e =
      omega (arith, erased-block mem a b size h e, erased-block mem a (b + 1) size h (omega arith))

  pub read-unerased :
      (b : ℕ) → b % 2 ≡ 0 → ¬ (b / 256 ≡ a / 256) → flash_word (flash_erased mem a) b ≡ flash_word mem b
  unfolding flash_word
  read-unerased b even n =
      rw (kept-blocks mem a b n, kept-blocks mem a (b + 1) (λ e. n (omega arith)))

-- Which operations set a word, in plain numbers.
pub write-sets : (a b w : ℕ) → (sets_word a (write b w) ≡ true) ↔ (b ≡ a)
unfolding sets_word
write-sets a b w = by_eqb b a (λ e t. rw t (holds e)) (λ n t. rw t (fails false n))

pub erase-sets : (a b : ℕ) → (sets_word a (erase b) ≡ true) ↔ (b / 256 ≡ a / 256)
unfolding sets_word
erase-sets a b = by_eqb (b / 256) (a / 256) (λ e t. rw t (holds e)) (λ n t. rw t (fails false n))

-- After all of a list.
length-one : (mem : List ℕ) (o : Operation) → length (after_one mem o) ≡ length mem
unfolding after_one
length-one mem (write a w) = length-written mem a w
length-one mem (erase a) = length-erased mem a

pub length-after : (os : List Operation) (mem : List ℕ) → length (after_all mem os) ≡ length mem
unfolding after_all
length-after [] mem = refl
length-after (o ∷ os) mem = length-after os (after_one mem o) ∙ length-one mem o

reads-one :
    (mem : List ℕ) (o : Operation) (a : ℕ) →
    length mem ≡ 8192 →
    InRange o →
    a % 2 ≡ 0 →
    flash_word (after_one mem o) a ≡ pick (sets_word a o) (word_set o) (flash_word mem a)
unfolding after_one sets_word word_set
reads-one mem (write b w) a size r even =
    by_eqb b a
    (λ e t. rw (t, e) (read-written mem a w (omega arith) r.2))
    (λ n t. rw t (read-unwritten mem b w a r.0 even (λ e. omega arith)))
reads-one mem (erase b) a size r even =
    by_eqb (b / 256) (a / 256)
    (λ e t. rw t (read-erased mem b a size r even (omega arith)))
    (λ n t. rw t (read-unerased mem b a even (λ e. omega arith)))

-- A word of the memory reads what was last written there, FFFFh where its block was erased since, and what it read at the
-- start where neither happened.
pub reads-last :
    (os : List Operation) (mem : List ℕ) (a : ℕ) →
    length mem ≡ 8192 →
    AllInRange os →
    a % 2 ≡ 0 →
    flash_word (after_all mem os) a ≡ last_word a os (flash_word mem a)
unfolding after_all last_word
reads-last [] mem a size r even = refl
reads-last (o ∷ os) mem a size r even =
    reads-last os (after_one mem o) a (length-one mem o ∙ size) r.1 even
    ∙ rw (reads-one mem o a size r.0 even)

-- No operation of a list sets the word at address a.
abbrev pub NoneSets : ℕ → List Operation → Type 0
NoneSets a [] = Unit
NoneSets a (o ∷ os) = (sets_word a o ≡ false) × NoneSets a os

pub last-kept : (a : ℕ) (os : List Operation) (word : ℕ) → NoneSets a os → last_word a os word ≡ word
unfolding last_word
last-kept a [] word n = refl
last-kept a (o ∷ os) word n = rw n.0 (last-kept a os word n.1)

last-first :
    (a : ℕ) (o : Operation) (later : List Operation) (word : ℕ) →
    sets_word a o ≡ true →
    NoneSets a later →
    last_word a (o ∷ later) word ≡ word_set o
unfolding last_word
last-first a o later word t n = rw t (last-kept a later (word_set o) n)

pub last_set :
    (a : ℕ) (os : List Operation) (o : Operation) (later : List Operation) (word : ℕ) →
    sets_word a o ≡ true →
    NoneSets a later →
    last_word a (os ++ o ∷ later) word ≡ word_set o
unfolding last_word
last_set a [] o later word t n = last-first a o later word t n
last_set a (p ∷ os) o later word t n = last_set a os o later (pick (sets_word a p) (word_set p) word) t n
