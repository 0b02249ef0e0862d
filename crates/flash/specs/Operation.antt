-- A memory after a list of writes and erases, and what a word of it then reads. Lists are in the order of time, the first
-- operation first.
use Rattle.std.specs.Prelude.{ℕ, ◌/◌, ◌%◌, ◌≤◌, ◌<◌, ◌≡◌, Bool, List, [], ◌∷◌, eqb}
use Rattle.unit.specs.Choice.{pick}
use Rattle.flash.specs.Flash.{block_size, flash_written, flash_erased}

-- A write has its address and its word, an erase its address.
pub data Operation : Type 0 where
  write : ℕ → ℕ → Operation
  erase : ℕ → Operation

unfoldable pub after_one : List ℕ → Operation → List ℕ
after_one mem (write a w) = flash_written mem a w
after_one mem (erase a) = flash_erased mem a

unfoldable pub after_all : List ℕ → List Operation → List ℕ
after_all mem [] = mem
after_all mem (o ∷ os) = after_all (after_one mem o) os

-- Whether an operation sets the word at address a: a write there, or an erase of its block.
unfoldable pub sets_word : ℕ → Operation → Bool
sets_word a (write b w) = eqb b a
sets_word a (erase b) = eqb (b / block_size) (a / block_size)

-- The word that an operation sets: the one written, or FFFFh of an erase.
unfoldable pub word_set : Operation → ℕ
word_set (write b w) = w
word_set (erase b) = 0xFFFF

-- What address a reads at the end, where it read `word` at the start: the word last written there, FFFFh where its block was
-- erased since, and the same word where neither happened.
unfoldable pub last_word : ℕ → List Operation → ℕ → ℕ
last_word a [] word = word
last_word a (o ∷ os) word = last_word a os (pick (sets_word a o) (word_set o) word)

-- An operation with an address that number 16 does not refuse, and a word of 16 bits.
abbrev pub InRange : Operation → Type 0
InRange (write a w) = (a % 2 ≡ 0) × (a ≤ 0x1FFE) × (w < 65536)
InRange (erase a) = a ≤ 0x1FFF

abbrev pub AllInRange : List Operation → Type 0
AllInRange [] = Unit
AllInRange (o ∷ os) = InRange o × AllInRange os
