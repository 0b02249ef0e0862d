-- Some memories and addresses, computed.
use Prim.Native.Nat.{ℕ}
use mathlib.Core.Path.{◌≡◌, refl}
use mathlib.Core.Bool.{true, false}
use mathlib.Core.List.{List, [], ◌∷◌, map}
use lib.ListN.{replicate, get_or}
use Rattle.flash.specs.Flash.{flash_word, flash_written, erased_from, flash_erased, first_word, wrong_size, odd_address, beyond, address_refused, erase_refused}
use Rattle.flash.specs.Operation.{Operation, write, erase, after_one, after_all, sets_word, word_set, last_word}

-- 1234h stands as 12h, 34h
pub a_word : flash_word (0xFF ∷ 0xFF ∷ 0x12 ∷ 0x34 ∷ []) 2 ≡ 0x1234
unfolding flash_word
a_word = refl

pub a_write : flash_written (0xFF ∷ 0xFF ∷ 0xFF ∷ 0xFF ∷ 0xFF ∷ []) 2 0x1234 ≡ 0xFF ∷ 0xFF ∷ 0x12 ∷ 0x34 ∷ 0xFF ∷ []
unfolding flash_written
a_write = refl

pub an-output : first_word (0xEE ∷ 0xEE ∷ 0xEE ∷ []) 0xABCD ≡ 0xAB ∷ 0xCD ∷ 0xEE ∷ []
unfolding first_word
an-output = refl

-- 01FFh lies in the block 0100h to 01FFh
pub an-erase :
    map (λ (i : ℕ). get_or (flash_erased (replicate 768 0x00) 0x01FF) i 0) (0x00FF ∷ 0x0100 ∷ 0x01FF ∷ 0x0200 ∷ [])
    ≡ 0x00 ∷ 0xFF ∷ 0xFF ∷ 0x00 ∷ []
unfolding flash_erased erased_from
an-erase = refl

-- the last word; one past it; an odd address; a memory of half the size
pub addresses :
    map (address_refused 8192) (0x0000 ∷ 0x1FFE ∷ 0x1FFF ∷ 0x2000 ∷ 0x0001 ∷ []) ≡ false ∷ false ∷ true ∷ true ∷ true ∷ []
unfolding address_refused wrong_size odd_address beyond
addresses = refl

pub erase-addresses :
    map (erase_refused 8192) (0x0000 ∷ 0x0001 ∷ 0x1FFF ∷ 0x2000 ∷ []) ≡ false ∷ false ∷ false ∷ true ∷ []
unfolding erase_refused wrong_size beyond
erase-addresses = refl

pub other-sizes :
    (address_refused 4096 0 ≡ true) × (address_refused 8193 0 ≡ true) × (erase_refused 4096 0 ≡ true)
unfolding address_refused erase_refused wrong_size odd_address beyond
other-sizes = (refl, refl, refl)

-- words at both ends of the first block and one in the next, then an erase by the first block's last address
abbrev pub logged : List Operation
logged =
    write 0x0000 0x1234 ∷ write 0x00FE 0xABCD ∷ write 0x0100 0x0102 ∷ erase 0x00FF ∷ write 0x0000 0x5678 ∷ []

pub words-logged :
    map (λ (a : ℕ). last_word a logged 0xFFFF) (0x0000 ∷ 0x00FE ∷ 0x0100 ∷ 0x0102 ∷ [])
    ≡ 0x5678 ∷ 0xFFFF ∷ 0x0102 ∷ 0xFFFF ∷ []
unfolding last_word sets_word word_set
words-logged = refl

pub memory-logged :
    map (flash_word (after_all (replicate 512 0xFF) logged)) (0x0000 ∷ 0x00FE ∷ 0x0100 ∷ 0x0102 ∷ [])
    ≡ 0x5678 ∷ 0xFFFF ∷ 0x0102 ∷ 0xFFFF ∷ []
unfolding flash_word flash_written erased_from flash_erased after_one after_all
memory-logged = refl
