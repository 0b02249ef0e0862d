-- The chip's user flash, a list of bytes: what a read, a write and a block erase give, and the tests of numbers 16 and 17.
-- Quotations are from Note 8 of the change requests, but for the one that names 000, the data sheet.
use Rattle.std.specs.Prelude.{ℕ, zero, suc, ◌+◌, ◌*◌, ◌/◌, ◌%◌, Bool, List, get_or, set, ltb, eqb}
use Rattle.unit.specs.Choice.{either, negate}

-- "a lent 8,192-byte memory"
abbrev pub flash_size : ℕ
flash_size = 8192

-- "block size as document 000 gives it under that command"; 000, Block Erase Flash Command: "A block of 128 words (256 bytes)"
abbrev pub block_size : ℕ
block_size = 256

-- "Words lie high byte first": the word at address a
unfoldable pub flash_word : List ℕ → ℕ → ℕ
flash_word mem a = get_or mem a 0 * 256 + get_or mem (a + 1) 0

-- the memory with word w at address a; "Every byte outside the word or block keeps its value"
unfoldable pub flash_written : List ℕ → ℕ → ℕ → List ℕ
flash_written mem a w = set (set mem a (w / 256 % 256)) (a + 1) (w % 256)

-- the memory with FFh in n bytes from `start` on
unfoldable pub erased_from : List ℕ → ℕ → ℕ → List ℕ
erased_from mem start zero = mem
erased_from mem start (suc n) = set (erased_from mem start n) (start + n) 0xFF

-- "Erase sets the block holding the address to FFFFh"
unfoldable pub flash_erased : List ℕ → ℕ → List ℕ
flash_erased mem a = erased_from mem (a / block_size * block_size) block_size

-- a flash read's output, "of which it fills the first two" bytes
unfoldable pub first_word : List ℕ → ℕ → List ℕ
first_word out w = set (set out 0 (w / 256 % 256)) 1 (w % 256)

-- "16 flash address for a memory of another size": by the memory's length
unfoldable pub wrong_size : ℕ → Bool
wrong_size size = negate (eqb size flash_size)

-- "16 flash address for .. an odd address in a read or write"
unfoldable pub odd_address : ℕ → Bool
odd_address a = eqb (a % 2) 1

-- "16 flash address for .. one above 1FFFh"
unfoldable pub beyond : ℕ → Bool
beyond a = ltb 0x1FFF a

-- number 16 for a read or a write
unfoldable pub address_refused : ℕ → ℕ → Bool
address_refused size a = either (wrong_size size) (either (odd_address a) (beyond a))

-- number 16 for an erase
unfoldable pub erase_refused : ℕ → ℕ → Bool
erase_refused size a = either (wrong_size size) (beyond a)

-- "17 not erased for a write on another word": other than FFFFh
unfoldable pub not_erased : List ℕ → ℕ → Bool
not_erased mem a = negate (eqb (flash_word mem a) 0xFFFF)
