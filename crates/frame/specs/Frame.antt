-- The bytes of one transaction.
use Rattle.std.specs.Prelude.{ℕ, ◌+◌, ◌*◌, ◌%◌, Bool, false, List, get_or, ltb, leb, eqb}
use Rattle.unit.specs.Choice.{pick, either, both, negate}

-- "commands 00h to 05h and 07h to 0Ah"; "Carry LDO_ON (0Ch), LDO_OFF (0Dh)" (Note 8)
unfoldable pub is_command : ℕ → Bool
is_command op = pick (ltb 0x0D op) false (pick (eqb op 0x06) false (negate (eqb op 0x0B)))

-- "30h to 43h write"
unfoldable pub is_write : ℕ → Bool
is_write op = both (leb 0x30 op) (leb op 0x43)

-- "B0h to FFh read"
unfoldable pub is_read : ℕ → Bool
is_read op = both (leb 0xB0 op) (leb op 0xFF)

-- "with a lent 8,192-byte memory read (90h), write (10h) and block erase (13h)" (Note 8)
unfoldable pub is_flash : ℕ → Bool
is_flash op = either (eqb op 0x90) (either (eqb op 0x10) (eqb op 0x13))

-- How many bytes follow the opcode of a flash frame: "a two-byte address, then one word for write or two filler bytes for read",
-- and for erase the address alone (Note 8).
unfoldable pub flash_further : ℕ → ℕ
flash_further op = pick (eqb op 0x13) 2 4

-- "further bytes are not n ≥ 1 whole words"
unfoldable pub not_whole : ℕ → Bool
not_whole further = either (eqb further 0) (eqb (further % 2) 1)

-- "a write past 43h or a read past FFh": so many words from register op on go past the one before `end`
unfoldable pub past_end : ℕ → ℕ → ℕ → Bool
past_end op words end = ltb end (op + words)

-- "Words go high byte first"
unfoldable pub word_at : List ℕ → ℕ → ℕ
word_at bytes i = get_or bytes (2 * i) 0 * 256 + get_or bytes (2 * i + 1) 0
