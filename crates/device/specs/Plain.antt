-- Register words, frames and measurements in plain numbers: the terms in which the demands and the facts beneath them speak. Quotations
-- are from 01.
use Rattle.std.specs.Prelude.{ℕ, zero, suc, ◌+◌, ◌-◌, ◌*◌, ◌/◌, ◌%◌, ◌≤◌, ◌<◌, true, List, [], ◌∷◌, ◌++◌, map, ◌⊎◌, ◌≡◌, length, get_or}
use Rattle.device.specs.Base.{word_of, word_at, Schedule, Model}
use Rattle.device.specs.Registers.{register_word, upwards}
use Rattle.device.specs.Call.{Call, tick}

-- The n words that a read from address a on gives, and a list of n words w.
abbrev pub words_at : Model → ℕ → ℕ → List ℕ
words_at m a n = map (register_word m) (upwards a n)

abbrev pub repeated : ℕ → ℕ → List ℕ
repeated zero w = []
repeated (suc n) w = w ∷ repeated n w

-- "Fresh: .. configuration at the factory values .. (38h is 0010h, 43h is 0000h ..); results 0; alarm 0; clock 2000-01-01 00:00:00.00,
-- weekday 1": B0h to FFh, FEh with this status
abbrev pub fresh_words : ℕ → List ℕ
fresh_words status = (0 ∷ 0 ∷ 0x0101 ∷ 0x0100 ∷ []) ++ repeated 4 0 ++ (0x0010 ∷ repeated 69 0) ++ (status ∷ 0 ∷ [])

-- The registers of a pair hold a word.
pub record Holds (m : Model) (int : ℕ) (w : ℕ) : Type 0 where
  pub high : register_word m int ≡ w / 65536
  pub low : register_word m (int + 1) ≡ w % 65536

-- The write of n words from register op on leaves register a out.
abbrev pub LeftOut : ℕ → ℕ → ℕ → Type 0
LeftOut op n a = (a < op) ⊎ (op + n ≤ a)

-- The word w of register a after the write: the frame's, or where the write leaves it out the one that it read before.
pub record After (bytes : List ℕ) (op n : ℕ) (m : Model) (a w : ℕ) : Type 0 where
  pub covered : op ≤ a → a < op + n → w ≡ word_at bytes (a - op)
  pub left_out : LeftOut op n a → w ≡ register_word m (a + 0x80)

pub record CalendarAfter (bytes : List ℕ) (op n : ℕ) (m : Model) (w30 w31 w32 w33 : ℕ) : Type 0 where
  pub at30 : After bytes op n m 0x30 w30
  pub at31 : After bytes op n m 0x31 w31
  pub at32 : After bytes op n m 0x32 w32
  pub at33 : After bytes op n m 0x33 w33

-- EOSC, "(bit 4 of 43h)"
abbrev pub eosc_of : Model → ℕ
eosc_of m = word_of m.setup 0x43 / 16 % 2

-- The sorts of frames, by their first byte: "commands 00h to 05h and 07h to 0Ah", and "LDO_ON (0Ch), LDO_OFF (0Dh)" (Note 8); "30h to
-- 43h write"; "B0h to FFh read"; "read (90h), write (10h) and block erase (13h)" of the user flash (Note 8).
abbrev pub Command : List ℕ → Type 0
Command f =
    (get_or f 0 0 ≤ 0x05) ⊎ ((0x07 ≤ get_or f 0 0) × (get_or f 0 0 ≤ 0x0A)) ⊎ ((0x0C ≤ get_or f 0 0) × (get_or f 0 0 ≤ 0x0D))

abbrev pub Write : List ℕ → Type 0
Write f = (0x30 ≤ get_or f 0 0) × (get_or f 0 0 ≤ 0x43)

abbrev pub Read : List ℕ → Type 0
Read f = (0xB0 ≤ get_or f 0 0) × (get_or f 0 0 ≤ 0xFF)

-- "read (90h), write (10h) and block erase (13h)" (Note 8)
abbrev pub Flash : List ℕ → Type 0
Flash f = (get_or f 0 0 ≡ 0x90) ⊎ (get_or f 0 0 ≡ 0x10) ⊎ (get_or f 0 0 ≡ 0x13)

-- n ticks, one after another
unfoldable pub single_ticks : ℕ → List Call
single_ticks zero = []
single_ticks (suc n) = tick ∷ single_ticks n

-- "all four words are neither short nor open" (Note 3): "A word below 32 × 65,536"; "open when it is at least (512 × (PORTCYC + 1) − 8)
-- × 65,536", "PORTCYC is 1:0 of 40h"; by the set-up s
abbrev pub Whole : List ℕ → List ℕ → Type 0
Whole s w =
    (i : ℕ) → i < length w → (32 * 65536 ≤ get_or w i 0) × (get_or w i 0 < (512 * (word_of s 0x40 % 4 + 1) - 8) * 65536)

-- "a measurement is awaited or an event runs": one is awaited while ticks are left to it; an event runs if it is continuous, or until
-- all its measurements are settled.
abbrev pub Running : Schedule → Type 0
Running k = (0 < k.left.0) ⊎ (k.continuous ≡ true) ⊎ (k.settled < k.planned)
