-- The set-up registers 34h to 43h as a list of sixteen words, and their bit fields as data sheet 000 places them.
use Rattle.std.specs.Prelude.{ℕ, ◌+◌, ◌-◌, ◌*◌, min, Bool, List, [], ◌∷◌, get_or, eqb}
use Rattle.unit.specs.Choice.{either, negate}
use Rattle.unit.specs.Bits.{bits, is_set}
use Rattle.unit.specs.declared.Ticks.{Ticks}

-- "configuration at the factory values in 000's tables (38h is 0010h, 43h is 0000h; 0000h where none is printed)"
unfoldable pub factory : List ℕ
factory = 0 ∷ 0 ∷ 0 ∷ 0 ∷ 0x10 ∷ 0 ∷ 0 ∷ 0 ∷ 0 ∷ 0 ∷ 0 ∷ 0 ∷ 0 ∷ 0 ∷ 0 ∷ 0 ∷ []

-- The word of the register that is written at address a, 34h to 43h.
abbrev pub word_of : List ℕ → ℕ → ℕ
word_of s a = get_or s (a - 0x34) 0

-- "Alarm 35h"
unfoldable pub alarm_word : List ℕ → ℕ
alarm_word s = word_of s 0x35

-- "H = STOP + 1 and at most 6 (STOP is 15:13 of 39h)"
unfoldable pub hit_count : List ℕ → ℕ
hit_count s = min (bits 15 13 (word_of s 0x39) + 1) 6

-- "k = TIMOUT (2:0 of 39h)"
unfoldable pub timeout : List ℕ → ℕ
timeout s = bits 2 0 (word_of s 0x39)

-- "PORTCYC is 1:0 of 40h"
unfoldable pub port_cycle : List ℕ → ℕ
port_cycle s = bits 1 0 (word_of s 0x40)

-- "for flight, PL (15:8 of 38h) or DPL (7:4) zero"
unfoldable pub flight_unset : List ℕ → Bool
flight_unset s = either (eqb (bits 15 8 (word_of s 0x38)) 0) (eqb (bits 7 4 (word_of s 0x38)) 0)

-- "for temperature, TP (6:5 of 40h) not 11b"
unfoldable pub temperature_unset : List ℕ → Bool
temperature_unset s = negate (eqb (bits 6 5 (word_of s 0x40)) 0b11)

-- "The clock stands while EOSC (bit 4 of 43h) is 1"
unfoldable pub clock_stands : List ℕ → Bool
clock_stands s = is_set 4 (word_of s 0x43)

-- "Meters in the field run with ET_CONT set. Such an event is now accepted" (Note 5): ET_CONT is bit 8 of 42h
unfoldable pub event_continuous : List ℕ → Bool
event_continuous s = is_set 8 (word_of s 0x42)

-- "Differences: P = 16,384 × (TDF + 1), N = TDM + 1 (TDF 15:12, TDM 11:7 of 3Fh)"
unfoldable pub difference_period : List ℕ → Ticks
difference_period s = record { 0 = 16384 * (bits 15 12 (word_of s 0x3F) + 1) }

unfoldable pub difference_count : List ℕ → ℕ
difference_count s = bits 11 7 (word_of s 0x3F) + 1

-- "Temperatures: P = 32,768 × (TMF + 1), N = TMM + 1 (TMF 6:1 of 3Fh, TMM 15:11 of 40h)"
unfoldable pub temperature_period : List ℕ → Ticks
temperature_period s = record { 0 = 32768 * (bits 6 1 (word_of s 0x3F) + 1) }

unfoldable pub temperature_count : List ℕ → ℕ
temperature_count s = bits 15 11 (word_of s 0x40) + 1

-- "INT_EN (bit 9 of 42h)"
unfoldable pub interrupt_enabled : List ℕ → Bool
interrupt_enabled s = is_set 9 (word_of s 0x42)

-- "CONT_INT (bit 7 of 42h)"
unfoldable pub each_interrupt : List ℕ → Bool
each_interrupt s = is_set 7 (word_of s 0x42)

-- "AM (3:2 of 43h)"
unfoldable pub alarm_mode : List ℕ → ℕ
alarm_mode s = bits 3 2 (word_of s 0x43)
