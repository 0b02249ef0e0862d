-- "Status bits: TO 15, AF 14, TOF 12, TE 11, TOF_EVTMG 9, TEMP_EVTMG 8, HALT 5, INIT 3, POR 2." "LDO_ON sets status bit 10; a write
-- or erase sets bit 7." (Note 8): LDO and FLASH, as 000 names them.
use Rattle.std.specs.Prelude.{ℕ, ◌+◌, ◌^◌, Bool, true, false, eqb}
use Rattle.device.specs.Base.{pick, either, both, negate, Schedule, Status}
use Rattle.device.specs.Event.{in_event, is_last}

-- The bits, by their names in 000.
pub data Bit : Type 0 where
  TO : Bit
  AF : Bit
  TOF : Bit
  TE : Bit
  LDO : Bit
  TOF-EVTMG : Bit
  TEMP-EVTMG : Bit
  FLASH : Bit
  HALT : Bit
  INIT : Bit
  POR : Bit

-- the bit's place in the word
abbrev pub place : Bit → ℕ
place TO = 15
place AF = 14
place TOF = 12
place TE = 11
place LDO = 10
place TOF-EVTMG = 9
place TEMP-EVTMG = 8
place FLASH = 7
place HALT = 5
place INIT = 3
place POR = 2

-- whether a status has the bit set
abbrev pub has : Status → Bit → Bool
has s TO = s.timeout
has s AF = s.alarm
has s TOF = s.tof
has s TE = s.te
has s LDO = s.ldo
has s TOF-EVTMG = s.tofevtmg
has s TEMP-EVTMG = s.tempevtmg
has s FLASH = s.flash
has s HALT = s.halt
has s INIT = s.init
has s POR = s.por

-- the status whose bits are those that the test names
abbrev pub status_of : (Bit → Bool) → Status
status_of test =
    record {
      timeout = test TO;
      alarm = test AF;
      tof = test TOF;
      te = test TE;
      ldo = test LDO;
      tofevtmg = test TOF-EVTMG;
      tempevtmg = test TEMP-EVTMG;
      flash = test FLASH;
      halt = test HALT;
      init = test INIT;
      por = test POR;
    }

abbrev pub is_bit : Bit → Bit → Bool
is_bit a b = eqb (place a) (place b)

unfoldable pub no_bits : Status
no_bits = status_of (λ b. false)

-- the bits that either of two statuses has
unfoldable pub joined : Status → Status → Status
joined s t = status_of (λ b. either (has s b) (has t b))

-- the bit's part of the word
abbrev pub weight : Status → Bit → ℕ
weight s b = pick (has s b) (2 ^ place b) 0

unfoldable pub status_word : Status → ℕ
status_word s =
    weight s TO + weight s AF + weight s TOF + weight s TE + weight s LDO + weight s TOF-EVTMG + weight s TEMP-EVTMG +
    weight s FLASH +
    weight s HALT +
    weight s INIT +
    weight s POR

-- "A single one sets TOF or TE when delivered or failed." "With CONT_INT .. each settled one sets TOF or TE."
unfoldable pub sets_own_bit : Schedule → Bool → Bool
sets_own_bit k each = pick (in_event k) each true

-- What settling a flight measurement sets: "A word late: the measurement fails, .. TO is set"; "Settling the N-th sets
-- TOF_EVTMG or TEMP_EVTMG."
unfoldable pub flight_bits : Schedule → Bool → Bool → Bool → Status
flight_bits k each settles failed =
    pick settles
    (status_of (λ b. pick (is_bit TO b) failed (pick (is_bit TOF b) (sets_own_bit k each) (both (is_bit TOF-EVTMG b) (is_last k)))))
    no_bits

-- What settling a temperature measurement sets: "any open .. sets TO", and nothing else does: "A short alone does not set TO"
-- (Note 3).
unfoldable pub temperature_bits : Schedule → Bool → Bool → Bool → Status
temperature_bits k each settles opened =
    pick settles
    (status_of (λ b. pick (is_bit TO b) opened (pick (is_bit TE b) (sets_own_bit k each) (both (is_bit TEMP-EVTMG b) (is_last k)))))
    no_bits

unfoldable pub alarm_bit : Bool → Status
alarm_bit rings = status_of (λ b. both (is_bit AF b) rings)

-- one bit alone
unfoldable pub init_bit : Status
init_bit = status_of (is_bit INIT)

unfoldable pub halt_bit : Status
halt_bit = status_of (is_bit HALT)

unfoldable pub por_bit : Status
por_bit = status_of (is_bit POR)

-- "LDO_ON sets status bit 10; a write or erase sets bit 7." (Note 8)
unfoldable pub ldo_bit : Status
ldo_bit = status_of (is_bit LDO)

unfoldable pub flash_bit : Status
flash_bit = status_of (is_bit FLASH)

-- 000, LDO_OFF Command: "the internal regulator is disabled and the Interrupt Status register LDO bit is cleared."
unfoldable pub without_ldo : Status → Status
without_ldo s = status_of (λ b. both (negate (is_bit LDO b)) (has s b))
