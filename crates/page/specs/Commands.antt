-- "what the model would answer to commands as it stands". Assumes nothing.
use Rattle.std.specs.Prelude.{ℕ, Bool, cond, List, [], ◌∷◌, ◌++◌, eqb, replicate}
use Rattle.unit.specs.Bits.{bits, is_set}
use Rattle.device.specs.declared.Model.{Model}
use Rattle.device.specs.declared.Answer.{Answer}
use Rattle.device.specs.Bus.{starts_flight, starts_temperature, is_event}
use Rattle.device.specs.Call.{Call}
use Rattle.device.specs.Reply.{reply, number_in}
use Rattle.numeral.specs.Ascii.{ascii}
use Rattle.wording.specs.Wording.{Texts, refusal, reported_where}
use Rattle.item_state.specs.Told.{read_word}
use Rattle.page.specs.Row.{binary}

-- "the answer that `bus` would give now, without changing anything", with two bytes of output and a user flash of zeros: the answer to
-- none of these frames goes by what the flash holds
unfoldable pub answer_to : Model → List ℕ → Answer
answer_to m frame = (reply m (Call.transaction frame (replicate 2 0) (replicate 8192 0))).answer

-- "the fields that are in its way: PL or DPL is 0, TP is not 11b, EOSC is 1", of 38h, 40h and 43h
unfoldable pub flight_fields : Bool → ℕ → Texts
flight_fields judged w =
    cond judged (reported_where (eqb (bits 15 8 w) 0) (ascii " PL 0") ++ reported_where (eqb (bits 7 4 w) 0) (ascii " DPL 0")) []

unfoldable pub temperature_fields : Bool → ℕ → Texts
temperature_fields judged w =
    cond judged (cond (eqb (bits 6 5 w) 0b11) [] (ascii " TP " ∷ binary (bits 6 5 w))) []

unfoldable pub clock_fields : Bool → ℕ → Texts
clock_fields judged w = cond judged (reported_where (is_set 4 w) (ascii " EOSC 1")) []

-- "Number 9 .. means one of these": a command of flight measurements is judged by PL and DPL, one of temperatures by TP, and an event
-- by EOSC
unfoldable pub fields : Model → ℕ → Texts
fields m op =
    flight_fields (starts_flight op) (read_word m 0xB8)
    ++ (temperature_fields (starts_temperature op) (read_word m 0xC0) ++ clock_fields (is_event op) (read_word m 0xC3))

-- "Behind number 9 stand the fields that are in its way"
unfoldable pub refused_texts : Model → ℕ → ℕ → Texts
refused_texts m op number = refusal number ++ cond (eqb number 9) (ascii ":" ∷ fields m op) []

-- "`ok`, or the refusal": op is the frame's first byte
unfoldable pub answer_texts : Model → ℕ → List ℕ → Texts
answer_texts m op [] = ascii " ok" ∷ []
answer_texts m op (number ∷ others) = refused_texts m op number

unfoldable pub frame_row : Model → List ℕ → ℕ → List ℕ → Texts
frame_row m label op frame = label ∷ answer_texts m op (number_in (answer_to m frame))

unfoldable pub command_row : Model → List ℕ → ℕ → Texts
command_row m label op = frame_row m label op (op ∷ [])

-- "The rows of writes and flash frames tell the refusals that any of them would meet": the flash is read at its first word, and 34h,
-- which is stored only, is written
unfoldable pub flash_row : Model → Texts
flash_row m = frame_row m (ascii "10 13  Flash write, erase, read (90)      ") 0x90 (0x90 ∷ 0 ∷ 0 ∷ 0 ∷ 0 ∷ [])

unfoldable pub write_row : Model → Texts
write_row m = frame_row m (ascii "30-43  Register writes                    ") 0x34 (0x34 ∷ 0 ∷ 0 ∷ [])

unfoldable pub command_rows : Model → List Texts
command_rows m =
    (ascii "COMMANDS NOW" ∷ [])
    ∷ command_row m (ascii "00-02  TOF_UP, TOF_DOWN, TOF_DIFF         ") 0x00
    ∷ command_row m (ascii "03     Temperature                        ") 0x03
    ∷ command_row m (ascii "05     Initialize                         ") 0x05
    ∷ command_row m (ascii "07     EVTMG1, both kinds                 ") 0x07
    ∷ command_row m (ascii "08     EVTMG2, differences                ") 0x08
    ∷ command_row m (ascii "09     EVTMG3, temperatures               ") 0x09
    ∷ command_row m (ascii "0C 0D  LDO_ON, LDO_OFF                    ") 0x0C
    ∷ flash_row m
    ∷ write_row m
    ∷ []
