-- The page of `show`: behind the registers "the state of the run, which no register tells, and what the model would answer to commands as it
-- stands". What stands in quotation marks is the description of the page. Assumes nothing.
use Rattle.std.specs.Prelude.{ℕ, List, [], ◌∷◌, ◌++◌, eqb, replicate}
use Prim.Native.String.{String}
use Rattle.unit.specs.Choice.{pick}
use Rattle.unit.specs.Bits.{bits, is_set}
use Rattle.numeral.specs.Ascii.{ascii}
use Rattle.numeral.specs.Print.{decimal}
use Rattle.device.specs.declared.Model.{Model}
use Rattle.device.specs.declared.Schedule.{Schedule}
use Rattle.device.specs.Event.{in_event, starts_left}
use Rattle.device.specs.Registers.{register_word}
use Rattle.device.specs.Bus.{starts_flight, starts_temperature, is_event}
use Rattle.device.specs.Call.{Call}
use Rattle.device.specs.Reply.{reply, number_in}
use Rattle.text.specs.Text.{Text, text_where, spaced_each}
use Rattle.item_page.specs.Row.{refusal, plural, binary, name_where}
use Rattle.item_page.specs.Registers.{register_rows}

-- ---- the state of the run

-- "without a delivery it fails in so many ticks, in the last of them"
unfoldable pub awaited_text : Schedule → Text
awaited_text k =
    pick (eqb k.left.0 0) (ascii "none awaited") (ascii "awaited, fails in " ++ plural k.left.0 " tick")

-- "An event has N of a kind to make (TDM or TMM), of which some are started, settled (good or failed) and good"; "`none`: no event of that
-- kind runs"
unfoldable pub event_text : Schedule → Text
event_text k =
    pick (in_event k)
    (decimal k.started ++ ascii " of " ++ decimal k.planned ++ ascii " started, " ++ decimal k.settled
    ++ ascii " settled, " ++ decimal k.good ++ ascii " good")
    (ascii "none")

-- the ticks until the next start; "`none`: .. all its measurements are started"
unfoldable pub wait_text : Schedule → Text
wait_text k = pick (starts_left k) (ascii "in " ++ plural k.wait.0 " tick") (ascii "none")

-- "With `continuous`, behind the next start, the counts are those of the current group"
unfoldable pub next_text : Schedule → Text
next_text k = pick (in_event k) (wait_text k ++ text_where k.continuous (ascii ", continuous")) (ascii "none")

unfoldable pub run_rows : Model → List Text
run_rows m =
    ascii "STATE OF THE RUN"
    ∷ (ascii "       Initialised                         " ++ pick m.initialised (ascii "yes") (ascii "no"))
    ∷ (ascii "       Flight measurement                  " ++ awaited_text m.flight.schedule)
    ∷ (ascii "       Temperature measurement             " ++ awaited_text m.temperature.schedule)
    ∷ (ascii "       Event of differences                " ++ event_text m.flight.schedule)
    ∷ (ascii "       Next difference                     " ++ next_text m.flight.schedule)
    ∷ (ascii "       Event of temperatures               " ++ event_text m.temperature.schedule)
    ∷ (ascii "       Next temperature                    " ++ next_text m.temperature.schedule)
    ∷ []

-- ---- commands

-- "Behind number 9 stand the fields that are in its way: PL or DPL is 0, TP is not 11b, EOSC is 1"
unfoldable pub flight_fields : ℕ → List Text
flight_fields w = name_where (eqb (bits 15 8 w) 0) "PL 0" ++ name_where (eqb (bits 7 4 w) 0) "DPL 0"

unfoldable pub temperature_fields : ℕ → List Text
temperature_fields w = pick (eqb (bits 6 5 w) 0b11) [] ((ascii "TP " ++ binary (bits 6 5 w)) ∷ [])

unfoldable pub clock_fields : ℕ → List Text
clock_fields w = name_where (is_set 4 w) "EOSC 1"

-- A command of flight measurements is judged by PL and DPL, one of temperatures by TP, and an event by EOSC.
unfoldable pub fields : Model → ℕ → List Text
fields m op =
    pick (starts_flight op) (flight_fields (register_word m 0xB8)) []
    ++ pick (starts_temperature op) (temperature_fields (register_word m 0xC0)) []
    ++ pick (is_event op) (clock_fields (register_word m 0xC3)) []

-- "Each command has the answer that `bus` would give now, without changing anything: `ok`, or the refusal"; op is the frame's first byte
unfoldable pub answer_text : Model → ℕ → List ℕ → Text
answer_text m op [] = ascii "ok"
answer_text m op (number ∷ none) = refusal number ++ text_where (eqb number 9) (ascii ":" ++ spaced_each (fields m op))

-- The frame has two bytes of output and a user flash of zeros: the answer to none of these frames goes by what the flash holds.
unfoldable pub frame_row : Model → String → ℕ → List ℕ → Text
frame_row m label op further =
    ascii label ++ answer_text m op (number_in (reply m (Call.transaction (op ∷ further) (replicate 2 0) (replicate 8192 0))).answer)

-- "The rows of writes and flash frames tell the refusals that any of them would meet": the flash is read at its first word, and 34h, which
-- is stored only, is written.
unfoldable pub command_rows : Model → List Text
command_rows m =
    ascii "COMMANDS NOW"
    ∷ frame_row m "00-02  TOF_UP, TOF_DOWN, TOF_DIFF          " 0x00 []
    ∷ frame_row m "03     Temperature                         " 0x03 []
    ∷ frame_row m "05     Initialize                          " 0x05 []
    ∷ frame_row m "07     EVTMG1, both kinds                  " 0x07 []
    ∷ frame_row m "08     EVTMG2, differences                 " 0x08 []
    ∷ frame_row m "09     EVTMG3, temperatures                " 0x09 []
    ∷ frame_row m "0C 0D  LDO_ON, LDO_OFF                     " 0x0C []
    ∷ frame_row m "10 13  Flash write, erase, read (90)       " 0x90 (0 ∷ 0 ∷ 0 ∷ 0 ∷ [])
    ∷ frame_row m "30-43  Register writes                     " 0x34 (0 ∷ 0 ∷ [])
    ∷ []

-- The whole page, row by row.
unfoldable pub page : Model → List Text
page m = register_rows m ++ run_rows m ++ command_rows m
