-- The rows of the clock and the alarm. Assumes nothing.
use Rattle.std.specs.Prelude.{ℕ, ◌/◌, cond, List, [], ◌∷◌, ◌++◌, eqb}
use Rattle.unit.specs.Bits.{bits}
use Rattle.calendar.specs.Words.{twelve_in}
use Rattle.numeral.specs.Digit.{digits}
use Rattle.numeral.specs.Print.{decimal}
use Rattle.device.specs.declared.Model.{Model}
use Rattle.numeral.specs.Ascii.{ascii}
use Rattle.wording.specs.Wording.{Texts}
use Rattle.item_state.specs.Told.{read_word}
use Rattle.page.specs.Row.{register_row, stored_row}

-- a byte of BCD, "four bits a digit": the low byte of a word, and the high one
abbrev pub low : ℕ → List ℕ
low w = digits 16 2 w

abbrev pub high : ℕ → List ℕ
high w = digits 16 2 (w / 256)

-- `SS.HH` of 30h: seconds and hundredths
unfoldable pub seconds : ℕ → Texts
seconds w = low w ∷ ascii "." ∷ high w ∷ []

-- "Hours stand as their word has them": bit 5 is one of their digits in the 24-hour form alone
unfoldable pub hours : ℕ → ℕ
hours w = cond (twelve_in w) (bits 4 0 w) (bits 5 0 w)

-- `HH:MM` of 31h or 35h, whose minutes are bits 14:8
unfoldable pub time_of_day : ℕ → Texts
time_of_day w = digits 16 2 (hours w) ∷ ascii ":" ∷ digits 16 2 (bits 14 8 w) ∷ []

-- "`02:23 PM` where it has 12-hour form (bit 6 ..)", in which "bit 5 is PM"
unfoldable pub half_day : ℕ → Texts
half_day w = cond (eqb (bits 6 5 w) 0b10) (ascii " AM" ∷ []) (cond (eqb (bits 6 5 w) 0b11) (ascii " PM" ∷ []) [])

unfoldable pub seconds_row : ℕ → Texts
seconds_row w = register_row (ascii "B0     Seconds                  ") w (ascii " " ∷ (seconds w ++ (ascii " s" ∷ [])))

unfoldable pub time_row : ℕ → Texts
time_row w = register_row (ascii "B1     Mins_Hrs                 ") w (ascii " " ∷ (time_of_day w ++ half_day w))

unfoldable pub day_row : ℕ → Texts
day_row w = register_row (ascii "B2     Day_Date                 ") w (ascii " weekday " ∷ decimal (w / 256) ∷ ascii ", date " ∷ low w ∷ [])

unfoldable pub month_row : ℕ → Texts
month_row w = register_row (ascii "B3     Month_Year               ") w (ascii " month " ∷ high w ∷ ascii ", year 20" ∷ low w ∷ [])

-- "The row `Clock` is the date and time of B0h to B3h together": `2026-11-16 14:23:05.50`
unfoldable pub date_texts : ℕ → ℕ → Texts
date_texts day month = ascii "20" ∷ low month ∷ ascii "-" ∷ high month ∷ ascii "-" ∷ low day ∷ ascii " " ∷ []

unfoldable pub clock_row : ℕ → ℕ → ℕ → ℕ → Texts
clock_row second time day month =
    ascii "       Clock                               "
    ∷ (date_texts day month ++ (time_of_day time ++ (ascii ":" ∷ (seconds second ++ half_day time))))

-- "AM | alarm off 00b, when minutes match 01b, when hours match 10b, both 11b"
unfoldable pub alarm_texts : ℕ → Texts
alarm_texts mode =
    cond (eqb mode 0b00) (ascii ", no alarm" ∷ [])
    (cond (eqb mode 0b01) (ascii ", minutes match" ∷ [])
    (cond (eqb mode 0b10) (ascii ", hours match" ∷ []) (ascii ", hours and minutes match" ∷ [])))

unfoldable pub alarm_row : ℕ → ℕ → Texts
alarm_row w mode =
    register_row (ascii "B5     Alarm                    ") w (ascii " " ∷ (time_of_day w ++ (half_day w ++ alarm_texts mode)))

unfoldable pub clock_rows : Model → List Texts
clock_rows m =
    (ascii "RTC AND WATCHDOG REGISTERS" ∷ [])
    ∷ seconds_row (read_word m 0xB0)
    ∷ time_row (read_word m 0xB1)
    ∷ day_row (read_word m 0xB2)
    ∷ month_row (read_word m 0xB3)
    ∷ clock_row (read_word m 0xB0) (read_word m 0xB1) (read_word m 0xB2) (read_word m 0xB3)
    ∷ stored_row (ascii "B4     Watchdog Alarm Counter   ") (read_word m 0xB4)
    ∷ alarm_row (read_word m 0xB5) (bits 3 2 (read_word m 0xC3))
    ∷ []
