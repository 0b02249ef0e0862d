-- The rows of the registers B0h to FFh. What stands in quotation marks is the description of the page, or of the set-up fields and of the
-- results. Assumes nothing.
use Rattle.std.specs.Prelude.{ℕ, ◌+◌, ◌*◌, ◌/◌, ◌%◌, min, Bool, List, [], ◌∷◌, ◌++◌, leb, eqb}
use Prim.Native.String.{String}
use Rattle.unit.specs.Choice.{pick, both, negate}
use Rattle.unit.specs.Bits.{bits, is_set}
use Rattle.calendar.specs.Words.{twelve_in}
use Rattle.setup.specs.Table11.{stop_row, timeout_row}
use Rattle.numeral.specs.Ascii.{ascii}
use Rattle.numeral.specs.Digit.{digits}
use Rattle.numeral.specs.Print.{decimal, nanoseconds, signed_nanoseconds}
use Rattle.listing.specs.Listing.{right_justified}
use Rattle.device.specs.declared.Model.{Model}
use Rattle.device.specs.Registers.{register_word}
use Rattle.text.specs.Text.{Text, spaced}
use Rattle.item_page.specs.Row.{pair_word, register_row, pair_row, stored_row, absent_row, absent_pair, plural, binary, name_where, names_or}

-- ---- the clock and the alarm

-- A byte of BCD, "four bits a digit": the low byte of a word, and the high one.
abbrev pub low : ℕ → Text
low w = digits 16 2 w

abbrev pub high : ℕ → Text
high w = digits 16 2 (w / 256)

-- `SS.HH` of 30h: seconds and hundredths.
unfoldable pub seconds : ℕ → Text
seconds w = low w ++ ascii "." ++ high w

-- "Hours stand as their word has them": bit 5 belongs to the hours in the 24-hour form alone.
unfoldable pub hours : ℕ → ℕ
hours w = pick (twelve_in w) (bits 4 0 w) (bits 5 0 w)

-- `HH:MM` of 31h or 35h, whose minutes are bits 14:8.
unfoldable pub time_of_day : ℕ → Text
time_of_day w = digits 16 2 (hours w) ++ ascii ":" ++ digits 16 2 (bits 14 8 w)

-- "`02:23 PM` where it has 12-hour form (bit 6 ..)", in which "bit 5 is PM"
unfoldable pub half_day : ℕ → Text
half_day w = pick (twelve_in w) (pick (is_set 5 w) (ascii " PM") (ascii " AM")) []

-- "The row `Clock` is the date and time of B0h to B3h together": `2026-11-16 14:23:05.50`
unfoldable pub clock_text : ℕ → ℕ → ℕ → ℕ → Text
clock_text second time day month =
    ascii "20" ++ low month ++ ascii "-" ++ high month ++ ascii "-" ++ low day ++ ascii " "
    ++ time_of_day time ++ ascii ":" ++ seconds second ++ half_day time

-- "AM | alarm off 00b, when minutes match 01b, when hours match 10b, both 11b"
unfoldable pub alarm_text : ℕ → Text
alarm_text mode =
    pick (eqb mode 0b00) (ascii ", no alarm")
    (pick (eqb mode 0b01) (ascii ", minutes match")
    (pick (eqb mode 0b10) (ascii ", hours match") (ascii ", hours and minutes match")))

unfoldable pub clock_rows : (ℕ → ℕ) → List Text
clock_rows at =
    ascii "RTC AND WATCHDOG REGISTERS"
    ∷ register_row "B0     Seconds                  " (at 0xB0) (seconds (at 0xB0) ++ ascii " s")
    ∷ register_row "B1     Mins_Hrs                 " (at 0xB1) (time_of_day (at 0xB1) ++ half_day (at 0xB1))
    ∷ register_row "B2     Day_Date                 " (at 0xB2)
    (ascii "weekday " ++ decimal (at 0xB2 / 256) ++ ascii ", date " ++ low (at 0xB2))
    ∷ register_row "B3     Month_Year               " (at 0xB3)
    (ascii "month " ++ high (at 0xB3) ++ ascii ", year 20" ++ low (at 0xB3))
    ∷ (ascii "       Clock                               " ++ clock_text (at 0xB0) (at 0xB1) (at 0xB2) (at 0xB3))
    ∷ stored_row "B4     Watchdog Alarm Counter   " (at 0xB4)
    ∷ register_row "B5     Alarm                    " (at 0xB5)
    (time_of_day (at 0xB5) ++ half_day (at 0xB5) ++ alarm_text (bits 3 2 (at 0xC3)))
    ∷ []

-- ---- the set-up

-- "PL, pulses | 0 is refused ..; 128 and more launch 127"
unfoldable pub pulses : ℕ → Text
pulses pl = pick (eqb pl 0) (ascii "PL off") (ascii "PL " ++ plural (min pl 127) " pulse")

-- "DPL, frequency | 2 MHz ÷ (DPL + 1); 0 is refused"
unfoldable pub divider : ℕ → Text
divider dpl = pick (eqb dpl 0) (ascii ", DPL reserved") (ascii ", DPL 2 MHz / " ++ decimal (dpl + 1))

-- "STOP, hits H in each direction", "TIMOUT k": the data sheet's tables
unfoldable pub hits_text : ℕ → Text
hits_text w =
    ascii "STOP " ++ plural (stop_row (bits 15 13 w)) " hit" ++ ascii ", TIMOUT " ++ decimal (timeout_row (bits 2 0 w)) ++ ascii " us"

-- "differences of an event each P = 16,384 × (TDF + 1) ticks: 0.5 s to 8 s", "N = TDM + 1 differences", "temperatures each
-- P = 32,768 × (TMF + 1) ticks: 1 s to 64 s"
unfoldable pub half_seconds : ℕ → Text
half_seconds n = decimal (n / 2) ++ ascii "." ++ decimal (n % 2 * 5)

unfoldable pub timing1_text : ℕ → Text
timing1_text w =
    ascii "TDF " ++ half_seconds (bits 15 12 w + 1) ++ ascii " s, TDM " ++ plural (bits 11 7 w + 1) " cycle"
    ++ ascii ", TMF " ++ decimal (bits 6 1 w + 1) ++ ascii " s"

-- "N = TMM + 1 temperatures"; TP; "PORTCYC | .. 128 µs .., 256 µs .., 384 µs .., 512 µs"
unfoldable pub timing2_text : ℕ → Text
timing2_text w =
    ascii "TMM " ++ plural (bits 15 11 w + 1) " cycle" ++ ascii ", TP " ++ binary (bits 6 5 w)
    ++ ascii ", PORTCYC " ++ decimal (128 * (bits 1 0 w + 1)) ++ ascii " us"

-- INT_EN, ET_CONT and CONT_INT by name, where they are set.
unfoldable pub control_names : ℕ → List Text
control_names w = name_where (is_set 9 w) "INT_EN" ++ name_where (is_set 8 w) "ET_CONT" ++ name_where (is_set 7 w) "CONT_INT"

-- "EOSC | 1: the clock stands"; AM
unfoldable pub oscillator_text : ℕ → Text
oscillator_text w =
    pick (is_set 4 w) (ascii "EOSC 1 clock stands, AM ") (ascii "EOSC 0 clock runs, AM ") ++ binary (bits 3 2 w)

unfoldable pub setup_rows : (ℕ → ℕ) → List Text
setup_rows at =
    ascii "CONFIGURATION REGISTERS"
    ∷ stored_row "B6     Reserved                 " (at 0xB6)
    ∷ stored_row "B7     Reserved                 " (at 0xB7)
    ∷ register_row "B8     TOF1                     " (at 0xB8) (pulses (bits 15 8 (at 0xB8)) ++ divider (bits 7 4 (at 0xB8)))
    ∷ register_row "B9     TOF2                     " (at 0xB9) (hits_text (at 0xB9))
    ∷ stored_row "BA     TOF3                     " (at 0xBA)
    ∷ stored_row "BB     TOF4                     " (at 0xBB)
    ∷ stored_row "BC     TOF5                     " (at 0xBC)
    ∷ stored_row "BD     TOF6                     " (at 0xBD)
    ∷ stored_row "BE     TOF7                     " (at 0xBE)
    ∷ register_row "BF     Event Timing 1           " (at 0xBF) (timing1_text (at 0xBF))
    ∷ register_row "C0     Event Timing 2           " (at 0xC0) (timing2_text (at 0xC0))
    ∷ stored_row "C1     TOF Measurement Delay    " (at 0xC1)
    ∷ register_row "C2     Calibration and Control  " (at 0xC2) (names_or "none" (control_names (at 0xC2)))
    ∷ register_row "C3     Real-Time Clock          " (at 0xC3) (oscillator_text (at 0xC3))
    ∷ []

-- ---- the results

-- "Nanoseconds are quanta × 250 ÷ 65,536 to the nearest ten-thousandth", in 14 places; "A difference is a signed pair".
unfoldable pub time : ℕ → Text
time w = right_justified 14 (nanoseconds w) ++ ascii " ns"

unfoldable pub signed_time : ℕ → Text
signed_time w = right_justified 14 (signed_nanoseconds w) ++ ascii " ns"

-- FFFFh FFFFh
abbrev pub blanked : ℕ
blanked = 0xFFFFFFFF

-- "`no time` stands for a HIT, AVG or T pair of FFFFh FFFFh"
unfoldable pub result_text : ℕ → Text
result_text w = pick (eqb w blanked) (ascii "no time") (time w)

-- "A pair of T1 to T4 that reads 0000h 0000h is no time either"
unfoldable pub port_text : ℕ → Text
port_text w = pick (eqb w 0) (ascii "no time: short, or not measured") (result_text w)

-- "A TOF_DIFF of FFFFh FFFFh is a good difference of −1 quantum .. unless AVGUP says that the measurement failed"
unfoldable pub difference_text : ℕ → ℕ → Text
difference_text w average_up = pick (both (eqb average_up blanked) (eqb w blanked)) (ascii "no time") (signed_time w)

unfoldable pub result_row : String → ℕ → Text
result_row label w = pair_row label w (result_text w)

unfoldable pub port_row : String → ℕ → Text
port_row label w = pair_row label w (port_text w)

unfoldable pub count_row : String → ℕ → Text
count_row label w = register_row label w (ascii "good cycles: " ++ decimal w)

unfoldable pub flight_rows : (ℕ → ℕ) → (ℕ → ℕ) → List Text
flight_rows at pair =
    ascii "CONVERSION RESULTS REGISTERS"
    ∷ absent_row "C4     WVRUP                    " (at 0xC4)
    ∷ result_row "C5 C6  Hit1UpInt/Frac           " (pair 0xC5)
    ∷ result_row "C7 C8  Hit2UpInt/Frac           " (pair 0xC7)
    ∷ result_row "C9 CA  Hit3UpInt/Frac           " (pair 0xC9)
    ∷ result_row "CB CC  Hit4UpInt/Frac           " (pair 0xCB)
    ∷ result_row "CD CE  Hit5UpInt/Frac           " (pair 0xCD)
    ∷ result_row "CF D0  Hit6UpInt/Frac           " (pair 0xCF)
    ∷ result_row "D1 D2  AVGUPInt/Frac            " (pair 0xD1)
    ∷ absent_row "D3     WVRDN                    " (at 0xD3)
    ∷ result_row "D4 D5  Hit1DnInt/Frac           " (pair 0xD4)
    ∷ result_row "D6 D7  Hit2DnInt/Frac           " (pair 0xD6)
    ∷ result_row "D8 D9  Hit3DnInt/Frac           " (pair 0xD8)
    ∷ result_row "DA DB  Hit4DnInt/Frac           " (pair 0xDA)
    ∷ result_row "DC DD  Hit5DnInt/Frac           " (pair 0xDC)
    ∷ result_row "DE DF  Hit6DnInt/Frac           " (pair 0xDE)
    ∷ result_row "E0 E1  AVGDNInt/Frac            " (pair 0xE0)
    ∷ pair_row "E2 E3  TOF_DIFFInt/Frac         " (pair 0xE2) (difference_text (pair 0xE2) (pair 0xD1))
    ∷ count_row "E4     TOF_Cycle_Count          " (at 0xE4)
    ∷ pair_row "E5 E6  TOF_DIFF_AVGInt/Frac     " (pair 0xE5) (signed_time (pair 0xE5))
    ∷ []

unfoldable pub temperature_rows : (ℕ → ℕ) → (ℕ → ℕ) → List Text
temperature_rows at pair =
    port_row "E7 E8  T1Int/Frac               " (pair 0xE7)
    ∷ port_row "E9 EA  T2Int/Frac               " (pair 0xE9)
    ∷ port_row "EB EC  T3Int/Frac               " (pair 0xEB)
    ∷ port_row "ED EE  T4Int/Frac               " (pair 0xED)
    ∷ count_row "EF     Temp_Cycle_Count         " (at 0xEF)
    ∷ result_row "F0 F1  T1_AVGInt/Frac           " (pair 0xF0)
    ∷ result_row "F2 F3  T2_AVGInt/Frac           " (pair 0xF2)
    ∷ result_row "F4 F5  T3_AVGInt/Frac           " (pair 0xF4)
    ∷ result_row "F6 F7  T4_AVGInt/Frac           " (pair 0xF6)
    ∷ absent_pair "F8 F9  CalibrationInt/Frac      " (pair 0xF8)
    ∷ absent_pair "FA FB  Reserved                 " (pair 0xFA)
    ∷ absent_pair "FC FD  Reserved                 " (pair 0xFC)
    ∷ []

-- ---- the status

-- "The status is given by the names of its bits that are set, or `none`": those of the high byte, and those of the low one.
unfoldable pub high_names : ℕ → List Text
high_names w =
    name_where (is_set 15 w) "TO" ++ name_where (is_set 14 w) "AF" ++ name_where (is_set 12 w) "TOF" ++ name_where (is_set 11 w) "TE"
    ++ name_where (is_set 10 w) "LDO" ++ name_where (is_set 9 w) "TOF_EVTMG" ++ name_where (is_set 8 w) "TEMP_EVTMG"

unfoldable pub low_names : ℕ → List Text
low_names w =
    name_where (is_set 7 w) "FLASH" ++ name_where (is_set 5 w) "HALT" ++ name_where (is_set 3 w) "INIT" ++ name_where (is_set 2 w) "POR"

-- Where both bytes have bits, the names take two rows.
unfoldable pub status_rows : ℕ → List Text
status_rows w =
    pick (both (leb 256 w) (negate (eqb (w % 256) 0)))
    (register_row "FE     Interrupt Status         " w (spaced (high_names w))
    ∷ (ascii "                                           " ++ spaced (low_names w))
    ∷ [])
    (register_row "FE     Interrupt Status         " w (names_or "none" (high_names w ++ low_names w)) ∷ [])

-- "The row `Flash supply` tells whether the regulator of the user flash is on"
unfoldable pub supply_row : Bool → Text
supply_row on = ascii "       Flash supply                        " ++ pick on (ascii "on") (ascii "off")

-- All rows of the registers, each by the words that reads of the model would give.
unfoldable pub register_rows : Model → List Text
register_rows m =
    clock_rows (register_word m)
    ++ setup_rows (register_word m)
    ++ flight_rows (register_word m) (pair_word m)
    ++ temperature_rows (register_word m) (pair_word m)
    ++ (ascii "STATUS REGISTERS" ∷ status_rows (register_word m 0xFE))
    ++ (supply_row m.regulator ∷ absent_row "FF     Control                  " (register_word m 0xFF) ∷ [])
