-- Rows of the page as they read, those of `docs/ITEMS.md` among them. Assumes nothing.
use Prim.Native.Nat.{ℕ}
use mathlib.Core.Bool.{true, false}
use mathlib.Core.List.{List, [], ◌∷◌, map}
use lib.ListN.{get_or, take}
use mathlib.Core.Path.{◌≡◌, refl}
use Rattle.calendar.specs.Calendar.{leap, month_length, date_fits, time_fits, clock_valid}
use Rattle.calendar.specs.Words.{bcd, hundredths_of, word30, word31, hour_digits, word32, word33, minute_in, twelve_in, twelve_hour, hour_named, hour_in, ticks_in, clock_from, time_digits, hour_fits, digits_fit, words_valid, alarm_valid}
use Rattle.setup.specs.Setup.{alarm_word, flight_unset, temperature_unset, clock_stands}
use Rattle.frame.specs.Frame.{is_command, is_write, is_read, is_flash, flash_further, not_whole, past_end, word_at}
use Rattle.hit.specs.Mean.{difference_bits}
use Rattle.hit.specs.Difference.{difference_mean, port_mean}
use Rattle.setup.specs.Table11.{stop_table, timeout_table, stop_row, timeout_row}
use Rattle.numeral.specs.Digit.{digits, glyph}
use Rattle.numeral.specs.Place.{joined}
use Rattle.numeral.specs.Print.{width_from, decimal_width, decimal, ten_thousandths, four_decimals, nanoseconds, signed_nanoseconds}
use Rattle.listing.specs.Listing.{right_justified}
use Rattle.device.specs.declared.Model.{Model}
use Rattle.device.specs.Event.{ticks, no_schedule, schedule_by, is_awaited, in_event, starts_left, counts_sound, wait_sound, balance_sound, schedule_sound}
use Rattle.device.specs.Status.{status_of, is_bit, status_word, TO, POR}
use Rattle.device.specs.Model.{model_of, with_flight, with_temperature, no_flight, no_temperature, sum_fits, flight_sound, temperature_sound, is_sound, kind_busy, is_busy}
use Rattle.device.specs.Registers.{half, calendar_word, flight_word, temperature_word, register_word}
use Rattle.device.specs.Question.{peek, regulator_on}
use Rattle.unit.specs.Choice.{either}
use Rattle.device.specs.Write.{covers, written, with_word, setup_after, ticks_after, clock_after, write_invalid}
use Rattle.device.specs.Bus.{must_be_idle, starts_flight, starts_temperature, is_event, command_busy, before_initialize, flight_side_unset, temperature_side_unset, event_side_unset, command_unset}
use Rattle.device.specs.Call.{verdict, first_of, table, no_frame, not_carried, wrong_length, past_registers, short_output, while_busy, supply_off, unreachable, unerased, bad_calendar, not_initialised, bad_setup, not_awaited, miscounted, too_long}
use Rattle.device.specs.Reply.{reply, reply_by, accepted_answer, number_in}
use Rattle.run_state.specs.State.{initialised_told, left_told}
use Rattle.run_state.specs.Event.{place_by, next_start, place_of, place_told}
use Rattle.numeral.specs.Ascii.{ascii}
use Rattle.wording.specs.Wording.{Texts, counted, reported_where, refusal_words, refusal_word, refusal}
use Rattle.item_state.specs.Told.{told_value, read_word}
use Rattle.page.specs.Row.{lines, register_row, pair_row, stored_row, absent_row, absent_pair, plural, binary}
use Rattle.page.specs.Clock.{seconds, hours, time_of_day, half_day, seconds_row, time_row, day_row, month_row, date_texts, clock_row, alarm_texts, alarm_row, clock_rows}
use Rattle.page.specs.Setup.{pulses, divider, tof1_row, tof2_row, half_seconds, timing1_row, timing2_row, control_row, clock_state, oscillator_row, setup_rows, more_setup_rows}
use Rattle.page.specs.Results.{pair_word, time, signed_time, result_texts, port_texts, difference_texts, result_row, port_row, difference_row, mean_row, count_row}
use Rattle.page.specs.Results.{high_names, low_names, takes_two, status_rows, supply_row, up_rows, down_rows, difference_rows, port_rows, last_rows}
use Rattle.page.specs.Run.{initialised_row, left_ticks, awaited_row, place_texts, event_texts, wait_texts, next_texts, run_rows}
use Rattle.page.specs.Commands.{answer_to, flight_fields, temperature_fields, clock_fields, fields, refused_texts, answer_texts, frame_row, command_row, flash_row, write_row, command_rows}
use Rattle.page.specs.Page.{page}
use Rattle.refusal.specs.declared.Refusal.{Refusal}
use Rattle.std.specs.Prelude.{Ok, Err, Some, None}

-- ---- the clock

clock : joined (clock_row 0x5005 0x2314 0x0116 0x1126) ≡ ascii "       Clock                               2026-11-16 14:23:05.50"
unfolding joined clock_row date_texts time_of_day hours twelve_in seconds half_day digits glyph ascii
clock = refl

afternoon : joined (clock_row 0x5005 0x2362 0x0116 0x1126) ≡ ascii "       Clock                               2026-11-16 02:23:05.50 PM"
unfolding joined clock_row date_texts time_of_day hours twelve_in seconds half_day digits glyph ascii
afternoon = refl

alarm : joined (alarm_row 0x3052 0b11) ≡ ascii "B5     Alarm                    3052       12:30 AM, hours and minutes match"
unfolding joined alarm_row register_row time_of_day hours twelve_in half_day alarm_texts digits glyph ascii
alarm = refl

-- ---- the set-up

tof1 : joined (tof1_row 0x1010) ≡ ascii "B8     TOF1                     1010       PL 16 pulses, DPL 2 MHz / 2"
unfolding joined tof1_row register_row pulses divider plural decimal decimal_width width_from digits glyph ascii
tof1 = refl

tof1-fresh : joined (tof1_row 0x0100) ≡ ascii "B8     TOF1                     0100       PL 1 pulse, DPL reserved"
unfolding joined tof1_row register_row pulses divider plural decimal decimal_width width_from digits glyph ascii
tof1-fresh = refl

tof2 : joined (tof2_row 0x2000) ≡ ascii "B9     TOF2                     2000       STOP 2 hits, TIMOUT 128 us"
unfolding joined tof2_row register_row stop_row stop_table timeout_row timeout_table plural counted decimal decimal_width width_from digits glyph ascii
tof2 = refl

timing1 : joined (timing1_row 0x219E) ≡ ascii "BF     Event Timing 1           219E       TDF 1.5 s, TDM 4 cycles, TMF 16 s"
unfolding joined timing1_row register_row half_seconds plural counted decimal decimal_width width_from digits glyph ascii
timing1 = refl

timing2 : joined (timing2_row 0x1042) ≡ ascii "C0     Event Timing 2           1042       TMM 3 cycles, TP 10b, PORTCYC 384 us"
unfolding joined timing2_row register_row plural binary counted decimal decimal_width width_from digits glyph ascii
timing2 = refl

control : joined (control_row 0x0280) ≡ ascii "C2     Calibration and Control  0280       INT_EN CONT_INT"
unfolding joined control_row register_row reported_where digits glyph ascii
control = refl

oscillator : joined (oscillator_row 0x0018) ≡ ascii "C3     Real-Time Clock          0018       EOSC 1 clock stands, AM 10b"
unfolding joined oscillator_row register_row clock_state binary decimal decimal_width width_from digits glyph ascii
oscillator = refl

-- ---- the results

result : joined (result_row (ascii "C5 C6  Hit1UpInt/Frac           ") 0x00460000) ≡ ascii "C5 C6  Hit1UpInt/Frac           0046 0000      17500.0000 ns"
unfolding joined result_row pair_row result_texts time right_justified nanoseconds four_decimals ten_thousandths decimal decimal_width width_from digits glyph ascii
result = refl

no_result : joined (result_row (ascii "C5 C6  Hit1UpInt/Frac           ") 0xFFFFFFFF) ≡ ascii "C5 C6  Hit1UpInt/Frac           FFFF FFFF  no time"
unfolding joined result_row pair_row result_texts digits glyph ascii
no_result = refl

difference : joined (difference_row 0xFFFFFFFF 0x00468000) ≡ ascii "E2 E3  TOF_DIFFInt/Frac         FFFF FFFF         -0.0038 ns"
unfolding joined difference_row pair_row difference_texts signed_time right_justified signed_nanoseconds nanoseconds four_decimals ten_thousandths decimal decimal_width width_from digits glyph ascii
difference = refl

no_difference : joined (difference_row 0xFFFFFFFF 0xFFFFFFFF) ≡ ascii "E2 E3  TOF_DIFFInt/Frac         FFFF FFFF  no time"
unfolding joined difference_row pair_row difference_texts digits glyph ascii
no_difference = refl

open-port : joined (port_row (ascii "EB EC  T3Int/Frac               ") 0xFFFFFFFF) ≡ ascii "EB EC  T3Int/Frac               FFFF FFFF  no time"
unfolding joined port_row pair_row port_texts result_texts digits glyph ascii
open-port = refl

short-port : joined (port_row (ascii "ED EE  T4Int/Frac               ") 0) ≡ ascii "ED EE  T4Int/Frac               0000 0000  no time: short, or not measured"
unfolding joined port_row pair_row port_texts digits glyph ascii
short-port = refl

-- ---- the status

status : map joined (status_rows 0x100C) ≡ ascii "FE     Interrupt Status         100C       TOF" ∷ ascii "                                           INIT POR" ∷ []
unfolding joined status_rows takes_two register_row high_names low_names reported_where digits glyph ascii
status = refl

status-high : map joined (status_rows 0xC600) ≡ ascii "FE     Interrupt Status         C600       TO AF LDO TOF_EVTMG" ∷ []
unfolding joined status_rows takes_two register_row high_names low_names reported_where digits glyph ascii
status-high = refl

status-none : map joined (status_rows 0) ≡ ascii "FE     Interrupt Status         0000       none" ∷ []
unfolding joined status_rows takes_two register_row high_names low_names reported_where digits glyph ascii
status-none = refl

-- ---- the run

awaited : joined (awaited_row (ascii "       Flight measurement                  ") 8191) ≡ ascii "       Flight measurement                  awaited, fails in 8191 ticks"
unfolding joined awaited_row plural decimal decimal_width width_from digits glyph ascii
awaited = refl

-- 2 of 16 started, 1 of them settled and good, and the next after 16,383 ticks
event : joined (event_texts (Ok (Some (place_by 16 2 1 1 (ticks 16383) true)))) ≡ ascii "2 of 16 started, 1 settled, 1 good"
unfolding joined event_texts place_texts counted decimal decimal_width width_from digits glyph ascii
event = refl

next : joined (next_texts (Ok (Some (place_by 16 2 1 1 (ticks 16383) true)))) ≡ ascii "in 16383 ticks, continuous"
unfolding joined next_texts wait_texts plural reported_where decimal decimal_width width_from digits glyph ascii
next = refl

all-started : joined (next_texts (Ok (Some (place_by 16 16 15 15 (ticks 0) false)))) ≡ ascii "none"
unfolding joined next_texts wait_texts reported_where ascii
all-started = refl

-- ---- what rows are made of

-- Rows as they read.
shown : List Texts → List (List ℕ)
unfolding joined lines page clock_rows setup_rows more_setup_rows up_rows down_rows difference_rows port_rows last_rows run_rows command_rows register_row pair_row stored_row absent_row absent_pair seconds_row time_row day_row month_row date_texts clock_row alarm_row alarm_texts time_of_day hours twelve_in seconds half_day tof1_row tof2_row timing1_row timing2_row control_row oscillator_row pulses divider half_seconds plural binary counted clock_state stop_row stop_table timeout_row timeout_table reported_where pair_word result_row port_row difference_row mean_row count_row result_texts port_texts difference_texts time signed_time right_justified signed_nanoseconds nanoseconds four_decimals ten_thousandths status_rows takes_two high_names low_names supply_row initialised_row left_ticks awaited_row event_texts place_texts next_texts wait_texts refused_texts fields flight_fields temperature_fields clock_fields refusal refusal_word refusal_words read_word told_value peek regulator_on initialised_told left_told place_told place_of next_start register_word calendar_word flight_word temperature_word half status_word difference_mean difference_bits port_mean starts_flight starts_temperature is_event is_sound sum_fits flight_sound temperature_sound schedule_sound counts_sound wait_sound balance_sound in_event starts_left clock_valid date_fits time_fits leap month_length alarm_valid alarm_word time_digits minute_in hour_named twelve_hour hour_fits bcd hour_digits hundredths_of word30 word31 word32 word33 decimal decimal_width width_from digits glyph
shown rows = map joined rows

-- Each row has its line feed.
two-lines : joined (lines ((ascii "a" ∷ ascii "b" ∷ []) ∷ (ascii "c" ∷ []) ∷ [])) ≡ ascii "ab\nc\n"
unfolding shown ascii
two-lines = refl

-- `0 hit`, `1 hit`, `2 hits`
plurals : (joined (plural 0 (ascii " hit")) ≡ ascii "0 hit")
    × (joined (plural 1 (ascii " hit")) ≡ ascii "1 hit")
    × (joined (plural 2 (ascii " hit")) ≡ ascii "2 hits")
unfolding shown ascii
plurals = (refl, refl, refl)

-- `00b` to `11b`
two-bits : (joined (binary 0) ≡ ascii "00b")
    × (joined (binary 1) ≡ ascii "01b")
    × (joined (binary 2) ≡ ascii "10b")
    × (joined (binary 3) ≡ ascii "11b")
unfolding shown ascii
two-bits = (refl, refl, refl, refl)

-- ---- more of the clock

-- The words of B0h to B3h, row by row.
parts-of-the-clock : (joined (seconds_row 0x5905) ≡ ascii "B0     Seconds                  5905       05.59 s")
    × (joined (day_row 0x0731) ≡ ascii "B2     Day_Date                 0731       weekday 7, date 31")
    × (joined (month_row 0x1126) ≡ ascii "B3     Month_Year               1126       month 11, year 2026")
unfolding shown ascii
parts-of-the-clock = (refl, refl, refl)

-- Bit 6 is 12-hour form, and bit 5 is then PM, else one of the digits of the hour; bits 7 and 15 are none of the time.
forms-of-hours : (joined (time_row 0x5923) ≡ ascii "B1     Mins_Hrs                 5923       23:59")
    × (joined (time_row 0xA394) ≡ ascii "B1     Mins_Hrs                 A394       14:23")
    × (joined (time_row 0x0052) ≡ ascii "B1     Mins_Hrs                 0052       12:00 AM")
    × (joined (time_row 0x0672) ≡ ascii "B1     Mins_Hrs                 0672       12:06 PM")
    × (joined (time_row 0x007F) ≡ ascii "B1     Mins_Hrs                 007F       1F:00 PM")
    × (joined (time_row 0xFFBF) ≡ ascii "B1     Mins_Hrs                 FFBF       3F:7F")
unfolding shown ascii
forms-of-hours = (refl, refl, refl, refl, refl, refl)

-- No alarm, and one by minutes, by hours or by both
alarms : (joined (alarm_row 0x0607 0b00) ≡ ascii "B5     Alarm                    0607       07:06, no alarm")
    × (joined (alarm_row 0x0607 0b01) ≡ ascii "B5     Alarm                    0607       07:06, minutes match")
    × (joined (alarm_row 0x0607 0b10) ≡ ascii "B5     Alarm                    0607       07:06, hours match")
    × (joined (alarm_row 0x0607 0b11) ≡ ascii "B5     Alarm                    0607       07:06, hours and minutes match")
unfolding shown ascii
alarms = (refl, refl, refl, refl)

-- ---- more of the set-up

-- PL is bits 15:8, at most 127, and DPL bits 7:4.
tof1-bounds : (joined (tof1_row 0x0000) ≡ ascii "B8     TOF1                     0000       PL off, DPL reserved")
    × (joined (tof1_row 0x000F) ≡ ascii "B8     TOF1                     000F       PL off, DPL reserved")
    × (joined (tof1_row 0x0110) ≡ ascii "B8     TOF1                     0110       PL 1 pulse, DPL 2 MHz / 2")
    × (joined (tof1_row 0x7F80) ≡ ascii "B8     TOF1                     7F80       PL 127 pulses, DPL 2 MHz / 9")
    × (joined (tof1_row 0x80FF) ≡ ascii "B8     TOF1                     80FF       PL 127 pulses, DPL 2 MHz / 16")
    × (joined (tof1_row 0xFF0F) ≡ ascii "B8     TOF1                     FF0F       PL 127 pulses, DPL reserved")
unfolding shown ascii
tof1-bounds = (refl, refl, refl, refl, refl, refl)

-- STOP is bits 15:13 and TIMOUT bits 2:0.
tof2-bounds : (joined (tof2_row 0x1FF8) ≡ ascii "B9     TOF2                     1FF8       STOP 1 hit, TIMOUT 128 us")
    × (joined (tof2_row 0x8004) ≡ ascii "B9     TOF2                     8004       STOP 5 hits, TIMOUT 2048 us")
    × (joined (tof2_row 0x2001) ≡ ascii "B9     TOF2                     2001       STOP 2 hits, TIMOUT 256 us")
    × (joined (tof2_row 0xE007) ≡ ascii "B9     TOF2                     E007       STOP 6 hits, TIMOUT 16384 us")
unfolding shown ascii
tof2-bounds = (refl, refl, refl, refl)

-- TDF is bits 15:12, TDM bits 11:7 and TMF bits 6:1.
timing1-bounds : (joined (timing1_row 0x0000) ≡ ascii "BF     Event Timing 1           0000       TDF 0.5 s, TDM 1 cycle, TMF 1 s")
    × (joined (timing1_row 0xF000) ≡ ascii "BF     Event Timing 1           F000       TDF 8.0 s, TDM 1 cycle, TMF 1 s")
    × (joined (timing1_row 0x0F80) ≡ ascii "BF     Event Timing 1           0F80       TDF 0.5 s, TDM 32 cycles, TMF 1 s")
    × (joined (timing1_row 0x007E) ≡ ascii "BF     Event Timing 1           007E       TDF 0.5 s, TDM 1 cycle, TMF 64 s")
    × (joined (timing1_row 0x1083) ≡ ascii "BF     Event Timing 1           1083       TDF 1.0 s, TDM 2 cycles, TMF 2 s")
unfolding shown ascii
timing1-bounds = (refl, refl, refl, refl, refl)

-- TMM is bits 15:11, TP bits 6:5 and PORTCYC bits 1:0.
timing2-bounds : (joined (timing2_row 0x079C) ≡ ascii "C0     Event Timing 2           079C       TMM 1 cycle, TP 00b, PORTCYC 128 us")
    × (joined (timing2_row 0xF800) ≡ ascii "C0     Event Timing 2           F800       TMM 32 cycles, TP 00b, PORTCYC 128 us")
    × (joined (timing2_row 0x0863) ≡ ascii "C0     Event Timing 2           0863       TMM 2 cycles, TP 11b, PORTCYC 512 us")
    × (joined (timing2_row 0x0021) ≡ ascii "C0     Event Timing 2           0021       TMM 1 cycle, TP 01b, PORTCYC 256 us")
unfolding shown ascii
timing2-bounds = (refl, refl, refl, refl)

-- INT_EN is bit 9, ET_CONT bit 8 and CONT_INT bit 7.
control-bits : (joined (control_row 0xFC7F) ≡ ascii "C2     Calibration and Control  FC7F       none")
    × (joined (control_row 0x0080) ≡ ascii "C2     Calibration and Control  0080       CONT_INT")
    × (joined (control_row 0x0100) ≡ ascii "C2     Calibration and Control  0100       ET_CONT")
    × (joined (control_row 0x0200) ≡ ascii "C2     Calibration and Control  0200       INT_EN")
    × (joined (control_row 0xFFFF) ≡ ascii "C2     Calibration and Control  FFFF       INT_EN ET_CONT CONT_INT")
unfolding shown ascii
control-bits = (refl, refl, refl, refl, refl)

-- EOSC is bit 4 and AM bits 3:2.
oscillator-bits : (joined (oscillator_row 0xFFE3) ≡ ascii "C3     Real-Time Clock          FFE3       EOSC 0 clock runs, AM 00b")
    × (joined (oscillator_row 0x0010) ≡ ascii "C3     Real-Time Clock          0010       EOSC 1 clock stands, AM 00b")
    × (joined (oscillator_row 0x0004) ≡ ascii "C3     Real-Time Clock          0004       EOSC 0 clock runs, AM 01b")
    × (joined (oscillator_row 0x000C) ≡ ascii "C3     Real-Time Clock          000C       EOSC 0 clock runs, AM 11b")
unfolding shown ascii
oscillator-bits = (refl, refl, refl, refl)

-- ---- more of the results

-- A pair of 0 is a time but on T1 to T4, and one below FFFFh FFFFh is a time.
other-results : (joined (result_row (ascii "C5 ") 0) ≡ ascii "C5 0000 0000          0.0000 ns")
    × (joined (result_row (ascii "C5 ") 0xFFFFFFFE) ≡ ascii "C5 FFFF FFFE   16383999.9924 ns")
    × (joined (port_row (ascii "E7 ") 1) ≡ ascii "E7 0000 0001          0.0038 ns")
unfolding shown ascii
other-results = (refl, refl, refl)

-- A pair other than FFFFh FFFFh is a difference, whatever AVGUP says.
other-differences : (joined (difference_row 0x10000 0xFFFFFFFF) ≡ ascii "E2 E3  TOF_DIFFInt/Frac         0001 0000        250.0000 ns")
    × (joined (difference_row 0xFFFF0000 0) ≡ ascii "E2 E3  TOF_DIFFInt/Frac         FFFF 0000       -250.0000 ns")
unfolding shown ascii
other-differences = (refl, refl)

-- The mean of differences is signed, and FFFFh FFFFh is one.
a-mean : (joined (mean_row 0xFFFFFFFF) ≡ ascii "E5 E6  TOF_DIFF_AVGInt/Frac     FFFF FFFF         -0.0038 ns")
    × (joined (mean_row 0x10000) ≡ ascii "E5 E6  TOF_DIFF_AVGInt/Frac     0001 0000        250.0000 ns")
unfolding shown ascii
a-mean = (refl, refl)

-- A count of 16
good-cycles : joined (count_row (ascii "E4 ") 16) ≡ ascii "E4 0010       good cycles: 16"
unfolding shown ascii
good-cycles = refl

-- ---- more of the status

-- Every name
status-all : map joined (status_rows 0xFFFF) ≡ ascii "FE     Interrupt Status         FFFF       TO AF TOF TE LDO TOF_EVTMG TEMP_EVTMG" ∷ ascii "                                           FLASH HALT INIT POR" ∷ []
unfolding shown ascii
status-all = refl

-- The bits of the high byte, one at a time
each-high-bit : (joined (high_names 0x8000) ≡ ascii " TO")
    × (joined (high_names 0x4000) ≡ ascii " AF")
    × (joined (high_names 0x1000) ≡ ascii " TOF")
    × (joined (high_names 0x0800) ≡ ascii " TE")
    × (joined (high_names 0x0400) ≡ ascii " LDO")
    × (joined (high_names 0x0200) ≡ ascii " TOF_EVTMG")
    × (joined (high_names 0x0100) ≡ ascii " TEMP_EVTMG")
unfolding shown ascii
each-high-bit = (refl, refl, refl, refl, refl, refl, refl)

-- The bits of the low byte, one at a time
each-low-bit : (joined (low_names 0x0080) ≡ ascii " FLASH")
    × (joined (low_names 0x0020) ≡ ascii " HALT")
    × (joined (low_names 0x0008) ≡ ascii " INIT")
    × (joined (low_names 0x0004) ≡ ascii " POR")
unfolding shown ascii
each-low-bit = (refl, refl, refl, refl)

-- Bits 13, 6, 4, 1 and 0 have no name; those of one byte alone take one row.
nameless-bits : (map joined (status_rows 0x2000) ≡ ascii "FE     Interrupt Status         2000      " ∷ [])
    × (map joined (status_rows 0x0053) ≡ ascii "FE     Interrupt Status         0053      " ∷ [])
    × (map joined (status_rows 0x00FF) ≡ ascii "FE     Interrupt Status         00FF       FLASH HALT INIT POR" ∷ [])
    × (map joined (status_rows 0x2001) ≡ ascii "FE     Interrupt Status         2001      " ∷ ascii "                                          " ∷ [])
unfolding shown ascii
nameless-bits = (refl, refl, refl, refl)

-- Off, and on
supplies : (joined (supply_row 0) ≡ ascii "       Flash supply                        off")
    × (joined (supply_row 1) ≡ ascii "       Flash supply                        on")
unfolding shown ascii
supplies = (refl, refl)

-- ---- more of the run

-- Before 05h, and after it
initialised : (joined (initialised_row 0) ≡ ascii "       Initialised                         no")
    × (joined (initialised_row 1) ≡ ascii "       Initialised                         yes")
unfolding shown ascii
initialised = (refl, refl)

-- None, and one that fails in the next tick
not-awaited : (joined (awaited_row (ascii "A ") 0) ≡ ascii "A none awaited")
    × (joined (awaited_row (ascii "A ") 1) ≡ ascii "A awaited, fails in 1 tick")
unfolding shown ascii
not-awaited = (refl, refl)

-- No event is `none`, and so is a refusal.
no-event : (joined (event_texts (Ok None)) ≡ ascii "none")
    × (joined (next_texts (Ok None)) ≡ ascii "none")
    × (joined (event_texts (Err Refusal.NotSound)) ≡ ascii "none")
    × (joined (next_texts (Err Refusal.NotSound)) ≡ ascii "none")
unfolding shown ascii
no-event = (refl, refl, refl, refl)

-- The next start in one tick, and of a continuous event with all started
next-starts : (joined (next_texts (Ok (Some (place_by 2 1 1 1 (ticks 1) false)))) ≡ ascii "in 1 tick")
    × (joined (next_texts (Ok (Some (place_by 2 2 2 2 (ticks 0) true)))) ≡ ascii "none, continuous")
unfolding shown ascii
next-starts = (refl, refl)

-- ---- more of the commands

-- PL 0 and DPL 0 are in a flight measurement's way, where it is judged.
flight-ways : (joined (flight_fields true 0x000F) ≡ ascii " PL 0 DPL 0")
    × (joined (flight_fields true 0x00F0) ≡ ascii " PL 0")
    × (joined (flight_fields true 0x0010) ≡ ascii " PL 0")
    × (joined (flight_fields true 0xFF0F) ≡ ascii " DPL 0")
    × (joined (flight_fields true 0x0100) ≡ ascii " DPL 0")
    × (joined (flight_fields true 0x8080) ≡ ascii "")
    × (joined (flight_fields true 0x0110) ≡ ascii "")
    × (joined (flight_fields false 0x0000) ≡ ascii "")
unfolding shown ascii
flight-ways = (refl, refl, refl, refl, refl, refl, refl, refl)

-- TP other than 11b is in a temperature's way.
temperature-ways : (joined (temperature_fields true 0xFF9F) ≡ ascii " TP 00b")
    × (joined (temperature_fields true 0x0020) ≡ ascii " TP 01b")
    × (joined (temperature_fields true 0x0040) ≡ ascii " TP 10b")
    × (joined (temperature_fields true 0x0060) ≡ ascii "")
    × (joined (temperature_fields false 0x0000) ≡ ascii "")
unfolding shown ascii
temperature-ways = (refl, refl, refl, refl, refl)

-- EOSC 1 is in an event's way.
clock-ways : (joined (clock_fields true 0x0010) ≡ ascii " EOSC 1")
    × (joined (clock_fields true 0xFFEF) ≡ ascii "")
    × (joined (clock_fields false 0x0010) ≡ ascii "")
unfolding shown ascii
clock-ways = (refl, refl, refl)

-- ---- a whole page

-- 2026-11-16 02:23:05.50 PM; a continuous event of differences, one of which is awaited, an event of temperatures, and results that differ.
abbrev busy : Model
busy =
    model_of
    record { year = 26; month = 11; date = 16; weekday = 1; hour = 14; minute = 23; second = 5; ticks = ticks 16384; twelve = true }
    (0x1234 ∷ 0x3052 ∷ 0x0001 ∷ 0x0002 ∷ 0x1010 ∷ 0x2000 ∷ 0x0003 ∷ 0x0004 ∷ 0x0005 ∷ 0x0006 ∷ 0x0007 ∷ 0x219E ∷ 0x1042 ∷ 0x0008 ∷ 0x0280 ∷ 0x0018 ∷ [])
    (status_of (λ b. either (is_bit TO b) (is_bit POR b))) true true
    record {
      schedule = schedule_by (ticks 8191) (ticks 16383) (ticks 16384) 16 2 1 true 1;
      up = true;
      down = true;
      sum = record { 0 = 2147418112 };
      ups = 0x10000 ∷ 0x20000 ∷ 0x30000 ∷ 0x40000 ∷ 0x50000 ∷ 0x60000 ∷ 0x70000 ∷ [];
      downs = 0x80000 ∷ 0x90000 ∷ 0xA0000 ∷ 0xB0000 ∷ 0xC0000 ∷ 0xD0000 ∷ 0xE0000 ∷ [];
      difference = 0xFFFFFFFF;
    }
    record {
      schedule = schedule_by (ticks 0) (ticks 9) (ticks 32768) 3 2 2 false 2;
      sums = record { 0 = 0x340000 } ∷ record { 0 = 0x360000 } ∷ record { 0 = 0x380000 } ∷ record { 0 = 0x3A0000 } ∷ [];
      ports = 0x150000 ∷ 0x0 ∷ 0xFFFFFFFF ∷ 0x180000 ∷ [];
    }

-- Its clock
its-clock :
    shown (clock_rows busy)
    ≡ ascii "RTC AND WATCHDOG REGISTERS"
    ∷ ascii "B0     Seconds                  5005       05.50 s"
    ∷ ascii "B1     Mins_Hrs                 2362       02:23 PM"
    ∷ ascii "B2     Day_Date                 0116       weekday 1, date 16"
    ∷ ascii "B3     Month_Year               1126       month 11, year 2026"
    ∷ ascii "       Clock                               2026-11-16 02:23:05.50 PM"
    ∷ ascii "B4     Watchdog Alarm Counter   1234       stored only"
    ∷ ascii "B5     Alarm                    3052       12:30 AM, hours match"
    ∷ []
unfolding shown ascii
its-clock = refl

-- Its set-up, 36h to 3Ch
its-set-up :
    shown (setup_rows busy)
    ≡ ascii "CONFIGURATION REGISTERS"
    ∷ ascii "B6     Reserved                 0001       stored only"
    ∷ ascii "B7     Reserved                 0002       stored only"
    ∷ ascii "B8     TOF1                     1010       PL 16 pulses, DPL 2 MHz / 2"
    ∷ ascii "B9     TOF2                     2000       STOP 2 hits, TIMOUT 128 us"
    ∷ ascii "BA     TOF3                     0003       stored only"
    ∷ ascii "BB     TOF4                     0004       stored only"
    ∷ ascii "BC     TOF5                     0005       stored only"
    ∷ []
unfolding shown ascii
its-set-up = refl

-- and 3Dh to 43h
more-of-its-set-up :
    shown (more_setup_rows busy)
    ≡ ascii "BD     TOF6                     0006       stored only"
    ∷ ascii "BE     TOF7                     0007       stored only"
    ∷ ascii "BF     Event Timing 1           219E       TDF 1.5 s, TDM 4 cycles, TMF 16 s"
    ∷ ascii "C0     Event Timing 2           1042       TMM 3 cycles, TP 10b, PORTCYC 384 us"
    ∷ ascii "C1     TOF Measurement Delay    0008       stored only"
    ∷ ascii "C2     Calibration and Control  0280       INT_EN CONT_INT"
    ∷ ascii "C3     Real-Time Clock          0018       EOSC 1 clock stands, AM 10b"
    ∷ []
unfolding shown ascii
more-of-its-set-up = refl

-- Its results, up
its-ups :
    shown (up_rows busy)
    ≡ ascii "CONVERSION RESULTS REGISTERS"
    ∷ ascii "C4     WVRUP                    0000       not carried"
    ∷ ascii "C5 C6  Hit1UpInt/Frac           0001 0000        250.0000 ns"
    ∷ ascii "C7 C8  Hit2UpInt/Frac           0002 0000        500.0000 ns"
    ∷ ascii "C9 CA  Hit3UpInt/Frac           0003 0000        750.0000 ns"
    ∷ ascii "CB CC  Hit4UpInt/Frac           0004 0000       1000.0000 ns"
    ∷ ascii "CD CE  Hit5UpInt/Frac           0005 0000       1250.0000 ns"
    ∷ ascii "CF D0  Hit6UpInt/Frac           0006 0000       1500.0000 ns"
    ∷ ascii "D1 D2  AVGUPInt/Frac            0007 0000       1750.0000 ns"
    ∷ []
unfolding shown ascii
its-ups = refl

-- down
its-downs :
    shown (down_rows busy)
    ≡ ascii "D3     WVRDN                    0000       not carried"
    ∷ ascii "D4 D5  Hit1DnInt/Frac           0008 0000       2000.0000 ns"
    ∷ ascii "D6 D7  Hit2DnInt/Frac           0009 0000       2250.0000 ns"
    ∷ ascii "D8 D9  Hit3DnInt/Frac           000A 0000       2500.0000 ns"
    ∷ ascii "DA DB  Hit4DnInt/Frac           000B 0000       2750.0000 ns"
    ∷ ascii "DC DD  Hit5DnInt/Frac           000C 0000       3000.0000 ns"
    ∷ ascii "DE DF  Hit6DnInt/Frac           000D 0000       3250.0000 ns"
    ∷ ascii "E0 E1  AVGDNInt/Frac            000E 0000       3500.0000 ns"
    ∷ []
unfolding shown ascii
its-downs = refl

-- the difference and its mean
its-differences :
    shown (difference_rows busy)
    ≡ ascii "E2 E3  TOF_DIFFInt/Frac         FFFF FFFF         -0.0038 ns"
    ∷ ascii "E4     TOF_Cycle_Count          0001       good cycles: 1"
    ∷ ascii "E5 E6  TOF_DIFF_AVGInt/Frac     FFFF 0000       -250.0000 ns"
    ∷ []
unfolding shown ascii
its-differences = refl

-- and of the ports
its-ports :
    shown (port_rows busy)
    ≡ ascii "E7 E8  T1Int/Frac               0015 0000       5250.0000 ns"
    ∷ ascii "E9 EA  T2Int/Frac               0000 0000  no time: short, or not measured"
    ∷ ascii "EB EC  T3Int/Frac               FFFF FFFF  no time"
    ∷ ascii "ED EE  T4Int/Frac               0018 0000       6000.0000 ns"
    ∷ ascii "EF     Temp_Cycle_Count         0002       good cycles: 2"
    ∷ ascii "F0 F1  T1_AVGInt/Frac           001A 0000       6500.0000 ns"
    ∷ ascii "F2 F3  T2_AVGInt/Frac           001B 0000       6750.0000 ns"
    ∷ ascii "F4 F5  T3_AVGInt/Frac           001C 0000       7000.0000 ns"
    ∷ ascii "F6 F7  T4_AVGInt/Frac           001D 0000       7250.0000 ns"
    ∷ []
unfolding shown ascii
its-ports = refl

-- Its status
its-status :
    shown (last_rows busy)
    ≡ ascii "F8 F9  CalibrationInt/Frac      0000 0000  not carried"
    ∷ ascii "FA FB  Reserved                 0000 0000  not carried"
    ∷ ascii "FC FD  Reserved                 0000 0000  not carried"
    ∷ ascii "STATUS REGISTERS"
    ∷ ascii "FE     Interrupt Status         8004       TO"
    ∷ ascii "                                           POR"
    ∷ ascii "       Flash supply                        on"
    ∷ ascii "FF     Control                  0000       not carried"
    ∷ []
unfolding shown ascii
its-status = refl

-- Its run
its-run :
    shown (run_rows busy)
    ≡ ascii "STATE OF THE RUN"
    ∷ ascii "       Initialised                         yes"
    ∷ ascii "       Flight measurement                  awaited, fails in 8191 ticks"
    ∷ ascii "       Temperature measurement             none awaited"
    ∷ ascii "       Event of differences                2 of 16 started, 1 settled, 1 good"
    ∷ ascii "       Next difference                     in 16383 ticks, continuous"
    ∷ ascii "       Event of temperatures               2 of 3 started, 2 settled, 2 good"
    ∷ ascii "       Next temperature                    in 9 ticks"
    ∷ []
unfolding shown ascii
its-run = refl

-- Where the page's parts begin, from row 0 on
headings :
    map (λ (i : ℕ). joined (get_or (page busy) i [])) (0 ∷ 8 ∷ 23 ∷ 55 ∷ 60 ∷ 68 ∷ [])
    ≡ ascii "RTC AND WATCHDOG REGISTERS"
    ∷ ascii "CONFIGURATION REGISTERS"
    ∷ ascii "CONVERSION RESULTS REGISTERS"
    ∷ ascii "STATUS REGISTERS"
    ∷ ascii "STATE OF THE RUN"
    ∷ ascii "COMMANDS NOW"
    ∷ []
unfolding shown ascii
headings = refl

-- What is in the way of commands: TP of a temperature, EOSC of an event, and PL and DPL of none.
its-fields : (joined (fields busy 0x00) ≡ ascii "")
    × (joined (fields busy 0x03) ≡ ascii " TP 10b")
    × (joined (fields busy 0x05) ≡ ascii "")
    × (joined (fields busy 0x07) ≡ ascii " TP 10b EOSC 1")
    × (joined (fields busy 0x08) ≡ ascii " EOSC 1")
    × (joined (fields busy 0x09) ≡ ascii " TP 10b EOSC 1")
unfolding shown ascii
its-fields = (refl, refl, refl, refl, refl, refl)

-- The fields stand behind number 9 alone.
fields-behind-nine : (joined (refused_texts busy 0x07 9) ≡ ascii " no 9 set-up: TP 10b EOSC 1")
    × (joined (refused_texts busy 0x07 8) ≡ ascii " no 8 not initialised")
    × (joined (refused_texts busy 0x07 10) ≡ ascii " no 10 not awaited")
unfolding shown ascii
fields-behind-nine = (refl, refl, refl)

-- The same model with nothing awaited and no event
abbrev idle : Model
idle = with_flight (with_temperature busy no_temperature) no_flight

-- Rows of commands as they read.
answered : List Texts → List (List ℕ)
unfolding shown answer_to answer_texts frame_row command_row flash_row write_row reply reply_by accepted_answer number_in verdict first_of table no_frame not_carried wrong_length past_registers short_output while_busy supply_off unreachable unerased bad_calendar not_initialised bad_setup not_awaited miscounted too_long must_be_idle command_busy before_initialize flight_side_unset temperature_side_unset event_side_unset command_unset flight_unset temperature_unset clock_stands no_flight no_temperature no_schedule kind_busy is_busy is_awaited is_command is_write is_flash is_read write_invalid covers written with_word setup_after ticks_after clock_after word_at words_valid digits_fit clock_from hour_in ticks_in not_whole past_end flash_further
answered rows = map joined rows

-- Its commands
idle-commands :
    answered (take 8 (command_rows idle))
    ≡ ascii "COMMANDS NOW"
    ∷ ascii "00-02  TOF_UP, TOF_DOWN, TOF_DIFF          ok"
    ∷ ascii "03     Temperature                         no 9 set-up: TP 10b"
    ∷ ascii "05     Initialize                          ok"
    ∷ ascii "07     EVTMG1, both kinds                  no 9 set-up: TP 10b EOSC 1"
    ∷ ascii "08     EVTMG2, differences                 no 9 set-up: EOSC 1"
    ∷ ascii "09     EVTMG3, temperatures                no 9 set-up: TP 10b EOSC 1"
    ∷ ascii "0C 0D  LDO_ON, LDO_OFF                     ok"
    ∷ []
unfolding answered ascii
idle-commands = refl

-- and a register write
idle-write : joined (write_row idle) ≡ ascii "30-43  Register writes                     ok"
unfolding answered ascii
idle-write = refl

-- While it is busy every command is refused.
busy-commands :
    answered (command_rows busy)
    ≡ ascii "COMMANDS NOW"
    ∷ ascii "00-02  TOF_UP, TOF_DOWN, TOF_DIFF          no 6 busy"
    ∷ ascii "03     Temperature                         no 6 busy"
    ∷ ascii "05     Initialize                          no 6 busy"
    ∷ ascii "07     EVTMG1, both kinds                  no 6 busy"
    ∷ ascii "08     EVTMG2, differences                 no 6 busy"
    ∷ ascii "09     EVTMG3, temperatures                no 6 busy"
    ∷ ascii "0C 0D  LDO_ON, LDO_OFF                     no 6 busy"
    ∷ ascii "10 13  Flash write, erase, read (90)       no 6 busy"
    ∷ ascii "30-43  Register writes                     no 6 busy"
    ∷ []
unfolding answered ascii
busy-commands = refl

-- The flash is read at its first word, and 0000h is written to 34h.
frames : (m : Model)
    → (flash_row m ≡ frame_row m (ascii "10 13  Flash write, erase, read (90)      ") 144 (144 ∷ 0 ∷ 0 ∷ 0 ∷ 0 ∷ []))
    × (write_row m ≡ frame_row m (ascii "30-43  Register writes                    ") 52 (52 ∷ 0 ∷ 0 ∷ []))
unfolding flash_row write_row
frames m = (refl, refl)
