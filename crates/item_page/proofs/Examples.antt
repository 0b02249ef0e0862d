-- The page of `show` as it reads. Assumes nothing.
use Prim.Native.Nat.{ℕ, ◌*◌, ◌+◌}
use Prim.Native.String.{String}
use mathlib.Core.Bool.{Bool, true, false}
use mathlib.Core.List.{List, [], ◌∷◌, map}
use mathlib.Core.Path.{◌≡◌, refl}
use lib.ListN.{get_or, take, drop}
use Rattle.numeral.specs.Ascii.{ascii}
use Rattle.device.specs.declared.Schedule.{Schedule}
use Rattle.device.specs.declared.Flight.{Flight}
use Rattle.device.specs.Registers.{register_word, calendar_word, flight_word, half, temperature_word}
use Rattle.device.specs.Event.{ticks, schedule_by, no_schedule, balance_sound, counts_sound, in_event, is_awaited, schedule_sound, start_single, starts_left, wait_sound}
use Rattle.device.specs.Model.{fresh_model, with_initialised, with_setup, with_flight, flight_sound, fresh_with, is_busy, is_sound, kind_busy, no_flight, no_temperature, sum_fits, temperature_sound}
use Rattle.text.specs.Text.{Text, spaced, spaced_each, text_where}
use Rattle.item_page.specs.Row.{refusal, pair_word, absent_pair, absent_row, binary, name_where, names_or, pair_row, plural, refusal_words, register_row, stored_row}
use Rattle.item_page.specs.Registers.{clock_text, time_of_day, half_day, alarm_text, pulses, divider, hits_text, timing1_text, timing2_text, oscillator_text, result_text, port_text, difference_text, signed_time, status_rows, clock_rows, setup_rows, flight_rows, temperature_rows, control_names, count_row, half_seconds, high_names, hours, low_names, port_row, register_rows, result_row, seconds, supply_row, time}
use Rattle.item_page.specs.Page.{awaited_text, event_text, next_text, command_rows, page, answer_text, clock_fields, fields, flight_fields, frame_row, run_rows, temperature_fields, wait_text}
use Rattle.calendar.specs.Calendar.{clock_valid, date_fits, month_length, start, time_fits}
use Rattle.calendar.specs.Words.{alarm_valid, bcd, clock_from, digits_fit, hour_digits, hour_fits, hour_in, hour_named, hundredths_of, minute_in, time_digits, twelve_in, word30, word31, word32, word33, words_valid}
use Rattle.setup.specs.Setup.{alarm_word, clock_stands, factory, flight_unset, temperature_unset}
use Rattle.setup.specs.Table11.{stop_row, stop_table, timeout_row, timeout_table}
use Rattle.frame.specs.Frame.{flash_further, is_command, is_flash, is_write, not_whole, past_end, word_at}
use Rattle.hit.specs.Difference.{difference_mean, port_mean}
use Rattle.flash.specs.Flash.{address_refused, beyond, odd_address, wrong_size}
use Rattle.device.specs.Bus.{before_initialize, command_busy, command_unset, event_side_unset, flight_side_unset, initialised_model, is_event, must_be_idle, run_model, single_started, starts_flight, starts_temperature, supplied, temperature_side_unset}
use Rattle.device.specs.Call.{bad_calendar, bad_setup, first_of, miscounted, no_frame, not_awaited, not_carried, not_initialised, past_registers, short_output, supply_off, table, too_long, unerased, unreachable, verdict, while_busy, wrong_length}
use Rattle.device.specs.FlashFrame.{flash_address, flash_unerased, flash_unreachable}
use Rattle.device.specs.Reply.{accepted_answer, accepted_model, number_in, reply, reply_by}
use Rattle.device.specs.Status.{init_bit, joined, ldo_bit, por_bit, status_word}
use Rattle.device.specs.Write.{clock_after, covers, setup_after, ticks_after, with_word, write_invalid, write_model, written}
use Rattle.numeral.specs.Digit.{digits, glyph}
use Rattle.numeral.specs.Print.{decimal, decimal_width, four_decimals, nanoseconds, signed_nanoseconds, ten_thousandths, width_from}
use Rattle.listing.specs.Listing.{right_justified}

-- texts in quotes
abbrev texts : List String → List Text
texts ss = map ascii ss

-- a schedule: ticks left and to the next start, planned, started, settled, good, continuous
abbrev schedule : ℕ → ℕ → ℕ → ℕ → ℕ → ℕ → Bool → Schedule
schedule left wait planned started settled good continuous =
    schedule_by (ticks left) (ticks wait) (ticks 16384) planned started settled continuous good

-- registers each of which holds its own address, alone and as a pair
abbrev own : ℕ → ℕ
own a = a

abbrev own_pair : ℕ → ℕ
own_pair a = a * 65536 + a

-- two hits up and down and their averages, of which the difference is -2 periods
abbrev measured : Flight
measured =
    record {
      schedule = no_schedule;
      up = true;
      down = true;
      sum = record { 0 = 0 };
      ups = 0x00460000 ∷ 0x00470001 ∷ 0 ∷ 0 ∷ 0 ∷ 0 ∷ 0x00468000 ∷ [];
      downs = 0x00480000 ∷ 0x00490000 ∷ 0 ∷ 0 ∷ 0 ∷ 0 ∷ 0x00488000 ∷ [];
      difference = 0xFFFE0000;
    }

-- the word that each row prints
abbrev printed : List Text → List Text
printed rows = map (λ row. take 4 (drop 32 row)) rows

-- ---- the whole page

-- of a fresh model
fresh-page : page fresh_model ≡ texts
    ("RTC AND WATCHDOG REGISTERS"
    ∷ "B0     Seconds                  0000       00.00 s"
    ∷ "B1     Mins_Hrs                 0000       00:00"
    ∷ "B2     Day_Date                 0101       weekday 1, date 01"
    ∷ "B3     Month_Year               0100       month 01, year 2000"
    ∷ "       Clock                               2000-01-01 00:00:00.00"
    ∷ "B4     Watchdog Alarm Counter   0000       stored only"
    ∷ "B5     Alarm                    0000       00:00, no alarm"
    ∷ "CONFIGURATION REGISTERS"
    ∷ "B6     Reserved                 0000       stored only"
    ∷ "B7     Reserved                 0000       stored only"
    ∷ "B8     TOF1                     0010       PL off, DPL 2 MHz / 2"
    ∷ "B9     TOF2                     0000       STOP 1 hit, TIMOUT 128 us"
    ∷ "BA     TOF3                     0000       stored only"
    ∷ "BB     TOF4                     0000       stored only"
    ∷ "BC     TOF5                     0000       stored only"
    ∷ "BD     TOF6                     0000       stored only"
    ∷ "BE     TOF7                     0000       stored only"
    ∷ "BF     Event Timing 1           0000       TDF 0.5 s, TDM 1 cycle, TMF 1 s"
    ∷ "C0     Event Timing 2           0000       TMM 1 cycle, TP 00b, PORTCYC 128 us"
    ∷ "C1     TOF Measurement Delay    0000       stored only"
    ∷ "C2     Calibration and Control  0000       none"
    ∷ "C3     Real-Time Clock          0000       EOSC 0 clock runs, AM 00b"
    ∷ "CONVERSION RESULTS REGISTERS"
    ∷ "C4     WVRUP                    0000       not carried"
    ∷ "C5 C6  Hit1UpInt/Frac           0000 0000          0.0000 ns"
    ∷ "C7 C8  Hit2UpInt/Frac           0000 0000          0.0000 ns"
    ∷ "C9 CA  Hit3UpInt/Frac           0000 0000          0.0000 ns"
    ∷ "CB CC  Hit4UpInt/Frac           0000 0000          0.0000 ns"
    ∷ "CD CE  Hit5UpInt/Frac           0000 0000          0.0000 ns"
    ∷ "CF D0  Hit6UpInt/Frac           0000 0000          0.0000 ns"
    ∷ "D1 D2  AVGUPInt/Frac            0000 0000          0.0000 ns"
    ∷ "D3     WVRDN                    0000       not carried"
    ∷ "D4 D5  Hit1DnInt/Frac           0000 0000          0.0000 ns"
    ∷ "D6 D7  Hit2DnInt/Frac           0000 0000          0.0000 ns"
    ∷ "D8 D9  Hit3DnInt/Frac           0000 0000          0.0000 ns"
    ∷ "DA DB  Hit4DnInt/Frac           0000 0000          0.0000 ns"
    ∷ "DC DD  Hit5DnInt/Frac           0000 0000          0.0000 ns"
    ∷ "DE DF  Hit6DnInt/Frac           0000 0000          0.0000 ns"
    ∷ "E0 E1  AVGDNInt/Frac            0000 0000          0.0000 ns"
    ∷ "E2 E3  TOF_DIFFInt/Frac         0000 0000          0.0000 ns"
    ∷ "E4     TOF_Cycle_Count          0000       good cycles: 0"
    ∷ "E5 E6  TOF_DIFF_AVGInt/Frac     0000 0000          0.0000 ns"
    ∷ "E7 E8  T1Int/Frac               0000 0000  no time: short, or not measured"
    ∷ "E9 EA  T2Int/Frac               0000 0000  no time: short, or not measured"
    ∷ "EB EC  T3Int/Frac               0000 0000  no time: short, or not measured"
    ∷ "ED EE  T4Int/Frac               0000 0000  no time: short, or not measured"
    ∷ "EF     Temp_Cycle_Count         0000       good cycles: 0"
    ∷ "F0 F1  T1_AVGInt/Frac           0000 0000          0.0000 ns"
    ∷ "F2 F3  T2_AVGInt/Frac           0000 0000          0.0000 ns"
    ∷ "F4 F5  T3_AVGInt/Frac           0000 0000          0.0000 ns"
    ∷ "F6 F7  T4_AVGInt/Frac           0000 0000          0.0000 ns"
    ∷ "F8 F9  CalibrationInt/Frac      0000 0000  not carried"
    ∷ "FA FB  Reserved                 0000 0000  not carried"
    ∷ "FC FD  Reserved                 0000 0000  not carried"
    ∷ "STATUS REGISTERS"
    ∷ "FE     Interrupt Status         0004       POR"
    ∷ "       Flash supply                        off"
    ∷ "FF     Control                  0000       not carried"
    ∷ "STATE OF THE RUN"
    ∷ "       Initialised                         no"
    ∷ "       Flight measurement                  none awaited"
    ∷ "       Temperature measurement             none awaited"
    ∷ "       Event of differences                none"
    ∷ "       Next difference                     none"
    ∷ "       Event of temperatures               none"
    ∷ "       Next temperature                    none"
    ∷ "COMMANDS NOW"
    ∷ "00-02  TOF_UP, TOF_DOWN, TOF_DIFF          no 8 not initialised"
    ∷ "03     Temperature                         no 8 not initialised"
    ∷ "05     Initialize                          ok"
    ∷ "07     EVTMG1, both kinds                  no 8 not initialised"
    ∷ "08     EVTMG2, differences                 no 8 not initialised"
    ∷ "09     EVTMG3, temperatures                no 8 not initialised"
    ∷ "0C 0D  LDO_ON, LDO_OFF                     ok"
    ∷ "10 13  Flash write, erase, read (90)       no 15 supply off"
    ∷ "30-43  Register writes                     ok"
    ∷ [])
unfolding clock_valid date_fits month_length start time_fits alarm_valid bcd clock_from digits_fit hour_digits hour_fits hour_in hour_named
    hundredths_of minute_in time_digits twelve_in word30 word31 word32 word33 words_valid alarm_word clock_stands factory flight_unset
    temperature_unset stop_row stop_table timeout_row timeout_table flash_further is_command is_flash is_write not_whole past_end word_at
    difference_mean port_mean address_refused beyond odd_address wrong_size before_initialize command_busy command_unset event_side_unset
    flight_side_unset initialised_model is_event must_be_idle run_model starts_flight starts_temperature supplied temperature_side_unset
    bad_calendar bad_setup first_of miscounted no_frame not_awaited not_carried not_initialised past_registers short_output supply_off table
    too_long unerased unreachable verdict while_busy wrong_length balance_sound counts_sound in_event is_awaited no_schedule schedule_sound
    starts_left wait_sound flash_address flash_unerased flash_unreachable flight_sound fresh_model fresh_with is_busy is_sound kind_busy no_flight
    no_temperature sum_fits temperature_sound calendar_word flight_word half register_word temperature_word accepted_answer accepted_model
    number_in reply reply_by init_bit joined ldo_bit por_bit status_word clock_after covers setup_after ticks_after with_word write_invalid
    write_model written ascii digits glyph decimal decimal_width four_decimals nanoseconds signed_nanoseconds ten_thousandths width_from
    right_justified spaced spaced_each text_where answer_text awaited_text command_rows event_text frame_row next_text page run_rows alarm_text
    clock_rows clock_text control_names count_row difference_text divider flight_rows half_day half_seconds high_names hits_text hours low_names
    oscillator_text port_row port_text pulses register_rows result_row result_text seconds setup_rows signed_time status_rows supply_row
    temperature_rows time time_of_day timing1_text timing2_text absent_pair absent_row binary name_where names_or pair_row pair_word plural refusal
    refusal_words register_row stored_row
fresh-page = refl

-- Each row prints the register that its label names.
clock-registers : printed (drop 1 (clock_rows own)) ≡ texts ("00B0" ∷ "00B1" ∷ "00B2" ∷ "00B3" ∷ "    " ∷ "00B4" ∷ "00B5" ∷ [])
unfolding twelve_in ascii digits glyph decimal decimal_width width_from alarm_text clock_rows clock_text half_day hours seconds time_of_day
    register_row stored_row
clock-registers = refl

setup-registers : printed (drop 1 (setup_rows own)) ≡ texts ("00B6" ∷ "00B7" ∷ "00B8" ∷ "00B9" ∷ "00BA" ∷ "00BB" ∷ "00BC" ∷ "00BD" ∷ "00BE" ∷ "00BF" ∷ "00C0" ∷ "00C1" ∷ "00C2" ∷ "00C3" ∷ [])
unfolding stop_row stop_table timeout_row timeout_table ascii digits glyph decimal decimal_width width_from spaced spaced_each text_where
    control_names divider half_seconds hits_text oscillator_text pulses setup_rows timing1_text timing2_text binary name_where names_or plural
    register_row stored_row
setup-registers = refl

flight-registers : printed (drop 1 (flight_rows own own_pair)) ≡ texts ("00C4" ∷ "00C5" ∷ "00C7" ∷ "00C9" ∷ "00CB" ∷ "00CD" ∷ "00CF" ∷ "00D1" ∷ "00D3" ∷ "00D4" ∷ "00D6" ∷ "00D8" ∷ "00DA" ∷ "00DC" ∷ "00DE" ∷ "00E0" ∷ "00E2" ∷ "00E4" ∷ "00E5" ∷ [])
unfolding ascii digits glyph decimal decimal_width four_decimals nanoseconds signed_nanoseconds ten_thousandths width_from right_justified
    count_row difference_text flight_rows result_row result_text signed_time time absent_row pair_row register_row
flight-registers = refl

temperature-registers : printed (temperature_rows own own_pair) ≡ texts ("00E7" ∷ "00E9" ∷ "00EB" ∷ "00ED" ∷ "00EF" ∷ "00F0" ∷ "00F2" ∷ "00F4" ∷ "00F6" ∷ "00F8" ∷ "00FA" ∷ "00FC" ∷ [])
unfolding ascii digits glyph decimal decimal_width four_decimals nanoseconds ten_thousandths width_from right_justified count_row port_row
    port_text result_row result_text temperature_rows time absent_pair pair_row register_row
temperature-registers = refl

-- ---- the clock and the alarm

afternoon : clock_text 0x5005 0x2314 0x0116 0x1126 ≡ ascii "2026-11-16 14:23:05.50"
unfolding twelve_in ascii digits glyph clock_text half_day hours seconds time_of_day
afternoon = refl

afternoon-by-halves : clock_text 0x5005 0x2362 0x0116 0x1126 ≡ ascii "2026-11-16 02:23:05.50 PM"
unfolding twelve_in ascii digits glyph clock_text half_day hours seconds time_of_day
afternoon-by-halves = refl

morning-by-halves : clock_text 0x5005 0x2342 0x0116 0x1126 ≡ ascii "2026-11-16 02:23:05.50 AM"
unfolding twelve_in ascii digits glyph clock_text half_day hours seconds time_of_day
morning-by-halves = refl

alarms : map alarm_text (0b00 ∷ 0b01 ∷ 0b10 ∷ 0b11 ∷ []) ≡ texts (", no alarm" ∷ ", minutes match" ∷ ", hours match" ∷ ", hours and minutes match" ∷ [])
unfolding ascii alarm_text
alarms = refl

-- ---- the set-up

pulses-launched : map pulses (0 ∷ 1 ∷ 16 ∷ 127 ∷ 128 ∷ 255 ∷ []) ≡ texts ("PL off" ∷ "PL 1 pulse" ∷ "PL 16 pulses" ∷ "PL 127 pulses" ∷ "PL 127 pulses" ∷ "PL 127 pulses" ∷ [])
unfolding ascii digits glyph decimal decimal_width width_from text_where pulses plural
pulses-launched = refl

frequencies : map divider (0 ∷ 1 ∷ 15 ∷ []) ≡ texts (", DPL reserved" ∷ ", DPL 2 MHz / 2" ∷ ", DPL 2 MHz / 16" ∷ [])
unfolding ascii digits glyph decimal decimal_width width_from divider
frequencies = refl

hits : map hits_text (0x0000 ∷ 0x2005 ∷ 0xE007 ∷ []) ≡ texts
    ("STOP 1 hit, TIMOUT 128 us"
    ∷ "STOP 2 hits, TIMOUT 4096 us"
    ∷ "STOP 6 hits, TIMOUT 16384 us"
    ∷ [])
unfolding stop_row stop_table timeout_row timeout_table ascii digits glyph decimal decimal_width width_from text_where hits_text plural
hits = refl

timings : map timing1_text (0x0000 ∷ 0xF18E ∷ 0x1F80 ∷ []) ≡ texts
    ("TDF 0.5 s, TDM 1 cycle, TMF 1 s"
    ∷ "TDF 8.0 s, TDM 4 cycles, TMF 8 s"
    ∷ "TDF 1.0 s, TDM 32 cycles, TMF 1 s"
    ∷ [])
unfolding ascii digits glyph decimal decimal_width width_from text_where half_seconds timing1_text plural
timings = refl

temperature-timings : map timing2_text (0x0000 ∷ 0x0860 ∷ 0xFFFF ∷ []) ≡ texts
    ("TMM 1 cycle, TP 00b, PORTCYC 128 us"
    ∷ "TMM 2 cycles, TP 11b, PORTCYC 128 us"
    ∷ "TMM 32 cycles, TP 11b, PORTCYC 512 us"
    ∷ [])
unfolding ascii digits glyph decimal decimal_width width_from text_where timing2_text binary plural
temperature-timings = refl

oscillators : map oscillator_text (0x0000 ∷ 0x001C ∷ []) ≡ texts
    ("EOSC 0 clock runs, AM 00b"
    ∷ "EOSC 1 clock stands, AM 11b"
    ∷ [])
unfolding ascii digits glyph decimal decimal_width width_from oscillator_text binary
oscillators = refl

-- ---- times

results : map result_text (0x00460000 ∷ 0xFFFFFFFE ∷ 0xFFFFFFFF ∷ []) ≡ texts
    ("    17500.0000 ns"
    ∷ " 16383999.9924 ns"
    ∷ "no time"
    ∷ [])
unfolding ascii digits glyph decimal decimal_width four_decimals nanoseconds ten_thousandths width_from right_justified result_text time
results = refl

ports : map port_text (0 ∷ 1 ∷ 0xFFFFFFFF ∷ []) ≡ texts
    ("no time: short, or not measured"
    ∷ "        0.0038 ns"
    ∷ "no time"
    ∷ [])
unfolding ascii digits glyph decimal decimal_width four_decimals nanoseconds ten_thousandths width_from right_justified port_text result_text
    time
ports = refl

differences : map signed_time (0xFFFE1432 ∷ 0xFFFFFFFF ∷ 0x7FFFFFFF ∷ []) ≡ texts
    ("     -480.2780 ns"
    ∷ "       -0.0038 ns"
    ∷ "  8191999.9962 ns"
    ∷ [])
unfolding ascii digits glyph decimal decimal_width four_decimals nanoseconds signed_nanoseconds ten_thousandths width_from right_justified
    signed_time
differences = refl

-- FFFFh FFFFh is a difference of -1 quantum, unless AVGUP says that the measurement failed.
difference-of-minus-one : difference_text 0xFFFFFFFF 0x00460000 ≡ ascii "       -0.0038 ns"
unfolding ascii digits glyph decimal decimal_width four_decimals nanoseconds signed_nanoseconds ten_thousandths width_from right_justified
    difference_text signed_time
difference-of-minus-one = refl

difference-failed : difference_text 0xFFFFFFFF 0xFFFFFFFF ≡ ascii "no time"
unfolding ascii difference_text
difference-failed = refl

-- the rows of a measurement, by the registers of its model
times-measured : map (λ k. get_or (flight_rows (register_word (with_flight fresh_model measured)) (pair_word (with_flight fresh_model measured))) k []) (2 ∷ 3 ∷ 8 ∷ 10 ∷ 16 ∷ 17 ∷ []) ≡ texts
    ("C5 C6  Hit1UpInt/Frac           0046 0000      17500.0000 ns"
    ∷ "C7 C8  Hit2UpInt/Frac           0047 0001      17750.0038 ns"
    ∷ "D1 D2  AVGUPInt/Frac            0046 8000      17625.0000 ns"
    ∷ "D4 D5  Hit1DnInt/Frac           0048 0000      18000.0000 ns"
    ∷ "E0 E1  AVGDNInt/Frac            0048 8000      18125.0000 ns"
    ∷ "E2 E3  TOF_DIFFInt/Frac         FFFE 0000       -500.0000 ns"
    ∷ [])
unfolding start factory difference_mean no_schedule fresh_model fresh_with no_flight no_temperature flight_word half register_word por_bit ascii
    digits glyph decimal decimal_width four_decimals nanoseconds signed_nanoseconds ten_thousandths width_from right_justified count_row
    difference_text flight_rows result_row result_text signed_time time absent_row pair_row pair_word register_row
times-measured = refl

-- ---- the status

status-none : status_rows 0x0000 ≡ texts
    ("FE     Interrupt Status         0000       none"
    ∷ [])
unfolding ascii digits glyph high_names low_names status_rows name_where names_or register_row
status-none = refl

status-of-one-byte : status_rows 0xDF00 ≡ texts
    ("FE     Interrupt Status         DF00       TO AF TOF TE LDO TOF_EVTMG TEMP_EVTMG"
    ∷ [])
unfolding ascii digits glyph spaced spaced_each high_names low_names status_rows name_where names_or register_row
status-of-one-byte = refl

status-of-two-bytes : status_rows 0x10AC ≡ texts
    ("FE     Interrupt Status         10AC       TOF"
    ∷ "                                           FLASH HALT INIT POR"
    ∷ [])
unfolding ascii digits glyph spaced spaced_each high_names low_names status_rows name_where register_row
status-of-two-bytes = refl

-- ---- the state of the run

awaited : map awaited_text ((schedule 0 0 0 0 0 0 false) ∷ (schedule 1 0 0 0 0 0 false) ∷ (schedule 8192 0 0 0 0 0 false) ∷ []) ≡ texts ("none awaited" ∷ "awaited, fails in 1 tick" ∷ "awaited, fails in 8192 ticks" ∷ [])
unfolding ascii digits glyph decimal decimal_width width_from text_where awaited_text plural
awaited = refl

events : map event_text ((schedule 8191 16383 16 2 1 1 false) ∷ (schedule 0 0 16 16 16 12 false) ∷ (schedule 0 5 16 16 16 12 true) ∷ []) ≡ texts ("2 of 16 started, 1 settled, 1 good" ∷ "none" ∷ "16 of 16 started, 16 settled, 12 good" ∷ [])
unfolding in_event ascii digits glyph decimal decimal_width width_from event_text
events = refl

next-starts : map next_text ((schedule 8191 16383 16 2 1 1 false) ∷ (schedule 1 0 16 16 15 12 false) ∷ (schedule 0 0 16 16 16 12 false) ∷ (schedule 0 1 16 16 16 12 true) ∷ []) ≡ texts ("in 16383 ticks" ∷ "none" ∷ "none" ∷ "in 1 tick, continuous" ∷ [])
unfolding in_event starts_left ascii digits glyph decimal decimal_width width_from text_where next_text wait_text plural
next-starts = refl

-- ---- commands

-- of a model that is initialised and has its factory values, and of one whose set-up is 0 but for TP and EOSC
commands :
    (command_rows (with_initialised fresh_model true) ≡ texts
    ("COMMANDS NOW"
    ∷ "00-02  TOF_UP, TOF_DOWN, TOF_DIFF          no 9 set-up: PL 0"
    ∷ "03     Temperature                         no 9 set-up: TP 00b"
    ∷ "05     Initialize                          ok"
    ∷ "07     EVTMG1, both kinds                  no 9 set-up: PL 0 TP 00b"
    ∷ "08     EVTMG2, differences                 no 9 set-up: PL 0"
    ∷ "09     EVTMG3, temperatures                no 9 set-up: TP 00b"
    ∷ "0C 0D  LDO_ON, LDO_OFF                     ok"
    ∷ "10 13  Flash write, erase, read (90)       no 15 supply off"
    ∷ "30-43  Register writes                     ok"
    ∷ []))
    × (take 7 (command_rows (with_setup (with_initialised fresh_model true) (0 ∷ 0 ∷ 0 ∷ 0 ∷ 0 ∷ 0 ∷ 0 ∷ 0 ∷ 0 ∷ 0 ∷ 0 ∷ 0 ∷ 0x0060 ∷ 0 ∷ 0 ∷ 0x0010 ∷ []))) ≡ texts
    ("COMMANDS NOW"
    ∷ "00-02  TOF_UP, TOF_DOWN, TOF_DIFF          no 9 set-up: PL 0 DPL 0"
    ∷ "03     Temperature                         ok"
    ∷ "05     Initialize                          ok"
    ∷ "07     EVTMG1, both kinds                  no 9 set-up: PL 0 DPL 0 EOSC 1"
    ∷ "08     EVTMG2, differences                 no 9 set-up: PL 0 DPL 0 EOSC 1"
    ∷ "09     EVTMG3, temperatures                no 9 set-up: EOSC 1"
    ∷ []))
unfolding clock_valid date_fits month_length start time_fits alarm_valid bcd clock_from digits_fit hour_digits hour_fits hour_in hour_named
    hundredths_of minute_in time_digits twelve_in word30 word31 word32 word33 words_valid alarm_word clock_stands factory flight_unset
    temperature_unset flash_further is_command is_flash is_write not_whole past_end word_at address_refused beyond odd_address wrong_size
    before_initialize command_busy command_unset event_side_unset flight_side_unset initialised_model is_event must_be_idle run_model single_started
    starts_flight starts_temperature supplied temperature_side_unset bad_calendar bad_setup first_of miscounted no_frame not_awaited not_carried
    not_initialised past_registers short_output supply_off table too_long unerased unreachable verdict while_busy wrong_length balance_sound
    counts_sound in_event is_awaited no_schedule schedule_sound start_single starts_left wait_sound flash_address flash_unerased flash_unreachable
    flight_sound fresh_model fresh_with is_busy is_sound kind_busy no_flight no_temperature sum_fits temperature_sound calendar_word register_word
    accepted_answer accepted_model number_in reply reply_by init_bit joined ldo_bit por_bit clock_after covers setup_after ticks_after with_word
    write_invalid write_model written ascii digits glyph decimal decimal_width width_from spaced_each text_where answer_text clock_fields
    command_rows fields flight_fields frame_row temperature_fields binary name_where refusal refusal_words
commands = (refl, refl)

-- ---- refusals

refusals : map refusal (0 ∷ 1 ∷ 2 ∷ 3 ∷ 4 ∷ 5 ∷ 6 ∷ 7 ∷ 8 ∷ 9 ∷ 10 ∷ 11 ∷ 12 ∷ 13 ∷ 14 ∷ 15 ∷ 16 ∷ 17 ∷ 18 ∷ 19 ∷ 20 ∷ []) ≡ texts
    ("no 0 record"
    ∷ "no 1 no frame"
    ∷ "no 2 opcode"
    ∷ "no 3 frame length"
    ∷ "no 4 address"
    ∷ "no 5 short output"
    ∷ "no 6 busy"
    ∷ "no 7 calendar"
    ∷ "no 8 not initialised"
    ∷ "no 9 set-up"
    ∷ "no 10 not awaited"
    ∷ "no 11 word count"
    ∷ "no 12 span"
    ∷ "no 13 off the table"
    ∷ "no 14 bad table"
    ∷ "no 15 supply off"
    ∷ "no 16 flash address"
    ∷ "no 17 not erased"
    ∷ "no 18 width"
    ∷ "no 19 short buffer"
    ∷ "no 20 capture number"
    ∷ [])
unfolding ascii digits glyph decimal decimal_width width_from refusal refusal_words
refusals = refl
