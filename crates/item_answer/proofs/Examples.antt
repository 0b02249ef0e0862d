-- What lines answer, in plain words: each row has a line and its answer. Assumes nothing.
use Prim.Native.Nat.{ℕ, ◌+◌}
use Prim.Native.String.{String}
use mathlib.Core.Bool.{Bool, true, false}
use mathlib.Core.List.{List, [], ◌∷◌, ◌++◌, map}
use mathlib.Core.Path.{◌≡◌, refl}
use lib.IntN.{pos, negsuc}
use lib.ListN.{replicate}
use Rattle.numeral.specs.Ascii.{ascii}
use Rattle.device.specs.declared.Report.{Report}
use Rattle.device.specs.declared.StretchReport.{StretchReport}
use Rattle.device.specs.declared.Answer.TheVariants.{Refused, Accepted, Ticked, Stretched, Good, Failed}
use Rattle.device.specs.Event.{with_left, no_schedule, balance_sound, begins, begins_group, counts_sound, fails, good_after, in_event, is_awaited, is_last, left_after, schedule_sound, settle, settled_after, start_single, started_after, starts_left, tick_schedule, wait_after, wait_sound}
use Rattle.device.specs.Model.{fresh_model, no_flight, flight_with, with_flight, flight_sound, fresh_with, is_busy, is_sound, kind_busy, no_temperature, sum_fits, temperature_sound}
use Rattle.text.specs.Text.{Text, ended_each, begin_with, begun_before, ended, fits, is_blank, same, spaced, spaced_each, text_where, without_return, words, words_after}
use Rattle.item_answer.specs.Words.{answer_text, output_text, reports_at, reports_to, words_of, quanta, shown, difference, differences, fault_line, fault_text, frame_line, joined, register_line, register_lines, registers, report as item_answer_report, reports, shown_byte, started, verdict}
use Rattle.item_answer.specs.Answer.{Item, fresh_item, with_model, frame_size, added, ask_told, at_result, awaited_text, bus_told, call_result, degrees_of, degrees_told, delivery_told, frames_told, int_text, is_refusal, keep_result, listing_told, probe_result, quietest_told, read_words, record_result, set_told, size_of, starts, stretch_told, ticked, ticks_told, transacted, transaction_told, word_bytes}
use Rattle.item_answer.specs.Step.{Tally, step, outcome, outcome_bits, agrees, bad_step, compared_step, disagrees, expectations, expected_text, expects, line_step, result_step, told_step}
use Rattle.calendar.specs.Alarm.{alarm_rings}
use Rattle.calendar.specs.Calendar.{clock_valid, date_fits, month_length, start, tick_clock, time_fits}
use Rattle.calendar.specs.Words.{alarm_valid, bcd, clock_from, digits_fit, hour_digits, hour_fits, hour_in, hour_named, hundredths_of, minute_in, time_digits, twelve_in, word30, word31, word32, word33, words_valid}
use Rattle.setup.specs.Setup.{alarm_mode, alarm_word, clock_stands, factory, flight_unset, hit_count, interrupt_enabled, timeout}
use Rattle.frame.specs.Frame.{flash_further, is_command, is_flash, is_read, is_write, not_whole, past_end, word_at}
use Rattle.hit.specs.Difference.{difference_mean, difference_word, port_mean}
use Rattle.hit.specs.Limit.{any_from, any_word, late_from}
use Rattle.hit.specs.Words.{average, failed_pairs, filled, six_total, six_words, word_or_zero}
use Rattle.flash.specs.Flash.{address_refused, beyond, first_word, flash_word, flash_written, not_erased, odd_address, wrong_size}
use Rattle.device.specs.Bus.{before_initialize, command_busy, command_unset, event_side_unset, flight_side_unset, flight_started, initialised_model, is_event, must_be_idle, read_model, run_model, single_started, starts_flight, starts_temperature, supplied, temperature_side_unset}
use Rattle.device.specs.Call.{bad_calendar, bad_setup, first_of, miscounted, no_frame, not_awaited, not_carried, not_initialised, past_registers, short_output, supply_off, table as device_table, too_long, unerased, unreachable, verdict as device_verdict, while_busy, wrong_length}
use Rattle.device.specs.Delivery.{failed_flight_model, flight_miscounted, flight_status, good_flight_model, same_count}
use Rattle.device.specs.FlashFrame.{flash_address, flash_data, flash_memory, flash_model, flash_output, flash_unerased, flash_unreachable}
use Rattle.device.specs.Question.{interrupt_pending}
use Rattle.device.specs.Registers.{calendar_word, fill_words, flight_word, half, register_word, temperature_word}
use Rattle.device.specs.Reply.{accepted_answer, accepted_memory, accepted_model, accepted_output, any_late, buffer_of, memory, memory_by, memory_of, number_in, output, output_by, reply, reply_by}
use Rattle.device.specs.Results.{failed_difference, failed_flight, good_difference, good_flight, good_sum}
use Rattle.device.specs.Status.{alarm_bit, flash_bit, flight_bits, init_bit, joined as device_joined, ldo_bit, no_bits, por_bit, sets_own_bit, status_word, temperature_bits}
use Rattle.device.specs.Stretch.{last_tick, model_ticked, schedule_ticked, stretch_report}
use Rattle.device.specs.Tick.{clock_ticked, flight_after, flight_ticked, report_of, sum_after, sums_after, temperature_after, tick_model, tick_rings, tick_status}
use Rattle.device.specs.Write.{clock_after, covers, setup_after, ticks_after, with_word, write_invalid, write_model, written as device_written}
use Rattle.setup_frames.specs.Frames.{bytes_of, differs, differs_before, frame_at, frames, frames_from, run_length, starts as setup_frames_starts}
use Rattle.thermometer.specs.Degrees.{degrees_by, degrees_over, interpolated, off_table, resistance, thousandths as thermometer_thousandths, thousandths_from}
use Rattle.thermometer.specs.Table.{entries, entry, is_accepted, is_rising, none_above, pt1000}
use Rattle.quietest.specs.Quietest.{extreme, larger, quieter, quietest_place, smaller, spread}
use Rattle.numeral.specs.Digit.{are_digits as numeral_are_digits, digit_of, digits, glyph, value_of}
use Rattle.numeral.specs.Print.{decimal as numeral_decimal, decimal_width, four_decimals, hex_bytes, nanoseconds, ten_thousandths, thousandths as numeral_thousandths, width_from}
use Rattle.numeral.specs.Read.{negated, read_decimal, read_hex, read_signed, value_in}
use Rattle.listing.specs.Listing.{last_above, line, lines, right_justified, sign}
use Rattle.difference.specs.Difference.{joined_word, signed_of}
use Rattle.item_line.specs.Reading.{address, addressed, are_digits as item_line_are_digits, before_mark, behind_mark, bus_line, bytes_line, capital, counted, decimal as item_line_decimal, degrees_line, each, flight_line, flight_parts, four_digits, hex, is_digit, is_wanted, item_line, line_of, listing_line, one, parted, probe_line, quanta as item_line_quanta, read_by, record_line, set_line, size, table as item_line_table, temperature_line, wanted, wanted_line, without_comment, worded, words_line}
use Rattle.item_page.specs.Row.{refusal, refusal_words}
use Rattle.refusal.specs.declared.Refusal.{Refusal}
use Rattle.refusal.specs.Number.{number}

-- texts in quotes
abbrev texts : List String → List Text
texts ss = map ascii ss

-- rows of a line and its answer
abbrev Rows : Type 0
Rows = List (String × String)

-- what the lines write, one after the other, from the line of this number on
unfoldable written : ℕ → Rows → Item → Text
written number [] i = []
written number (row ∷ rows) i =
    let s = step number (ascii row.0) i in s.text ++ written (number + 1) rows s.item

-- the answers beside them
abbrev expected : Rows → Text
expected rows = ended_each (map (λ row. ascii row.1) rows)

-- the counts of the last line: calls, refused, unannounced, bad lines, expectations, differ
abbrev six : Tally → List ℕ
six t = t.calls ∷ t.refused ∷ t.unannounced ∷ t.bad ∷ t.expectations ∷ t.differ ∷ []

-- an item, 5 ticks after a start, with 2 ticks left to the flight measurement that is awaited
abbrev late : Item
late = with_model fresh_item (with_flight fresh_model (flight_with no_flight (with_left no_schedule 2))) 5

-- an item whose probe table and record have room for one more
abbrev nearly_full : Item
nearly_full =
    record { model = fresh_model; flash = []; recorded = replicate 4095 (pos 0); probes = replicate 1023 5; moment = 0 }

-- of one tick: failed, started; of a stretch: the tick of a failure, the tick of a start
abbrev report : Bool → Bool → Report
report failed started = record { started = started; failed = failed }

abbrev ticks : ℕ → ℕ → StretchReport
ticks failed started = record { started = record { 0 = started }; failed = record { 0 = failed } }

-- transactions, and the buffer that they leave; a measurement that is awaited is busy, a delivery ends it
abbrev transactions_rows : Rows
transactions_rows =
    ("bus 00", "bus no 8 not initialised")
    ∷ ("bus 05", "bus ok -")
    ∷ ("bus", "bus no 1 no frame")
    ∷ ("bus 00 00", "bus no 3 frame length")
    ∷ ("bus B8 00 00", "bus ok - out 0010")
    ∷ ("bus out=3 B8 00 00", "bus ok - out 0010EE")
    ∷ ("bus out=1 B8 00 00", "bus no 5 short output out EE")
    ∷ ("bus 90 00 00 00 00", "bus no 15 supply off out EEEE")
    ∷ ("set 38 1010 2000", "set ok -")
    ∷ ("set 43 0 0", "set no 4 address")
    ∷ ("bus 02", "bus ok flight")
    ∷ ("set 38 0", "set no 6 busy")
    ∷ ("awaited", "awaited 1 0")
    ∷ ("flight 1 / 2", "flight no 11 word count")
    ∷ ("flight 460000 470000 / 480000 490000", "flight good")
    ∷ ("expect D1 0046 8000", "expect D1 ok")
    ∷ ("awaited", "awaited 0 0")
    ∷ ("flight 1 / 2", "flight no 10 not awaited")
    ∷ ("bus 02", "bus ok flight")
    ∷ ("flight 2000000 1 / 1 1", "flight failed")
    ∷ []

-- the user flash: a word is written over FFh alone; `item` begins anew
abbrev flash_rows : Rows
flash_rows =
    ("bus 0C", "bus ok -")
    ∷ ("bus 10 00 02 12 34", "bus ok -")
    ∷ ("bus 90 00 02 00 00", "bus ok - out 1234")
    ∷ ("bus 10 00 02 00 00", "bus no 17 not erased")
    ∷ ("record 1", "record 1")
    ∷ ("probe 2", "probe 1")
    ∷ ("tick 1", "tick 1")
    ∷ ("item new   one", "item new one")
    ∷ ("at 0", "at 0")
    ∷ ("probe 2", "probe 1")
    ∷ ("quietest 1", "quietest no 18 width")
    ∷ ("bus 0C", "bus ok -")
    ∷ ("bus 90 00 02 00 00", "bus ok - out FFFF")
    ∷ []

-- `expect`, `regs` and `int` clear nothing; a read of FEh clears the status, also where it differs
abbrev status_rows : Rows
status_rows =
    ("set 34 BEEF", "set ok -")
    ∷ ("expect B4 BEEF 0 x", "expect B4 ok")
    ∷ ("expect B4 BEEE 0 1 0 001x", "expect B4 differs B4:BEEF/BEEE B6:0000/0001")
    ∷ ("expect FE 0004 0", "expect FE ok")
    ∷ ("regs", "B0 0000 0000 0101 0100 BEEF 0000 0000 0000\nB8 0010 0000 0000 0000 0000 0000 0000 0000\nC0 0000 0000 0000 0000 0000 0000 0000 0000\nC8 0000 0000 0000 0000 0000 0000 0000 0000\nD0 0000 0000 0000 0000 0000 0000 0000 0000\nD8 0000 0000 0000 0000 0000 0000 0000 0000\nE0 0000 0000 0000 0000 0000 0000 0000 0000\nE8 0000 0000 0000 0000 0000 0000 0000 0000\nF0 0000 0000 0000 0000 0000 0000 0000 0000\nF8 0000 0000 0000 0000 0000 0000 0004 0000")
    ∷ ("set 42 0200", "set ok -")
    ∷ ("int", "int yes")
    ∷ ("read FD 0 0", "read FD differs FE:0004/0000")
    ∷ ("int", "int no")
    ∷ ("read FE 0", "read FE ok")
    ∷ ("read fe 4", "read FE differs FE:0000/0004")
    ∷ ("read B4 xxEE xxxx", "read B4 differs B4:BEEF/xxEE")
    ∷ []

-- `=>`: whole words from the answer's second word on
abbrev expectations_rows : Rows
expectations_rows =
    ("bus 00 => no 8", "bus no 8 not initialised")
    ∷ ("bus 00 => no 8 not init", "bus no 8 not initialised expected no 8 not init")
    ∷ ("bus 00   =>  no   xx", "bus no 8 not initialised expected no xx")
    ∷ ("bus 00 =>", "bus no 8 not initialised")
    ∷ ("tick 1 => 1", "tick 1")
    ∷ ("regs => 0000 0000 0x01", "B0 0000 0000 0101 0100 0000 0000 0000 0000\nB8 0010 0000 0000 0000 0000 0000 0000 0000\nC0 0000 0000 0000 0000 0000 0000 0000 0000\nC8 0000 0000 0000 0000 0000 0000 0000 0000\nD0 0000 0000 0000 0000 0000 0000 0000 0000\nD8 0000 0000 0000 0000 0000 0000 0000 0000\nE0 0000 0000 0000 0000 0000 0000 0000 0000\nE8 0000 0000 0000 0000 0000 0000 0000 0000\nF0 0000 0000 0000 0000 0000 0000 0000 0000\nF8 0000 0000 0000 0000 0000 0000 0004 0000")
    ∷ ("frames => 1", "frames 0 expected 1")
    ∷ ("int => nx", "int no")
    ∷ ("record 5 6 => 5 6 7", "record 5 6 expected 5 6 7")
    ∷ ("listing old 0 => 3", "listing 2 expected 3\n00        0.0191\n01        0.0229")
    ∷ []

-- what is kept beside the model
abbrev analyses_rows : Rows
analyses_rows =
    ("record", "record 0")
    ∷ ("record -5 100", "record -5 100")
    ∷ ("quietest 2", "quietest 0 5")
    ∷ ("quietest 3", "quietest 0 105")
    ∷ ("quietest 4", "quietest no 18 width")
    ∷ ("listing FFFFFFFE", "listing no 20 capture number")
    ∷ ("listing old FD", "listing 3\nFD        0.0000\nFE -      0.0191\nFF        0.3815")
    ∷ ("listing 1", "listing 3\n00000001        0.0000\n00000002 -      0.0191\n00000003        0.3815")
    ∷ ("degrees 1 0", "degrees no 13 off the table")
    ∷ ("probe 1000000", "probe 1")
    ∷ ("degrees 1 1", "degrees no 14 bad table")
    ∷ ("probe 2000000 3000000", "probe 3")
    ∷ ("degrees 5 2", "degrees 1.500")
    ∷ ("set 38 1020 0 0 0 0001", "set ok -")
    ∷ ("frames", "frames 2\nframe 38 10 20\nframe 3C 00 01")
    ∷ []

-- bad lines, each named by its number
abbrev faults_rows : Rows
faults_rows =
    ("busy", "line 1: unknown word busy")
    ∷ ("bus 5", "line 2: bad number 5")
    ∷ ("tick", "line 3: wrong count")
    ∷ ("bus 05", "bus ok -")
    ∷ ("at x => 1", "line 5: bad number x")
    ∷ []

-- room for one more: what has none is not added
abbrev room_rows : Rows
room_rows =
    ("probe 1 2", "line 1: no room")
    ∷ ("probe 1", "probe 1024")
    ∷ ("probe 1", "line 3: no room")
    ∷ ("record 1 2", "line 4: no room")
    ∷ ("record 1", "record 1")
    ∷ ("record", "line 6: no room")
    ∷ []

-- 5 ticks after a start, with 2 ticks left to the measurement that is awaited
abbrev ticks_singly_rows : Rows
ticks_singly_rows =
    ("at 4", "line 1: past")
    ∷ ("at 5", "at 5")
    ∷ ("at 6", "at 6")
    ∷ ("at 8", "at 8 failed-flight@7")
    ∷ ("at 7", "line 5: past")
    ∷ ("tick 2", "tick 2")
    ∷ ("at 9", "line 7: past")
    ∷ ("at 10", "at 10")
    ∷ ("tick 0", "tick 0")
    ∷ []

abbrev ticks_from_one_rows : Rows
ticks_from_one_rows =
    ("tick 3 => 3 failed-flight@2", "tick 3 failed-flight@2")
    ∷ ("at 8", "at 8")
    ∷ []

abbrev ticks_at_once_rows : Rows
ticks_at_once_rows =
    ("stretch 3", "stretch 3 failed-flight@2")
    ∷ ("at 8", "at 8")
    ∷ ("stretch 16385", "stretch no 12 span")
    ∷ ("at 8", "at 8")
    ∷ []

-- only a transaction that starts a measurement sets the count back to 0
abbrev moment_of_a_start_rows : Rows
moment_of_a_start_rows =
    ("set 38 1010", "set ok -")
    ∷ ("bus 05", "bus ok -")
    ∷ ("tick 3", "tick 3")
    ∷ ("bus 00 00", "bus no 3 frame length")
    ∷ ("at 2", "line 5: past")
    ∷ ("bus FE 00 00", "bus ok - out 000C")
    ∷ ("at 2", "line 7: past")
    ∷ ("bus 02", "bus ok flight")
    ∷ ("at 1", "at 1")
    ∷ []

-- rows of a line and what it adds to the counts: calls, refused, unannounced, bad lines, expectations, differ
abbrev count_rows : List (String × List ℕ)
count_rows =
    ("bus 05", 1 ∷ 0 ∷ 0 ∷ 0 ∷ 0 ∷ 0 ∷ [])
    ∷ ("bus 00", 1 ∷ 1 ∷ 1 ∷ 0 ∷ 0 ∷ 0 ∷ [])
    ∷ ("bus 00 => no 8", 1 ∷ 1 ∷ 0 ∷ 0 ∷ 1 ∷ 0 ∷ [])
    ∷ ("bus 00 =>", 1 ∷ 1 ∷ 0 ∷ 0 ∷ 0 ∷ 0 ∷ [])
    ∷ ("bus 00 => no xx", 1 ∷ 1 ∷ 1 ∷ 0 ∷ 1 ∷ 1 ∷ [])
    ∷ ("bus 05 => ok", 1 ∷ 0 ∷ 0 ∷ 0 ∷ 1 ∷ 0 ∷ [])
    ∷ ("bus 05 => no", 1 ∷ 0 ∷ 0 ∷ 0 ∷ 1 ∷ 1 ∷ [])
    ∷ ("flight 1 / 2", 1 ∷ 1 ∷ 1 ∷ 0 ∷ 0 ∷ 0 ∷ [])
    ∷ ("temperature 1", 1 ∷ 1 ∷ 1 ∷ 0 ∷ 0 ∷ 0 ∷ [])
    ∷ ("degrees 0 1 => no 13", 1 ∷ 1 ∷ 0 ∷ 0 ∷ 1 ∷ 0 ∷ [])
    ∷ ("quietest 1", 1 ∷ 1 ∷ 1 ∷ 0 ∷ 0 ∷ 0 ∷ [])
    ∷ ("stretch 16385", 1 ∷ 1 ∷ 1 ∷ 0 ∷ 0 ∷ 0 ∷ [])
    ∷ ("tick 1", 1 ∷ 0 ∷ 0 ∷ 0 ∷ 0 ∷ 0 ∷ [])
    ∷ ("at 0", 1 ∷ 0 ∷ 0 ∷ 0 ∷ 0 ∷ 0 ∷ [])
    ∷ ("set 38 0", 1 ∷ 0 ∷ 0 ∷ 0 ∷ 0 ∷ 0 ∷ [])
    ∷ ("set 43 0 0", 1 ∷ 1 ∷ 1 ∷ 0 ∷ 0 ∷ 0 ∷ [])
    ∷ ("frames", 1 ∷ 0 ∷ 0 ∷ 0 ∷ 0 ∷ 0 ∷ [])
    ∷ ("listing 0", 1 ∷ 0 ∷ 0 ∷ 0 ∷ 0 ∷ 0 ∷ [])
    ∷ ("int => yes", 0 ∷ 0 ∷ 0 ∷ 0 ∷ 1 ∷ 1 ∷ [])
    ∷ ("awaited", 0 ∷ 0 ∷ 0 ∷ 0 ∷ 0 ∷ 0 ∷ [])
    ∷ ("regs => x", 0 ∷ 0 ∷ 0 ∷ 0 ∷ 1 ∷ 1 ∷ [])
    ∷ ("probe 1 => 1", 0 ∷ 0 ∷ 0 ∷ 0 ∷ 1 ∷ 0 ∷ [])
    ∷ ("record 1", 0 ∷ 0 ∷ 0 ∷ 0 ∷ 0 ∷ 0 ∷ [])
    ∷ ("expect FE 0 xxxx", 0 ∷ 0 ∷ 0 ∷ 0 ∷ 1 ∷ 1 ∷ [])
    ∷ ("expect B4 0 1 2 3", 0 ∷ 0 ∷ 0 ∷ 0 ∷ 4 ∷ 3 ∷ [])
    ∷ ("read FE 4 0", 1 ∷ 0 ∷ 0 ∷ 0 ∷ 2 ∷ 0 ∷ [])
    ∷ ("read B4 x 1 xxxx", 1 ∷ 0 ∷ 0 ∷ 0 ∷ 2 ∷ 1 ∷ [])
    ∷ ("tick x => 1", 0 ∷ 0 ∷ 0 ∷ 1 ∷ 0 ∷ 0 ∷ [])
    ∷ ("none", 0 ∷ 0 ∷ 0 ∷ 1 ∷ 0 ∷ 0 ∷ [])
    ∷ ("# none", 0 ∷ 0 ∷ 0 ∷ 0 ∷ 0 ∷ 0 ∷ [])
    ∷ ("item a", 0 ∷ 0 ∷ 0 ∷ 0 ∷ 0 ∷ 0 ∷ [])
    ∷ []

-- rows of a line and the bits of its outcome: answered 1, refused 2, announced 4, differs 8, bad 16
abbrev outcome_rows : List (String × ℕ)
outcome_rows = ("# none", 0) ∷ ("int", 1) ∷ ("bus 00", 3) ∷ ("bus 00 => no", 7) ∷ ("bus 00 => no xx", 11) ∷ ("int => yes", 9) ∷ ("read FE 0", 9) ∷ ("item a", 1) ∷ ("tick x", 17) ∷ []

-- the lines above, with the item that they begin on
abbrev scripts : List (Rows × Item)
scripts =
    (transactions_rows, fresh_item)
    ∷ (flash_rows, fresh_item)
    ∷ (status_rows, fresh_item)
    ∷ (expectations_rows, fresh_item)
    ∷ (analyses_rows, fresh_item)
    ∷ (faults_rows, fresh_item)
    ∷ (room_rows, nearly_full)
    ∷ (ticks_singly_rows, late)
    ∷ (ticks_from_one_rows, late)
    ∷ (ticks_at_once_rows, late)
    ∷ (moment_of_a_start_rows, fresh_item)
    ∷ []

-- ---- words

answers-of-the-chip : map answer_text (Refused Refusal.Busy ∷ Accepted false false ∷ Accepted true false ∷ Accepted false true ∷ Accepted true true ∷ Good ∷ Failed ∷ []) ≡ texts ("no 6 busy" ∷ "ok -" ∷ "ok flight" ∷ "ok temperature" ∷ "ok flight+temperature" ∷ "good" ∷ "failed" ∷ [])
unfolding ascii digits glyph numeral_decimal decimal_width width_from refusal refusal_words answer_text started
answers-of-the-chip = refl

output-told : map output_text ([] ∷ (0x0A ∷ 0xEE ∷ []) ∷ []) ≡ texts ("" ∷ " out 0AEE" ∷ [])
unfolding ascii digits glyph hex_bytes output_text
output-told = refl

reports-of-a-tick : reports_at 70 (Ticked (report true true) (report true true)) ≡ ascii " failed-flight@70 started-flight@70 failed-temperature@70 started-temperature@70"
unfolding ascii digits glyph numeral_decimal decimal_width width_from text_where item_answer_report reports reports_at
reports-of-a-tick = refl

reports-apart : map (reports_at 1) (Ticked (report true false) (report false false) ∷ Ticked (report false true) (report false false) ∷ Ticked (report false false) (report true false) ∷ Ticked (report false false) (report false true) ∷ []) ≡ texts (" failed-flight@1" ∷ " started-flight@1" ∷ " failed-temperature@1" ∷ " started-temperature@1" ∷ [])
unfolding ascii digits glyph numeral_decimal decimal_width width_from text_where item_answer_report reports reports_at
reports-apart = refl

-- by tick, and within one tick in the order of the words
reports-of-a-stretch : reports_to 4 (Stretched (ticks 4 2) (ticks 2 3)) ≡ ascii " started-flight@2 failed-temperature@2 started-temperature@3 failed-flight@4"
unfolding ascii digits glyph numeral_decimal decimal_width width_from text_where item_answer_report reports reports_at reports_to
reports-of-a-stretch = refl

-- of the ticks that the stretch has
reports-within : reports_to 3 (Stretched (ticks 4 0) (ticks 0 3)) ≡ ascii " started-temperature@3"
unfolding ascii digits glyph numeral_decimal decimal_width width_from text_where item_answer_report reports reports_at reports_to
reports-within = refl

words-of-bytes : words_of (0x12 ∷ 0x34 ∷ 0xFF ∷ 0xFE ∷ 0x00 ∷ []) ≡ 0x1234 ∷ 0xFFFE ∷ []
unfolding ascii words_of
words-of-bytes = refl

signed-quanta : map quanta (pos 0 ∷ pos 25 ∷ negsuc 0 ∷ negsuc 125901 ∷ []) ≡ texts ("0" ∷ "25" ∷ "-1" ∷ "-125902" ∷ [])
unfolding ascii digits glyph numeral_decimal decimal_width width_from text_where quanta
signed-quanta = refl

words-shown : map shown (texts ("out=201" ∷ "2\r" ∷ "12345678901234567890123456789012" ∷ "123456789012345678901234567890123" ∷ [])) ≡ texts ("out=201" ∷ "2?" ∷ "12345678901234567890123456789012" ∷ "12345678901234567890123456789012.." ∷ [])
unfolding ascii text_where shown shown_byte
words-shown = refl

bytes-shown : shown (0x20 ∷ 0x21 ∷ 0x7E ∷ 0x7F ∷ 0xE9 ∷ []) ≡ ascii "?!~??"
unfolding ascii text_where shown shown_byte
bytes-shown = refl

-- the output buffer without `out=`
sizes-by-frame : map frame_size ([] ∷ (0x05 ∷ []) ∷ (0x38 ∷ 0 ∷ 0 ∷ []) ∷ (0x90 ∷ 0 ∷ 0 ∷ 0 ∷ 0 ∷ []) ∷ (0xAF ∷ 0 ∷ 0 ∷ []) ∷ (0xB0 ∷ 0 ∷ 0 ∷ 0 ∷ []) ∷ (0xFF ∷ 0 ∷ 0 ∷ 0 ∷ 0 ∷ []) ∷ []) ≡ 0 ∷ 0 ∷ 0 ∷ 2 ∷ 0 ∷ 2 ∷ 4 ∷ []
unfolding ascii frame_size
sizes-by-frame = refl

-- ---- the lines above

-- Each answer, and what each line adds to the counts and its outcome.
lines-answered :
    (map (λ s. written 1 s.0 s.1) scripts ≡ map (λ s. expected s.0) scripts)
    × (map (λ row. six (step 1 (ascii row.0) fresh_item).adds) count_rows ≡ map (λ row. row.1) count_rows)
    × (map (λ row. outcome_bits (outcome (step 1 (ascii row.0) fresh_item))) outcome_rows ≡ map (λ row. row.1) outcome_rows)
unfolding alarm_rings clock_valid date_fits month_length start tick_clock time_fits alarm_valid bcd clock_from digits_fit hour_digits hour_fits hour_in hour_named hundredths_of minute_in time_digits twelve_in word30 word31 word32 word33 words_valid alarm_mode alarm_word clock_stands factory flight_unset hit_count interrupt_enabled timeout flash_further is_command is_flash is_read is_write not_whole past_end word_at difference_mean difference_word port_mean any_from any_word late_from average failed_pairs filled six_total six_words word_or_zero address_refused beyond first_word flash_word flash_written not_erased odd_address wrong_size before_initialize command_busy command_unset event_side_unset flight_side_unset flight_started initialised_model is_event must_be_idle read_model run_model single_started starts_flight starts_temperature supplied temperature_side_unset bad_calendar bad_setup first_of miscounted no_frame not_awaited not_carried not_initialised past_registers short_output supply_off device_table too_long unerased unreachable device_verdict while_busy wrong_length failed_flight_model flight_miscounted flight_status good_flight_model same_count balance_sound begins begins_group counts_sound fails good_after in_event is_awaited is_last left_after no_schedule schedule_sound settle settled_after start_single started_after starts_left tick_schedule wait_after wait_sound flash_address flash_data flash_memory flash_model flash_output flash_unerased flash_unreachable flight_sound fresh_model fresh_with is_busy is_sound kind_busy no_flight no_temperature sum_fits temperature_sound interrupt_pending calendar_word fill_words flight_word half register_word temperature_word accepted_answer accepted_memory accepted_model accepted_output any_late buffer_of memory memory_by memory_of number_in output output_by reply reply_by failed_difference failed_flight good_difference good_flight good_sum alarm_bit flash_bit flight_bits init_bit device_joined ldo_bit no_bits por_bit sets_own_bit status_word temperature_bits last_tick model_ticked schedule_ticked stretch_report clock_ticked flight_after flight_ticked report_of sum_after sums_after temperature_after tick_model tick_rings tick_status clock_after covers setup_after ticks_after with_word write_invalid write_model device_written bytes_of differs differs_before frame_at frames frames_from run_length setup_frames_starts degrees_by degrees_over interpolated off_table resistance thermometer_thousandths thousandths_from entries entry is_accepted is_rising none_above pt1000 extreme larger quieter quietest_place smaller spread ascii numeral_are_digits digit_of digits glyph value_of numeral_decimal decimal_width four_decimals hex_bytes nanoseconds ten_thousandths numeral_thousandths width_from negated read_decimal read_hex read_signed value_in last_above line lines right_justified sign joined_word signed_of begin_with begun_before ended ended_each fits is_blank same spaced spaced_each text_where without_return words words_after address addressed item_line_are_digits before_mark behind_mark bus_line bytes_line capital counted item_line_decimal degrees_line each flight_line flight_parts four_digits hex is_digit is_wanted item_line line_of listing_line one parted probe_line item_line_quanta read_by record_line set_line size item_line_table temperature_line wanted wanted_line without_comment worded words_line refusal refusal_words added ask_told at_result awaited_text bus_told call_result degrees_of degrees_told delivery_told frame_size frames_told fresh_item int_text is_refusal keep_result listing_told probe_result quietest_told read_words record_result set_told size_of starts stretch_told ticked ticks_told transacted transaction_told word_bytes agrees bad_step compared_step disagrees expectations expected_text expects line_step outcome outcome_bits result_step step told_step answer_text difference differences fault_line fault_text frame_line joined output_text quanta register_line register_lines registers item_answer_report reports reports_at reports_to shown shown_byte started verdict words_of written
lines-answered = (refl, refl, refl)
