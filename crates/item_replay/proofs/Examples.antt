-- Whole replays in plain words: a text, and what is written for it. Assumes nothing.
use Prim.Native.Nat.{ℕ}
use Prim.Native.String.{String}
use mathlib.Core.List.{List, [], ◌∷◌, ◌++◌, map}
use mathlib.Core.Path.{◌≡◌, refl}
use Rattle.numeral.specs.Ascii.{ascii}
use Rattle.text.specs.Text.{ended_each, begin_with, begun_before, ended, fits, is_blank, lines, lines_after, same, spaced, spaced_each, text_where, without_return, words, words_after}
use Rattle.item_answer.specs.Step.{Tally, agrees, bad_step, compared_step, disagrees, expectations, expects, line_step, result_step, step, told_step}
use Rattle.item_replay.specs.Replay.{plus, last_line, replay, replay_from}
use Rattle.calendar.specs.Calendar.{clock_valid, date_fits, month_length, start, time_fits}
use Rattle.calendar.specs.Words.{alarm_valid, bcd, clock_from, digits_fit, hour_digits, hour_fits, hour_in, hour_named, hundredths_of, minute_in, time_digits, twelve_in, word30, word31, word32, word33, words_valid}
use Rattle.setup.specs.Setup.{alarm_word, factory, flight_unset, hit_count, interrupt_enabled, timeout}
use Rattle.frame.specs.Frame.{is_command, is_flash, is_read, is_write, not_whole, past_end, word_at}
use Rattle.hit.specs.Difference.{difference_word}
use Rattle.hit.specs.Limit.{any_from, any_word, late_from}
use Rattle.hit.specs.Words.{average, filled, six_total, six_words, word_or_zero}
use Rattle.device.specs.Bus.{before_initialize, command_busy, command_unset, event_side_unset, flight_side_unset, flight_started, initialised_model, is_event, must_be_idle, read_model, run_model, single_started, starts_flight, starts_temperature, temperature_side_unset}
use Rattle.device.specs.Call.{bad_calendar, bad_setup, first_of, miscounted, no_frame, not_awaited, not_carried, not_initialised, past_registers, short_output, supply_off, table as device_table, too_long, unerased, unreachable, verdict as device_verdict, while_busy, wrong_length}
use Rattle.device.specs.Delivery.{flight_miscounted, flight_status, good_flight_model, same_count}
use Rattle.device.specs.Event.{balance_sound, counts_sound, in_event, is_awaited, is_last, no_schedule, schedule_sound, settle, start_single, starts_left, wait_sound}
use Rattle.device.specs.Model.{flight_sound, fresh_model, fresh_with, is_busy, is_sound, kind_busy, no_flight, no_temperature, sum_fits, temperature_sound}
use Rattle.device.specs.Question.{interrupt_pending}
use Rattle.device.specs.Registers.{calendar_word, fill_words, flight_word, half, register_word}
use Rattle.device.specs.Reply.{accepted_answer, accepted_memory, accepted_model, accepted_output, any_late, buffer_of, memory, memory_by, memory_of, number_in, output, output_by, reply, reply_by}
use Rattle.device.specs.Results.{good_difference, good_flight, good_sum}
use Rattle.device.specs.Status.{flight_bits, init_bit, joined as device_joined, no_bits, por_bit, sets_own_bit, status_word}
use Rattle.device.specs.Write.{clock_after, covers, setup_after, ticks_after, with_word, write_invalid, write_model, written}
use Rattle.numeral.specs.Digit.{are_digits as numeral_are_digits, digit_of, digits, glyph, value_of}
use Rattle.numeral.specs.Print.{decimal, decimal_width, width_from}
use Rattle.numeral.specs.Read.{read_hex, value_in}
use Rattle.item_line.specs.Reading.{address, addressed, are_digits as item_line_are_digits, before_mark, behind_mark, bus_line, bytes_line, capital, counted, each, flight_line, flight_parts, four_digits, hex, is_digit, is_wanted, item_line, line_of, one, parted, read_by, set_line, table as item_line_table, wanted, wanted_line, without_comment, worded, words_line}
use Rattle.item_page.specs.Row.{refusal, refusal_words}
use Rattle.item_answer.specs.Answer.{ask_told, bus_told, call_result, delivery_told, frame_size, fresh_item, int_text, is_refusal, read_words, set_told, size_of, starts, transacted, transaction_told, word_bytes}
use Rattle.item_answer.specs.Words.{answer_text, difference, differences, fault_line, fault_text, joined as item_answer_joined, output_text, registers, shown, shown_byte, started, verdict as item_answer_verdict, words_of}

-- the counts of the last line: calls, refused, unannounced, bad lines, expectations, differ
abbrev tally : ℕ → ℕ → ℕ → ℕ → ℕ → ℕ → Tally
tally calls refused unannounced bad expectations differ =
    record { calls = calls; refused = refused; unannounced = unannounced; bad = bad; expectations = expectations; differ = differ }

-- No line has no answer but the last line. Lines are counted from 1, those that are passed over too; one carriage return is dropped, and the
-- last line may lack its line feed.
abbrev texts : List (String × String)
texts =
    ("", "end 0 calls, 0 refused, 0 unannounced, 0 bad lines, 0 expectations, 0 differ\n")
    ∷ ("# a comment\n\nbuss\nint\r\nint x", "line 3: unknown word buss\nint no\nline 5: wrong count\nend 0 calls, 0 refused, 0 unannounced, 2 bad lines, 0 expectations, 0 differ\n")
    ∷ []

-- What a line leaves, the next one finds: a start, its words, a read that clears the status; `item` begins anew. Each row has a line and its
-- answer.
abbrev rows : List (String × String)
rows =
    ("item first", "item first")
    ∷ ("set 38 1010 2000 # 16 pulses at 1 MHz, two hits", "set ok -")
    ∷ ("set 42 0200", "set ok -")
    ∷ ("bus 05 => ok", "bus ok -")
    ∷ ("bus 02 => ok flight", "bus ok flight")
    ∷ ("bus 02", "bus no 6 busy")
    ∷ ("bus 02 => no 6", "bus no 6 busy")
    ∷ ("flight 460000 470000 / 480000 490000", "flight good")
    ∷ ("int", "int yes")
    ∷ ("read D1 0046 8xxx", "read D1 ok")
    ∷ ("expect E0 0048 8000 FFFE 0001", "expect E0 differs E3:0000/0001")
    ∷ ("read FE 100C", "read FE ok")
    ∷ ("int", "int no")
    ∷ ("read FE x", "read FE ok")
    ∷ ("item second", "item second")
    ∷ ("expect D1 0 0 # nothing is left", "expect D1 ok")
    ∷ ("read FE 4", "read FE ok")
    ∷ ("at", "line 18: wrong count")
    ∷ []

counts-add : plus (tally 1 2 3 4 5 6) (tally 10 20 30 40 50 60) ≡ tally 11 22 33 44 55 66
unfolding ascii plus
counts-add = refl

counts-told : last_line (tally 9 5 3 2 81 1) ≡ ascii "end 9 calls, 5 refused, 3 unannounced, 2 bad lines, 81 expectations, 1 differ"
unfolding ascii digits glyph decimal decimal_width width_from last_line
counts-told = refl

-- the texts and the rows above; of these the last line
texts-replayed :
    (map (λ t. replay (ascii t.0)) texts ≡ map (λ t. ascii t.1) texts)
    × (replay (ended_each (map (λ row. ascii row.0) rows)) ≡ ended_each (map (λ row. ascii row.1) rows) ++ ascii "end 11 calls, 2 refused, 1 unannounced, 1 bad lines, 14 expectations, 1 differ\n")
unfolding clock_valid date_fits month_length start time_fits alarm_valid bcd clock_from digits_fit hour_digits hour_fits hour_in hour_named hundredths_of minute_in time_digits twelve_in word30 word31 word32 word33 words_valid alarm_word factory flight_unset hit_count interrupt_enabled timeout is_command is_flash is_read is_write not_whole past_end word_at difference_word any_from any_word late_from average filled six_total six_words word_or_zero before_initialize command_busy command_unset event_side_unset flight_side_unset flight_started initialised_model is_event must_be_idle read_model run_model single_started starts_flight starts_temperature temperature_side_unset bad_calendar bad_setup first_of miscounted no_frame not_awaited not_carried not_initialised past_registers short_output supply_off device_table too_long unerased unreachable device_verdict while_busy wrong_length flight_miscounted flight_status good_flight_model same_count balance_sound counts_sound in_event is_awaited is_last no_schedule schedule_sound settle start_single starts_left wait_sound flight_sound fresh_model fresh_with is_busy is_sound kind_busy no_flight no_temperature sum_fits temperature_sound interrupt_pending calendar_word fill_words flight_word half register_word accepted_answer accepted_memory accepted_model accepted_output any_late buffer_of memory memory_by memory_of number_in output output_by reply reply_by good_difference good_flight good_sum flight_bits init_bit device_joined no_bits por_bit sets_own_bit status_word clock_after covers setup_after ticks_after with_word write_invalid write_model written ascii numeral_are_digits digit_of digits glyph value_of decimal decimal_width width_from read_hex value_in begin_with begun_before ended ended_each fits is_blank lines lines_after same spaced spaced_each text_where without_return words words_after address addressed item_line_are_digits before_mark behind_mark bus_line bytes_line capital counted each flight_line flight_parts four_digits hex is_digit is_wanted item_line line_of one parted read_by set_line item_line_table wanted wanted_line without_comment worded words_line refusal refusal_words ask_told bus_told call_result delivery_told frame_size fresh_item int_text is_refusal read_words set_told size_of starts transacted transaction_told word_bytes agrees bad_step compared_step disagrees expectations expects line_step result_step step told_step answer_text difference differences fault_line fault_text item_answer_joined output_text registers shown shown_byte started item_answer_verdict words_of last_line plus replay replay_from
texts-replayed = (refl, refl)
