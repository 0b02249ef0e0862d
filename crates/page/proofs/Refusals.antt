-- COMMANDS NOW, as `docs/ITEMS.md` has it. Assumes nothing.
use mathlib.Core.List.{[], ◌∷◌, map}
use mathlib.Core.Path.{◌≡◌, refl}
use Rattle.calendar.specs.Calendar.{leap, month_length, date_fits, time_fits, clock_valid, start}
use Rattle.calendar.specs.Words.{bcd, hundredths_of, word30, word31, hour_digits, word32, word33, minute_in, twelve_in, hour_named, hour_in, ticks_in, clock_from, time_digits, hour_fits, digits_fit, words_valid, alarm_valid}
use Rattle.setup.specs.Setup.{factory, alarm_word, flight_unset, temperature_unset, clock_stands}
use Rattle.frame.specs.Frame.{is_command, is_write, is_read, is_flash, flash_further, not_whole, past_end, word_at}
use Rattle.numeral.specs.Digit.{digits, glyph}
use Rattle.numeral.specs.Place.{joined as together}
use Rattle.numeral.specs.Print.{width_from, decimal_width, decimal}
use Rattle.device.specs.declared.Model.{Model}
use Rattle.device.specs.Event.{no_schedule, is_awaited, in_event, starts_left, counts_sound, wait_sound, balance_sound, schedule_sound}
use Rattle.device.specs.Status.{por_bit, joined, init_bit}
use Rattle.device.specs.Model.{fresh_model, fresh_with, no_flight, no_temperature, sum_fits, flight_sound, temperature_sound, is_sound, kind_busy, is_busy}
use Rattle.device.specs.Registers.{calendar_word, register_word}
use Rattle.device.specs.Write.{covers, written, with_word, setup_after, ticks_after, clock_after, write_invalid}
use Rattle.device.specs.Question.{peek}
use Rattle.device.specs.Bus.{must_be_idle, starts_flight, starts_temperature, is_event, command_busy, before_initialize, flight_side_unset, temperature_side_unset, event_side_unset, command_unset, initialised_model}
use Rattle.device.specs.Call.{verdict, first_of, table, no_frame, not_carried, wrong_length, past_registers, short_output, while_busy, supply_off, unreachable, unerased, bad_calendar, not_initialised, bad_setup, not_awaited, miscounted, too_long}
use Rattle.device.specs.Reply.{reply, reply_by, accepted_answer, number_in}
use Rattle.numeral.specs.Ascii.{ascii}
use Rattle.wording.specs.Wording.{refusal_words, refusal_word, refusal, reported_where}
use Rattle.item_state.specs.Told.{told_value, read_word}
use Rattle.page.specs.Row.{binary}
use Rattle.page.specs.Commands.{answer_to, flight_fields, temperature_fields, clock_fields, fields, refused_texts, answer_texts, frame_row, command_row, flash_row, write_row, command_rows}

-- "a model that is initialised and has its factory values"
abbrev ready : Model
ready = initialised_model fresh_model

-- "COMMANDS NOW", every row of it
now : map together (command_rows ready) ≡
    ascii "COMMANDS NOW"
    ∷ ascii "00-02  TOF_UP, TOF_DOWN, TOF_DIFF          no 9 set-up: PL 0"
    ∷ ascii "03     Temperature                         no 9 set-up: TP 00b"
    ∷ ascii "05     Initialize                          ok"
    ∷ ascii "07     EVTMG1, both kinds                  no 9 set-up: PL 0 TP 00b"
    ∷ ascii "08     EVTMG2, differences                 no 9 set-up: PL 0"
    ∷ ascii "09     EVTMG3, temperatures                no 9 set-up: TP 00b"
    ∷ ascii "0C 0D  LDO_ON, LDO_OFF                     ok"
    ∷ ascii "10 13  Flash write, erase, read (90)       no 15 supply off"
    ∷ ascii "30-43  Register writes                     ok"
    ∷ []
unfolding together command_row frame_row answer_to answer_texts refused_texts fields flight_fields temperature_fields clock_fields binary refusal refusal_word refusal_words reported_where read_word told_value peek register_word reply reply_by accepted_answer number_in verdict first_of table no_frame not_carried wrong_length past_registers short_output while_busy supply_off unreachable unerased bad_calendar not_initialised bad_setup not_awaited miscounted too_long must_be_idle starts_flight starts_temperature is_event command_busy before_initialize flight_side_unset temperature_side_unset event_side_unset command_unset flight_unset temperature_unset clock_stands initialised_model fresh_model fresh_with no_flight no_temperature no_schedule por_bit init_bit joined start factory is_sound sum_fits flight_sound temperature_sound schedule_sound counts_sound wait_sound balance_sound kind_busy is_busy is_awaited in_event starts_left clock_valid date_fits time_fits leap month_length alarm_valid alarm_word time_digits minute_in twelve_in hour_named hour_fits is_command is_write is_flash is_read decimal decimal_width width_from digits glyph ascii command_rows flash_row write_row write_invalid covers written with_word setup_after ticks_after clock_after word_at words_valid digits_fit clock_from hour_in ticks_in word30 word31 word32 word33 bcd hour_digits hundredths_of calendar_word not_whole past_end flash_further
now = refl

-- before 05h
not-initialised : together (command_row fresh_model (ascii "00-02  TOF_UP, TOF_DOWN, TOF_DIFF         ") 0x00) ≡ ascii "00-02  TOF_UP, TOF_DOWN, TOF_DIFF          no 8 not initialised"
unfolding together command_row frame_row answer_to answer_texts refused_texts fields flight_fields temperature_fields clock_fields binary refusal refusal_word refusal_words reported_where read_word told_value peek register_word reply reply_by accepted_answer number_in verdict first_of table no_frame not_carried wrong_length past_registers short_output while_busy supply_off unreachable unerased bad_calendar not_initialised bad_setup not_awaited miscounted too_long must_be_idle starts_flight starts_temperature is_event command_busy before_initialize flight_side_unset temperature_side_unset event_side_unset command_unset flight_unset temperature_unset clock_stands initialised_model fresh_model fresh_with no_flight no_temperature no_schedule por_bit init_bit joined start factory is_sound sum_fits flight_sound temperature_sound schedule_sound counts_sound wait_sound balance_sound kind_busy is_busy is_awaited in_event starts_left clock_valid date_fits time_fits leap month_length alarm_valid alarm_word time_digits minute_in twelve_in hour_named hour_fits is_command is_write is_flash is_read decimal decimal_width width_from digits glyph ascii
not-initialised = refl
