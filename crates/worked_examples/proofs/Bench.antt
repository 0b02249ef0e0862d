-- The bench table: of each example the definitions give what the paper says.
use Prim.Native.Nat.{ℕ}
use mathlib.Core.Bool.{Bool, true}
use mathlib.Core.List.{[], ◌∷◌, ◌++◌}
use mathlib.Core.Path.{◌≡◌, refl}
use lib.ListN.{get_or}
use Rattle.calendar.specs.Calendar.{leap, month_length, date_fits, time_fits, clock_valid, next_year, next_month, next_weekday, start}
use Rattle.calendar.specs.Calendar.{next_date, next_hour, next_minute, next_second, tick_clock}
use Rattle.calendar.specs.Words.{bcd, hundredths_of, word30, word31, hour_digits, word32, word33, minute_in, twelve_in, hour_named, hour_in, ticks_in, clock_from}
use Rattle.calendar.specs.Words.{time_digits, hour_fits, digits_fit, words_valid, alarm_valid}
use Rattle.setup.specs.Setup.{factory, alarm_word, flight_unset, temperature_unset, clock_stands, event_continuous}
use Rattle.setup.specs.Setup.{difference_count, difference_period, hit_count, timeout}
use Rattle.frame.specs.Frame.{is_command, is_write, is_flash, not_whole, past_end, word_at}
use Rattle.hit.specs.Limit.{late_from, open_from, short_below, any_word, any_from, any_below, any_fault}
use Rattle.hit.specs.Words.{word_or_zero, six_words, six_total, average}
use Rattle.hit.specs.Difference.{biased, difference_word, difference_mean}
use Rattle.hit.specs.Mean.{All, difference_bits}
use Rattle.device.specs.Event.{no_schedule, counts_sound, wait_sound, balance_sound, schedule_sound, is_awaited, in_event, starts_left, begins, begins_group, fails, start_single, start_event, settle, tick_schedule}
use Rattle.device.specs.Event.{left_after, wait_after, started_after, settled_after, good_after}
use Rattle.device.specs.Model.{fresh_model, fresh_with, no_flight, no_temperature, sum_fits, flight_sound, temperature_sound, is_sound, kind_busy, is_busy}
use Rattle.device.specs.Registers.{calendar_word, half, flight_word, register_word}
use Rattle.device.specs.Write.{covers, written, with_word, setup_after, ticks_after, clock_after, write_invalid, write_model}
use Rattle.device.specs.Results.{good_difference, good_sum, good_flight, failed_flight}
use Rattle.device.specs.Tick.{sum_after, sums_after, flight_ticked, flight_after, temperature_after, clock_ticked, tick_model, report_of}
use Rattle.device.specs.Stretch.{model_ticked, schedule_ticked, last_tick, stretch_report}
use Rattle.device.specs.Delivery.{same_count, flight_miscounted, good_flight_model}
use Rattle.device.specs.Bus.{must_be_idle, starts_flight, starts_temperature, is_event, command_busy, before_initialize, flight_side_unset, temperature_side_unset, event_side_unset, command_unset}
use Rattle.device.specs.Bus.{flight_started, flight_event, event_flight, event_temperature, started_event, initialised_model, single_started, run_model}
use Rattle.device.specs.Call.{verdict, first_of, table, no_frame, not_carried, wrong_length, past_registers, short_output, while_busy, supply_off, unreachable, unerased, bad_calendar}
use Rattle.device.specs.Call.{not_initialised, bad_setup, not_awaited, miscounted, too_long}
use Rattle.device.specs.Reply.{any_late, accepted_answer, accepted_model, reply, reply_by, values_in}
use Rattle.device.specs.Question.{awaited_told}
use Rattle.device.specs.History.{after}
use Rattle.worked_examples.specs.Bench.{Example, grown, TOF-Diff, EVTMG2, delivery, answered, followed, pair, starts_named, bench}
use Rattle.device.specs.Call.{tick, stretch}
use Rattle.refusal.specs.Number.{number}

-- Every definition that the table computes with, named once: to unfold this one is to unfold them all.
computed : Bool
unfolding starts_named followed leap month_length date_fits time_fits clock_valid next_year next_month next_weekday start next_date next_hour next_minute next_second tick_clock bcd hundredths_of word30 word31 hour_digits word32 word33 minute_in twelve_in hour_named hour_in ticks_in clock_from time_digits hour_fits digits_fit words_valid alarm_valid factory alarm_word flight_unset temperature_unset clock_stands event_continuous difference_count difference_period hit_count timeout is_command is_write is_flash not_whole past_end word_at late_from open_from short_below any_word any_from any_below any_fault word_or_zero six_words six_total average difference_word difference_mean biased difference_bits no_schedule counts_sound wait_sound balance_sound schedule_sound is_awaited in_event starts_left begins begins_group fails start_single start_event settle tick_schedule left_after wait_after started_after settled_after good_after fresh_model fresh_with no_flight no_temperature sum_fits flight_sound temperature_sound is_sound kind_busy is_busy calendar_word half flight_word register_word covers written with_word setup_after ticks_after clock_after write_invalid write_model good_difference good_sum good_flight failed_flight sum_after sums_after flight_ticked flight_after temperature_after clock_ticked tick_model report_of model_ticked schedule_ticked last_tick stretch_report same_count flight_miscounted good_flight_model must_be_idle starts_flight starts_temperature is_event command_busy before_initialize flight_side_unset temperature_side_unset event_side_unset command_unset flight_started flight_event event_flight event_temperature started_event initialised_model single_started run_model verdict first_of table no_frame not_carried wrong_length past_registers short_output while_busy supply_off unreachable unerased bad_calendar not_initialised bad_setup not_awaited miscounted too_long any_late accepted_answer accepted_model reply reply_by values_in awaited_told after
computed = true

-- example i, counted from 0
Right : ℕ → Type 0
unfolding bench
Right i = let e : Example = get_or bench i (record { number = 0; given = []; wanted = [] }) in e.given ≡ e.wanted

early : Right 0 × Right 1 × Right 2 × Right 3 × Right 4 × Right 5 × Right 6 × Right 7
unfolding Right computed
early = (refl, refl, refl, refl, refl, refl, refl, refl)

ninth : answered (grown []) EVTMG2 ++ starts_named 4096 0 (grown (EVTMG2 ∷ [])) ≡ 1 ∷ 0 ∷ 16384 ∷ []
unfolding computed
ninth = refl

tenth :
    followed (grown (TOF-Diff ∷ stretch 8190 ∷ [])) (tick ∷ tick ∷ [])
    ≡ 1 ∷ 0 ∷ 0 ∷ 0 ∷ 0 ∷ 1 ∷ 0 ∷ 1 ∷ 0 ∷ 0 ∷ 0 ∷ []
unfolding computed
tenth = refl

eleventh : pair (grown (EVTMG2 ∷ delivery 4 5 ∷ stretch 16384 ∷ delivery 4 4 ∷ [])) 0xE5 ≡ 0xFFFF ∷ 0xFFFF ∷ []
unfolding computed
eleventh = refl

pub bench-holds : All (λ (e : Example). e.given ≡ e.wanted) bench
unfolding bench Right
bench-holds =
    let (a, b, c, d, e, f, g, h) = early in
    (a, (b, (c, (d, (e, (f, (g, (h, (ninth, (tenth, (eleventh, tt)))))))))))
