-- Every definition that facts compute with, named once: to unfold `computed` is to unfold them all.
use mathlib.Core.Bool.{Bool, true}
use Rattle.calendar.specs.Calendar.{leap, month_length, date_fits, time_fits, clock_valid, start}
use Rattle.calendar.specs.Calendar.{next_second, tick_clock}
use Rattle.calendar.specs.Alarm.{reaches, alarm_rings}
use Rattle.calendar.specs.Words.{bcd, hundredths_of, word30, word31, hour_digits, word32, word33, minute_in, twelve_in, hour_named, hour_in, ticks_in, clock_from}
use Rattle.calendar.specs.Words.{time_digits, hour_fits, digits_fit, words_valid, alarm_valid}
use Rattle.setup.specs.Setup.{factory, alarm_word, flight_unset, temperature_unset, clock_stands, event_continuous, each_interrupt, alarm_mode}
use Rattle.setup.specs.Setup.{difference_count, temperature_count, difference_period, temperature_period, hit_count, timeout, port_cycle}
use Rattle.frame.specs.Frame.{is_command, is_write, is_flash, is_read, not_whole, past_end, word_at}
use Rattle.hit.specs.Limit.{late_from, open_from, short_below, any_word, any_from, any_below, any_fault}
use Rattle.hit.specs.Words.{word_or_zero, six_words, four_words, six_total, average, filled, failed_pairs, failed_ports, port_pair, port_pairs, plus_each}
use Rattle.hit.specs.Difference.{biased, difference_word, difference_mean, port_mean}
use Rattle.hit.specs.Mean.{difference_bits}
use Rattle.device.specs.Event.{no_schedule, counts_sound, wait_sound, balance_sound, schedule_sound, is_awaited, in_event, starts_left, begins_group, fails, start_event, tick_schedule, begins, left_after, wait_after, started_after}
use Rattle.device.specs.Event.{settled_after, good_after, settle, is_last}
use Rattle.device.specs.Status.{init_bit, por_bit, no_bits, joined, status_word, sets_own_bit, flight_bits, temperature_bits, alarm_bit}
use Rattle.device.specs.Model.{fresh_model, fresh_with, no_flight, no_temperature, sum_fits, flight_sound, temperature_sound, is_sound, kind_busy, is_busy}
use Rattle.device.specs.Registers.{calendar_word, half, flight_word, temperature_word, register_word, fill_words}
use Rattle.device.specs.Write.{covers, written, with_word, setup_after, ticks_after, clock_after, write_invalid, write_model}
use Rattle.device.specs.Results.{failed_difference, failed_flight}
use Rattle.device.specs.Tick.{sum_after, sums_after, flight_ticked, flight_after, temperature_after, clock_ticked, tick_rings, tick_status, tick_model, report_of}
use Rattle.device.specs.Delivery.{same_count, flight_miscounted, flight_status, temperature_status, good_flight_model, failed_flight_model, good_temperature_model, failed_temperature_model}
use Rattle.device.specs.Results.{good_difference, good_sum, good_flight, good_sums}
use Rattle.device.specs.Bus.{must_be_idle, starts_flight, starts_temperature, is_event, command_busy, before_initialize, flight_side_unset}
use Rattle.device.specs.Bus.{temperature_side_unset, event_side_unset, command_unset, flight_event, temperature_event, event_flight}
use Rattle.device.specs.Bus.{event_temperature, started_event, initialised_model, run_model, read_model}
use Rattle.device.specs.Stretch.{model_ticked, schedule_ticked, last_tick, stretch_report}
use Rattle.device.specs.Call.{verdict, first_of, table}
use Rattle.device.specs.Reply.{any_late, any_open, port_fault, number_in, values_in, reply, reply_by, output_by, output, accepted_output}
use Rattle.device.specs.Call.{no_frame, not_carried, wrong_length, past_registers, short_output, while_busy, supply_off, unreachable, unerased, bad_calendar}
use Rattle.device.specs.Call.{not_initialised, bad_setup, not_awaited, miscounted, too_long}
use Rattle.device.specs.Reply.{accepted_answer, accepted_model}
use Rattle.device.specs.History.{after, log}
use Rattle.demands.specs.EventHistory.{is_refusal, last_given, may_follow, only_reads}
use Rattle.demands.specs.EventHistory.{at_acceptance, opens_group, note_tick, note_ticks, note_delivery, note_read, note_accepted, note, history}
use Rattle.demands.specs.Claim.{ticks_moved, tick_count}
use Rattle.demands.specs.SetupTold.{word_given, setup_told}
use Rattle.demands.specs.FlashRun.{lent, memory_left}
use Rattle.demands.specs.Probes.{start_of, flow_of, flow_through}
use Rattle.device.specs.StretchSteps.{progress, moved, moved_quietly, moved_by_one, noted, least, quiet_for, quiet_clock, quiet_schedule, quiet_left, quiet_wait, later_model, later_clock, later_schedule}

unfoldable pub computed : Bool
unfolding after reply reply_by verdict first_of table no_frame not_carried wrong_length past_registers short_output while_busy supply_off unreachable unerased bad_calendar not_initialised bad_setup not_awaited miscounted too_long accepted_model fresh_model fresh_with por_bit no_flight no_temperature no_schedule start factory is_sound sum_fits flight_sound temperature_sound schedule_sound clock_valid date_fits time_fits leap month_length kind_busy is_busy is_awaited in_event is_command is_write is_flash is_read not_whole past_end word_at calendar_word word30 word31 hour_digits word32 word33 bcd hundredths_of minute_in twelve_in hour_named hour_in ticks_in clock_from time_digits hour_fits digits_fit words_valid alarm_valid alarm_word covers written with_word setup_after ticks_after clock_after write_invalid write_model must_be_idle starts_flight starts_temperature is_event command_busy before_initialize flight_side_unset temperature_side_unset event_side_unset command_unset flight_unset temperature_unset event_continuous starts_left begins_group good_after counts_sound wait_sound balance_sound sum_after sums_after flight_ticked clock_stands run_model initialised_model joined model_ticked begins left_after wait_after started_after log only_reads is_refusal may_follow accepted_answer started_event event_flight flight_event start_event difference_count event_temperature temperature_event temperature_count tick_model clock_ticked tick_clock flight_after fails tick_schedule settled_after temperature_after stretch_report last_tick schedule_ticked report_of register_word flight_word temperature_word half settle good_flight good_sum good_difference good_flight_model good_temperature_model failed_temperature_model good_sums six_words four_words average six_total filled port_pairs port_pair plus_each word_or_zero biased difference_word difference_mean difference_bits port_mean any_late any_open port_fault any_fault any_from any_below any_word short_below late_from open_from hit_count timeout port_cycle flight_miscounted same_count difference_period temperature_period flow_through flow_of failed_flight failed_difference failed_flight_model number_in values_in output output_by accepted_output read_model fill_words no_bits status_word sets_own_bit is_last flight_status temperature_status flight_bits temperature_bits alarm_bit each_interrupt tick_status start_of ticks_moved tick_count at_acceptance opens_group note_tick note_ticks note_delivery note_read note_accepted note history word_given last_given setup_told init_bit next_second tick_rings alarm_mode failed_pairs failed_ports alarm_rings reaches progress moved moved_quietly moved_by_one noted least quiet_for quiet_clock quiet_schedule quiet_left quiet_wait later_model later_clock later_schedule lent memory_left
computed = true
