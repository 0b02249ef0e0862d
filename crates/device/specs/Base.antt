-- What the definitions here use of the crates below, handed on under one name.
pub use Rattle.unit.specs.Choice.{pick, either, both, negate}
pub use Rattle.setup.specs.Setup.{flight_unset, temperature_unset, clock_stands, event_continuous, difference_period, difference_count}
pub use Rattle.setup.specs.Setup.{temperature_period, temperature_count, hit_count, word_of, each_interrupt, factory, alarm_word}
pub use Rattle.setup.specs.Setup.{interrupt_enabled, timeout, port_cycle, alarm_mode}
pub use Rattle.hit.specs.Words.{no_quanta, no_sums, port_pairs, six_words, four_words, average, filled, failed_pairs, plus, plus_each}
pub use Rattle.hit.specs.Words.{failed_ports}
pub use Rattle.device.specs.declared.Flight.{Flight}
pub use Rattle.device.specs.declared.Temperature.{Temperature}
pub use Rattle.device.specs.declared.Model.{Model}
pub use Rattle.frame.specs.Frame.{is_command, is_write, is_read, is_flash, flash_further, not_whole, past_end, word_at}
pub use Rattle.calendar.specs.Calendar.{clock_valid, start, month_length, with_time, tick_clock}
pub use Rattle.calendar.specs.Moment.{moment, century, midnights}
pub use Rattle.calendar.specs.Words.{clock_from, twelve_in, alarm_valid, word30, word31, word32, word33, ticks_in, words_valid}
pub use Rattle.hit.specs.Mean.{All, sum, difference_bits, mean_averages, floor_mean_words, Averages, difference, total, floor_mean}
pub use Rattle.device.specs.declared.Reply.{Reply}
pub use Rattle.device.specs.declared.Answer.{Answer}
pub use Rattle.unit.specs.declared.Quanta.{Quanta}
pub use Rattle.device.specs.declared.Status.{Status}
pub use Rattle.unit.specs.declared.Ticks.{Ticks}
pub use Rattle.device.specs.declared.Schedule.{Schedule}
pub use Rattle.calendar.specs.Valid.{CalendarValid, AlarmValid, AlarmTime}
pub use Rattle.flash.specs.Flash.{flash_word, flash_written, flash_erased, first_word, address_refused, erase_refused, not_erased}
pub use Rattle.flash.specs.Operation.{Operation, write, erase, last_word}
pub use Rattle.calendar.specs.declared.Clock.{Clock}
pub use Rattle.frame.specs.declared.Decoded.{Decoded}
pub use Rattle.frame.specs.declared.Decoded.TheVariants.{Command, Read, Write, Flash, Refused}
pub use Rattle.device.specs.declared.Answer.TheVariants.{Accepted, Ticked, Stretched, Good, Failed}
pub use Rattle.std.specs.Prelude.{Result, Ok, Err}
pub use Rattle.refusal.specs.declared.Refusal.{Refusal}
pub use Rattle.refusal.specs.Number.{number, number_told, value_told}
pub use Rattle.hit.specs.Difference.{difference_mean, port_mean, difference_word, biased}
pub use Rattle.hit.specs.Limit.{late_from, open_from, any_from, any_fault}
pub use Rattle.std.specs.Int.{w32}
pub use Rattle.std.proofs.Common.{to_z}
pub use Rattle.device.specs.declared.StretchReport.{StretchReport}
pub use Rattle.device.specs.declared.Progress.{Progress}
pub use Rattle.calendar.specs.Alarm.{alarm_rings}
pub use Rattle.device.specs.declared.Report.{Report}
