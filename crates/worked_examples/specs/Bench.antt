-- The bench table: the eleven marked examples, each with what the definitions give and what the paper says. Those of measurements
-- and events are calls on a model that grew from a fresh one, and their answers.
use Rattle.std.specs.Prelude.{ℕ, zero, suc, ◌+◌, ◌*◌, false, List, [], ◌∷◌, ◌++◌, get_or, set, eqb}
use Rattle.unit.specs.Choice.{pick}
use Rattle.calendar.specs.declared.Clock.{Clock}
use Rattle.calendar.specs.Calendar.{tick_clock}
use Rattle.calendar.specs.Words.{hundredths_of, words_valid}
use Rattle.setup.specs.Setup.{factory, hit_count}
use Rattle.hit.specs.Limit.{late_from, open_from, any_from, any_fault}
use Rattle.device.specs.declared.Model.{Model}
use Rattle.device.specs.Event.{ticks}
use Rattle.device.specs.Model.{fresh_model}
use Rattle.device.specs.Registers.{register_word}
use Rattle.device.specs.Call.{Call, transaction, tick, flight, stretch}
use Rattle.device.specs.Reply.{reply, values_in, flag}
use Rattle.device.specs.Question.{awaited_told}
use Rattle.device.specs.History.{after}
use Rattle.refusal.specs.Number.{number, value_told}

pub record Example : Type 0 where
  pub number : ℕ
  pub given : List ℕ
  pub wanted : List ℕ

-- A fresh model with PL and DPL 1 (38h), TDF 0 and TDM 1 (3Fh), initialised, and then further calls.
abbrev pub grown : List Call → Model
grown calls =
    after fresh_model
    (transaction (0x38 ∷ 0x01 ∷ 0x10 ∷ []) [] [] ∷
    transaction (0x3F ∷ 0x00 ∷ 0x80 ∷ []) [] [] ∷
    transaction (0x05 ∷ []) [] [] ∷
    calls)

abbrev pub TOF-Diff : Call
TOF-Diff = transaction (0x02 ∷ []) [] []

abbrev pub EVTMG2 : Call
EVTMG2 = transaction (0x08 ∷ []) [] []

-- a delivery of one word up and one down
abbrev pub delivery : ℕ → ℕ → Call
delivery up down = flight (up ∷ []) (down ∷ [])

-- the values of a call's answer
abbrev pub answered : Model → Call → List ℕ
answered m c = values_in (reply m c).answer

-- whether a flight measurement is awaited; then what each call answers, and whether one is awaited after it
unfoldable pub followed : Model → List Call → List ℕ
followed m [] = value_told (awaited_told m m.flight.schedule)
followed m (c ∷ cs) = value_told (awaited_told m m.flight.schedule) ++ answered m c ++ followed (reply m c).model cs

-- the words of a register pair
abbrev pub pair : Model → ℕ → List ℕ
pair m int = register_word m int ∷ register_word m (int + 1) ∷ []

-- the date, the time and s
abbrev date_and_time : Clock → List ℕ
date_and_time c = c.year ∷ c.month ∷ c.date ∷ c.hour ∷ c.minute ∷ c.second ∷ c.ticks.0 ∷ []

-- February 29 of a year, whose two digits are the low byte of 33h
abbrev leap_day : ℕ → ℕ
leap_day year = flag (words_valid 0 0 0x0129 (0x0200 + year) (ticks 0))

-- n stretches of 8 ticks, t ticks gone before: the elapsed ticks at which their answers name a start of a flight measurement
unfoldable pub starts_named : ℕ → ℕ → Model → List ℕ
starts_named zero t m = []
starts_named (suc n) t m =
    let named : ℕ = get_or (answered m (stretch 8)) 0 0 in
    pick (eqb named 0) [] ((t + named) ∷ []) ++ starts_named n (t + 8) (reply m (stretch 8)).model

unfoldable pub bench : List Example
bench =
    -- "Difference −125,902 quanta reads FFFEh 1432h"
    record {
      number = 1;
      given = pair (grown (TOF-Diff ∷ delivery 1000000 1125902 ∷ [])) 0xE2;
      wanted = 0xFFFE ∷ 0x1432 ∷ [];
    } ∷
    -- "1,836,035 reads 001Ch 0403h."
    record {
      number = 2;
      given = pair (grown (TOF-Diff ∷ delivery 2836035 1000000 ∷ [])) 0xE2;
      wanted = 0x001C ∷ 0x0403 ∷ [];
    } ∷
    -- "k = 0: word 33,554,431 good, 33,554,432 late. k = 6 and 7: 2,147,483,647 good."
    record {
      number = 3;
      given =
          flag (any_from (late_from 0) (33554431 ∷ [])) ∷
          flag (any_from (late_from 0) (33554432 ∷ [])) ∷
          flag (any_from (late_from 6) (2147483647 ∷ [])) ∷
          flag (any_from (late_from 7) (2147483647 ∷ [])) ∷
          [];
      wanted = 0 ∷ 1 ∷ 0 ∷ 0 ∷ [];
    } ∷
    -- "PORTCYC 0: 33,030,143 good, 33,030,144 open."; good is neither open nor short (Note 3)
    record {
      number = 4;
      given = flag (any_fault (open_from 0) (33030143 ∷ [])) ∷ flag (any_from (open_from 0) (33030144 ∷ [])) ∷ [];
      wanted = 0 ∷ 1 ∷ [];
    } ∷
    -- "STOP 101b, 110b, 111b: six hits."
    record {
      number = 5;
      given =
          hit_count (set factory 5 (0b101 * 8192)) ∷
          hit_count (set factory 5 (0b110 * 8192)) ∷
          hit_count (set factory 5 (0b111 * 8192)) ∷
          [];
      wanted = 6 ∷ 6 ∷ 6 ∷ [];
    } ∷
    -- "s = 32,440 reads 98 hundredths, 32,441 reads 99."
    record {
      number = 6;
      given = hundredths_of (ticks 32440) ∷ hundredths_of (ticks 32441) ∷ [];
      wanted = 98 ∷ 99 ∷ [];
    } ∷
    -- "2099-12-31 23:59:59, s 32,767, one tick: 2000-01-01 00:00:00, s 0."
    record {
      number = 7;
      given =
          date_and_time
          (tick_clock
          (record {
            year = 99;
            month = 12;
            date = 31;
            weekday = 4;
            hour = 23;
            minute = 59;
            second = 59;
            ticks = ticks 32767;
            twelve = false;
          }));
      wanted = 0 ∷ 1 ∷ 1 ∷ 0 ∷ 0 ∷ 0 ∷ 0 ∷ [];
    } ∷
    -- "February 29 valid in 2000 and 2096, invalid in 2099."
    record {
      number = 8;
      given = leap_day 0x00 ∷ leap_day 0x96 ∷ leap_day 0x99 ∷ [];
      wanted = 1 ∷ 1 ∷ 0 ∷ [];
    } ∷
    -- "TDF 0, TDM 1: starts at 0 and 16,384, none at 32,768.": the command's answer tells the first
    record {
      number = 9;
      given = answered (grown []) EVTMG2 ++ starts_named 4096 0 (grown (EVTMG2 ∷ []));
      wanted = 1 ∷ 0 ∷ 16384 ∷ [];
    } ∷
    -- "No delivery: awaited after 8,191 ticks, failed after 8,192.": whether one is awaited, before and after the last two of these ticks, and
    -- their answers
    record {
      number = 10;
      given = followed (grown (TOF-Diff ∷ stretch 8190 ∷ [])) (tick ∷ tick ∷ []);
      wanted = 1 ∷ 0 ∷ 0 ∷ 0 ∷ 0 ∷ 1 ∷ 0 ∷ 1 ∷ 0 ∷ 0 ∷ 0 ∷ [];
    } ∷
    -- "Good differences −1 and 0: average FFFFh FFFFh."
    record {
      number = 11;
      given = pair (grown (EVTMG2 ∷ delivery 4 5 ∷ stretch 16384 ∷ delivery 4 4 ∷ [])) 0xE5;
      wanted = 0xFFFF ∷ 0xFFFF ∷ [];
    } ∷
    []
