-- The first demand leaves one machine, and shuts out the worthless ones: each by a call on a fresh model or on one made from it.
use Prim.Native.Nat.{ℕ}
use native.Mathlib.Omega.{arith}
use mathlib.Core.Bool.{Bool, true}
use mathlib.Core.List.{List, [], ◌∷◌, map}
use mathlib.Core.Logic.{⊎_elim}
use mathlib.Core.Path.{◌≡◌, refl, ap, sym, ◌∙◌}
use lib.ListN.{get_or, length}
use Rattle.calendar.specs.Calendar.{leap, month_length, date_fits, time_fits, clock_valid, start, tick_clock}
use Rattle.calendar.specs.Words.{bcd, hundredths_of, word30, word31, word32, word33, hour_digits, minute_in, twelve_in, hour_named, hour_in, ticks_in, clock_from, time_digits, hour_fits, digits_fit, words_valid, alarm_valid}
use Rattle.setup.specs.Setup.{factory, alarm_word, hit_count, flight_unset, temperature_unset, clock_stands}
use Rattle.frame.specs.Frame.{is_command, is_write, is_read, is_flash, not_whole, past_end, word_at}
use Rattle.device.specs.declared.Model.{Model}
use Rattle.device.specs.Event.{no_schedule, schedule_sound, counts_sound, wait_sound, balance_sound, starts_left, is_awaited, in_event, start_single}
use Rattle.device.specs.Status.{por_bit, init_bit, no_bits, joined}
use Rattle.device.specs.Model.{fresh_model, fresh_with, no_flight, no_temperature, is_sound, sum_fits, flight_sound, temperature_sound, kind_busy, is_busy}
use Rattle.device.specs.Registers.{calendar_word, register_word, fill_words}
use Rattle.device.specs.Write.{covers, written, with_word, setup_after, ticks_after, clock_after, write_invalid, write_model}
use Rattle.device.specs.Tick.{clock_ticked, tick_model}
use Rattle.device.specs.Delivery.{same_count, flight_miscounted}
use Rattle.device.specs.Bus.{must_be_idle, starts_flight, starts_temperature, is_event, command_busy, before_initialize, flight_side_unset, temperature_side_unset, event_side_unset, command_unset}
use Rattle.device.specs.Bus.{flight_started, initialised_model, single_started, run_model}
use Rattle.device.specs.Call.{Call, transaction, tick, flight, verdict, table, first_of, accepted}
use Rattle.device.specs.Call.{no_frame, not_carried, wrong_length, past_registers, short_output, while_busy, supply_off, unreachable, unerased, bad_calendar, not_initialised, bad_setup, not_awaited, miscounted, too_long}
use Rattle.device.specs.Reply.{accepted_answer, accepted_model, accepted_output, reply, reply_by, number_in, output, output_by}
use Rattle.demands.specs.FirstDemand.{Machine, FirstDemand}
use Rattle.refusal.specs.Number.{number}
use Rattle.refusal.specs.declared.Refusal.{Refusal}
use Rattle.demands.specs.Worthless.{giving, frames, commands, writes, deliveries, still, zeroed, Same, WorthlessClaim}
use Rattle.device.proofs.Table.{number-accepted}
use Rattle.demands.proofs.FirstDemand.{first-demand}

-- Two machines that meet the demand do the same with every call: the table decides for both, and so do the definitions.
one : (M : Machine) → FirstDemand M → (m : Model) (c : Call) → Same M m c
one M d m c =
    let a = d m c in
    let b = first-demand m c in
    ⊎_elim
    (λ n.
    let p = a.left n in
    let q = b.left n in
    record {
      number = a.none.1 n ∙ sym (b.none.1 n);
      values = p.values ∙ sym q.values;
      model = p.model ∙ sym q.model;
      output = p.output ∙ sym q.output;
      memory = p.memory ∙ sym q.memory;
    })
    (λ (k, f).
    let p = a.kept k f in
    let q = b.kept k f in
    record {
      number = (a.given k).1 f ∙ sym ((b.given k).1 f);
      values = p.values ∙ sym q.values;
      model = p.model ∙ sym q.model;
      output = p.output ∙ sym q.output;
      memory = p.memory ∙ sym q.memory;
    })
    a.decided

-- A number for a call that the definitions accept
giving-fails :
    (r : Refusal) (test : Call → Bool) (m : Model) (c : Call) →
    test c ≡ true →
    verdict m c ≡ accepted →
    ¬ FirstDemand (giving r test)
unfolding number_in
giving-fails r test m c t v d =
    let e : number r ∷ [] ≡ [] = (rw t at (one (giving r test) d m c).number) ∙ number-accepted m c v in
    let z : ◌≡◌ {A = ℕ} 1 0 = ap length e in
    omega arith

-- Initialize and a write of 38h are accepted on a fresh model,
initialises : verdict fresh_model (transaction (0x05 ∷ []) [] []) ≡ accepted
unfolding verdict table first_of no_frame not_carried wrong_length past_registers short_output while_busy supply_off unreachable unerased bad_calendar not_initialised bad_setup not_awaited miscounted too_long command_busy before_initialize command_unset flight_side_unset temperature_side_unset event_side_unset must_be_idle starts_flight starts_temperature is_event is_command is_write is_flash is_read fresh_model fresh_with no_flight no_temperature no_schedule is_sound sum_fits flight_sound temperature_sound schedule_sound counts_sound wait_sound balance_sound starts_left kind_busy is_busy is_awaited in_event start factory clock_valid date_fits time_fits leap month_length alarm_word alarm_valid time_digits minute_in twelve_in hour_named hour_fits
initialises = refl

writes-38 : verdict fresh_model (transaction (0x38 ∷ 0x10 ∷ 0x10 ∷ []) [] []) ≡ accepted
unfolding verdict table first_of no_frame not_carried wrong_length past_registers short_output while_busy supply_off unreachable unerased bad_calendar not_initialised bad_setup not_awaited miscounted too_long command_busy before_initialize command_unset flight_side_unset temperature_side_unset event_side_unset must_be_idle starts_flight starts_temperature is_event is_command is_write is_flash is_read fresh_model fresh_with no_flight no_temperature no_schedule is_sound sum_fits flight_sound temperature_sound schedule_sound counts_sound wait_sound balance_sound starts_left kind_busy is_busy is_awaited in_event start factory clock_valid date_fits time_fits leap month_length alarm_word alarm_valid time_digits minute_in twelve_in hour_named hour_fits not_whole past_end write_invalid covers written with_word setup_after ticks_after word_at words_valid digits_fit clock_from hour_in ticks_in word30 word31 word32 word33 bcd hour_digits hundredths_of calendar_word
writes-38 = refl

-- and after both and TOF_Up one hit word is
abbrev doing : List ℕ → Model → Model
doing f m = (reply m (transaction f [] [])).model

delivers :
    verdict (doing (0x00 ∷ []) (doing (0x05 ∷ []) (doing (0x38 ∷ 0x10 ∷ 0x10 ∷ []) fresh_model))) (flight (1000 ∷ []) []) ≡ accepted
unfolding verdict table first_of no_frame not_carried wrong_length past_registers short_output while_busy supply_off unreachable unerased bad_calendar not_initialised bad_setup not_awaited miscounted too_long command_busy before_initialize command_unset flight_side_unset temperature_side_unset event_side_unset must_be_idle starts_flight starts_temperature is_event is_command is_write is_flash is_read fresh_model fresh_with no_flight no_temperature no_schedule is_sound sum_fits flight_sound temperature_sound schedule_sound counts_sound wait_sound balance_sound starts_left kind_busy is_busy is_awaited in_event start factory clock_valid date_fits time_fits leap month_length alarm_word alarm_valid time_digits minute_in twelve_in hour_named hour_fits not_whole past_end write_invalid covers written with_word setup_after ticks_after word_at words_valid digits_fit clock_from hour_in ticks_in word30 word31 word32 word33 bcd hour_digits hundredths_of calendar_word reply reply_by accepted_model accepted_answer run_model initialised_model single_started flight_started start_single joined init_bit por_bit no_bits write_model clock_after flight_unset temperature_unset clock_stands hit_count flight_miscounted same_count
delivers = refl

-- a tick moves the clock, and 38h reads 0010h
moves : (reply fresh_model tick).model.clock.ticks.0 ≡ 1
unfolding verdict table first_of no_frame not_carried wrong_length past_registers short_output while_busy supply_off unreachable unerased bad_calendar not_initialised bad_setup not_awaited miscounted too_long command_busy before_initialize command_unset flight_side_unset temperature_side_unset event_side_unset must_be_idle starts_flight starts_temperature is_event is_command is_write is_flash is_read fresh_model fresh_with no_flight no_temperature no_schedule is_sound sum_fits flight_sound temperature_sound schedule_sound counts_sound wait_sound balance_sound starts_left kind_busy is_busy is_awaited in_event start factory clock_valid date_fits time_fits leap month_length alarm_word alarm_valid time_digits minute_in twelve_in hour_named hour_fits reply reply_by accepted_model tick_model clock_ticked tick_clock clock_stands
moves = refl

reads : get_or (output fresh_model (transaction (0xB8 ∷ 0 ∷ 0 ∷ []) (0 ∷ 0 ∷ []) [])) 1 0 ≡ 0x10
unfolding verdict table first_of no_frame not_carried wrong_length past_registers short_output while_busy supply_off unreachable unerased bad_calendar not_initialised bad_setup not_awaited miscounted too_long command_busy before_initialize command_unset flight_side_unset temperature_side_unset event_side_unset must_be_idle starts_flight starts_temperature is_event is_command is_write is_flash is_read fresh_model fresh_with no_flight no_temperature no_schedule is_sound sum_fits flight_sound temperature_sound schedule_sound counts_sound wait_sound balance_sound starts_left kind_busy is_busy is_awaited in_event start factory clock_valid date_fits time_fits leap month_length alarm_word alarm_valid time_digits minute_in twelve_in hour_named hour_fits not_whole past_end output output_by accepted_output fill_words register_word
reads = refl

abbrev zeros : List ℕ → List ℕ
zeros l = map (λ (b : ℕ). 0) l

zero-there : (l : List ℕ) → get_or (zeros l) 1 0 ≡ 0
zero-there [] = refl
zero-there (a ∷ []) = refl
zero-there (a ∷ b ∷ l) = refl

still-fails : ¬ FirstDemand still
unfolding fresh_model fresh_with start
still-fails d =
    let e = ap (λ (m : Model). m.clock.ticks.0) (one still d fresh_model tick).model ∙ moves in
    omega arith

zeroed-fails : ¬ FirstDemand zeroed
unfolding is_read
zeroed-fails d =
    let c : Call = transaction (0xB8 ∷ 0 ∷ 0 ∷ []) (0 ∷ 0 ∷ []) [] in
    let e = sym (zero-there (output fresh_model c)) ∙ ap (λ (l : List ℕ). get_or l 1 0) (one zeroed d fresh_model c).output ∙ reads in
    omega arith

pub worthless : WorthlessClaim
unfolding is_command is_write
worthless =
    record {
      one = one;
      two = giving-fails Refusal.Opcode frames fresh_model _ refl initialises;
      eight = giving-fails Refusal.NotInitialised commands fresh_model _ refl initialises;
      nine = giving-fails Refusal.SetUp commands fresh_model _ refl initialises;
      seven = giving-fails Refusal.Calendar writes fresh_model _ refl writes-38;
      ten = giving-fails Refusal.NotAwaited deliveries _ _ refl delivers;
      still = still-fails;
      zeroed = zeroed-fails;
    }
