-- The code's own: the replies of a sound model to the calls that are no transactions.
use Prim.Native.Nat.{ℕ, ◌-◌}
use mathlib.Core.Bool.{true}
use mathlib.Core.List.{List}
use mathlib.Core.Path.{◌≡◌}
use lib.ListN.{length}
use lib.Dec.{ltb, eqb}
use Rattle.unit.specs.Choice.{pick}
use Rattle.unit.proofs.Cases.{by-test}
use Rattle.setup.specs.Setup.{hit_count}
use Rattle.device.specs.declared.Model.{Model}
use Rattle.device.specs.declared.Answer.TheVariants.{Ticked, Stretched}
use Rattle.device.specs.Event.{is_awaited}
use Rattle.device.specs.Model.{is_sound}
use Rattle.device.specs.Tick.{tick_model, report_of}
use Rattle.device.specs.Delivery.{flight_miscounted}
use Rattle.device.specs.StretchSteps.{progress}
use Rattle.device.specs.Call.{tick, flight, temperature, stretch, verdict, table, first_of}
use Rattle.device.specs.Reply.{refuse, reply, reply_by}
use Rattle.device.specs.Parts.{flight_reply, temperature_reply}
use Rattle.device.specs.Call.{no_frame, not_carried, wrong_length, past_registers, short_output, while_busy, supply_off, unreachable, unerased, bad_calendar}
use Rattle.device.specs.Call.{not_initialised, bad_setup, not_awaited, miscounted, too_long}
use Rattle.device.specs.Reply.{accepted_answer, accepted_model}
use Rattle.refusal.specs.declared.Refusal.{Refusal}

-- The replies of a sound model to the calls that are no transactions.
module _ (m : Model) (s : is_sound m ≡ true) where
  pub reply-tick :
      reply m tick
      ≡ record {
        answer = Ticked (report_of m.flight.schedule) (report_of m.temperature.schedule);
        model = tick_model m;
      }
  unfolding reply reply_by verdict table first_of no_frame not_carried wrong_length past_registers short_output while_busy supply_off unreachable unerased bad_calendar not_initialised bad_setup not_awaited miscounted too_long accepted_answer accepted_model
  reply-tick = rw s

  pub reply-stretch :
      (n : ℕ) →
      reply m (stretch n)
      ≡ pick (ltb 16384 n) (refuse Refusal.Span m)
      (record {
        answer = Stretched (progress m n).flight (progress m n).temperature;
        model = (progress m n).model;
      })
  unfolding reply reply_by verdict table first_of no_frame not_carried wrong_length past_registers short_output while_busy supply_off unreachable unerased bad_calendar not_initialised bad_setup not_awaited miscounted too_long accepted_answer accepted_model progress
  reply-stretch n = by-test (ltb 16384 n) (λ e. rw (s, e)) (λ e. rw (s, e))

  pub reply-flight :
      (u d : List ℕ) →
      reply m (flight u d)
      ≡ pick (is_awaited m.flight.schedule)
      (pick (flight_miscounted m.flight (hit_count m.setup) (length u) (length d)) (refuse Refusal.WordCount m) (flight_reply m u d))
      (refuse Refusal.NotAwaited m)
  unfolding reply reply_by verdict table first_of no_frame not_carried wrong_length past_registers short_output while_busy supply_off unreachable unerased bad_calendar not_initialised bad_setup not_awaited miscounted too_long flight_reply
  reply-flight u d =
      by-test (is_awaited m.flight.schedule)
      (λ a. by-test (flight_miscounted m.flight (hit_count m.setup) (length u) (length d))
      (λ c. rw (s, a, c))
      (λ c. rw (s, a, c)))
      (λ a. rw (s, a))

  pub reply-temperature :
      (w : List ℕ) →
      reply m (temperature w)
      ≡ pick (is_awaited m.temperature.schedule)
      (pick (eqb (length w) 4) (temperature_reply m w) (refuse Refusal.WordCount m))
      (refuse Refusal.NotAwaited m)
  unfolding reply reply_by verdict table first_of no_frame not_carried wrong_length past_registers short_output while_busy supply_off unreachable unerased bad_calendar not_initialised bad_setup not_awaited miscounted too_long temperature_reply
  reply-temperature w =
      by-test (is_awaited m.temperature.schedule)
      (λ a. by-test (eqb (length w) 4) (λ c. rw (s, a, c)) (λ c. rw (s, a, c)))
      (λ a. rw (s, a))
