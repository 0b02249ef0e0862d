-- What holds of every sound model, and that the calls make no other.
use Prim.Native.Nat.{ℕ, ◌+◌, ◌≤◌, ◌<◌}
use native.Mathlib.Omega.{arith}
use mathlib.Core.Bool.{true, false}
use mathlib.Core.List.{List, [], ◌∷◌, map}
use mathlib.Core.Logic.{◌⊎◌, inl, inr, ⊎_elim}
use mathlib.Core.Path.{◌≡◌, refl, sym, ap, subst}
use lib.Dec.{eqb}
use Rattle.unit.specs.Choice.{negate}
use Rattle.unit.proofs.Cases.{by-test}
use Rattle.calendar.specs.Valid.{AlarmValid}
use Rattle.calendar.proofs.Validity.{alarm-means}
use Rattle.setup.specs.Setup.{word_of, alarm_word}
use Rattle.frame.specs.Frame.{is_command}
use Rattle.hit.specs.Mean.{All}
use Rattle.device.specs.declared.Model.{Model}
use Rattle.device.specs.declared.Answer.TheVariants.{Ticked}
use Rattle.device.specs.Event.{no_schedule, is_awaited, in_event}
use Rattle.device.specs.Status.{no_bits}
use Rattle.device.specs.Model.{is_sound, kind_busy, is_busy, fresh_with, fresh_model, reset_model, no_flight, no_temperature}
use Rattle.device.specs.Tick.{report_of}
use Rattle.device.specs.Stretch.{model_ticked, stretch_report}
use Rattle.device.specs.Bus.{must_be_idle, starts_flight, starts_temperature, is_event, command_busy, before_initialize}
use Rattle.device.specs.Bus.{flight_side_unset, temperature_side_unset, event_side_unset, command_unset, run_model}
use Rattle.device.specs.Call.{Call, Row, tick, stretch, no_frame, not_carried, wrong_length, past_registers, short_output, while_busy}
use Rattle.device.specs.Call.{supply_off, unreachable, unerased, bad_calendar, not_initialised, bad_setup, not_awaited, miscounted, too_long}
use Rattle.device.specs.Call.{table, first_of, accepted, refused, verdict}
use Rattle.device.specs.Reply.{accepted_answer, accepted_model, flag, values_in, reply, reply_by}
use Rattle.device.specs.History.{differences, temperatures, after}
use Rattle.demands.specs.Claim.{command, NotBusy}
use Rattle.device.proofs.Table.{FirstRow, refused-means}
use Rattle.device.proofs.Sound.{bounds_of, sound-of, fresh-bounds, ticked-bounds, fresh-sound, keeps-sound}
use Rattle.device.proofs.Awaited.{halt-idle}
use Rattle.demands.proofs.CommandMeaning.{run-others}
use Rattle.demands.proofs.StartMeaning.{halt-ticks}
use Rattle.device.proofs.Stretch.{start-named, failure-named}
use Rattle.device.proofs.Replies.{reply-tick}
use Rattle.demands.proofs.CallSteps.{tick-accepted}
use Rattle.demands.proofs.ThirdDemand.{sound-after, write-idle}
use Rattle.refusal.specs.declared.Refusal.{Refusal}
use Rattle.refusal.specs.Number.{number}

-- "a fresh model is sound and every call keeps it so": so is every model that only the calls made,
pub made-sound : (cs : List Call) → is_sound (after fresh_model cs) ≡ true
made-sound cs = sound-after cs fresh_model fresh-sound

-- and number 0 is never given for a call on it
other-number : (rs : List Row) → All (λ (r : Row). (¬ (number r.refusal ≡ 0)) ⊎ (r.holds ≡ false)) rs → ¬ (FirstRow rs Refusal.NotSound)
other-number [] a f = f
other-number (r ∷ rs) a f =
    ⊎_elim
    (λ h. ⊎_elim (λ n. n (ap number h.1)) (λ e. let z : ◌≡◌ {A = ℕ} 0 1 = cc in omega arith) a.0)
    (λ g. other-number rs a.1 g.1)
    f

sound-numbers : (m : Model) (c : Call) → is_sound m ≡ true → ¬ (FirstRow (table m c) Refusal.NotSound)
unfolding table
sound-numbers m c s =
    other-number (table m c) (
      inr (ap negate s),
      (
        inl (λ e. omega arith),
        (
          inl (λ e. omega arith),
          (
            inl (λ e. omega arith),
            (
              inl (λ e. omega arith),
              (
                inl (λ e. omega arith),
                (
                  inl (λ e. omega arith),
                  (
                    inl (λ e. omega arith),
                    (
                      inl (λ e. omega arith),
                      (
                        inl (λ e. omega arith),
                        (
                          inl (λ e. omega arith),
                          (
                            inl (λ e. omega arith),
                            (
                              inl (λ e. omega arith),
                              (
                                inl (λ e. omega arith),
                                (inl (λ e. omega arith), (inl (λ e. omega arith), tt)),
                              ),
                            ),
                          ),
                        ),
                      ),
                    ),
                  ),
                ),
              ),
            ),
          ),
        ),
      ),
    )

pub never-zero : (cs : List Call) (c : Call) → ¬ (verdict (after fresh_model cs) c ≡ refused Refusal.NotSound)
unfolding verdict
never-zero cs c e =
    let m : Model = after fresh_model cs in
    sound-numbers m c (made-sound cs) ((refused-means (table m c) Refusal.NotSound).0 e)

-- the alarm of a sound model is valid, digit by digit
pub sound-alarm : (m : Model) → is_sound m ≡ true → AlarmValid (word_of m.setup 0x35)
sound-alarm m s = unfold alarm_word in (alarm-means (word_of m.setup 0x35)).0 (bounds_of m s).alarm

-- "a start or failure named in its answer as reported by that tick" (Note 1): each of the four values of tick j + 1's answer says
-- whether that value of the stretch's answer names this tick
pub named-exactly :
    (m : Model) (n j : ℕ) →
    is_sound m ≡ true →
    j < n →
    n ≤ 16384 →
    values_in (reply (model_ticked j m) tick).answer
    ≡ map (λ (t : ℕ). flag (eqb t (j + 1))) (values_in (accepted_answer m (stretch n)))
unfolding accepted_answer values_in stretch_report report_of
named-exactly m n j s l u =
    rw (
      reply-tick (model_ticked j m) (sound-of (model_ticked j m) (ticked-bounds j m (bounds_of m s))),
      start-named m s differences n j l u,
      failure-named m s differences n j l u,
      start-named m s temperatures n j l u,
      failure-named m s temperatures n j l u,
    )

-- "0Ah HALT drops awaited measurements, ends the event, .. also when idle": it is accepted, number 6 is not given for a write after it,
-- and no tick reports a start or a failure
halt-accepted : (m : Model) (o x : List ℕ) → is_sound m ≡ true → verdict m (command 10 o x) ≡ accepted
unfolding verdict first_of table no_frame not_carried wrong_length past_registers short_output while_busy supply_off unreachable unerased bad_calendar not_initialised bad_setup not_awaited miscounted too_long is_command command_busy must_be_idle before_initialize starts_flight starts_temperature command_unset event_side_unset flight_side_unset temperature_side_unset is_event
halt-accepted m o x s = by-test m.initialised (λ i. rw (s, i)) (λ i. rw (s, i))

halt-left : (m : Model) (o x : List ℕ) → is_sound m ≡ true → (reply m (command 10 o x)).model ≡ run_model m 10
unfolding reply reply_by accepted_model is_command
halt-left m o x s = rw (halt-accepted m o x s)

pub halt-ends :
    (m : Model) (o x : List ℕ) →
    is_sound m ≡ true →
    (verdict m (command 10 o x) ≡ accepted) ×
    NotBusy (reply m (command 10 o x)).model ×
    ((n : ℕ) →
    (reply (model_ticked n (reply m (command 10 o x)).model) tick).answer
    ≡ Ticked (record { started = false; failed = false }) (record { started = false; failed = false }))
unfolding reply reply_by
halt-ends m o x s = (
  halt-accepted m o x s,
  write-idle _ (keeps-sound m (command 10 o x) s) (rw (halt-left m o x s, (run-others m).2) (halt-idle m)),
  λ n.
      let h : Model = (reply m (command 10 o x)).model in
      let t = tick-accepted (model_ticked n h) (sound-of (model_ticked n h) (ticked-bounds n h (bounds_of h (keeps-sound m (command 10 o x) s)))) in
      rw t (rw (halt-left m o x s) (halt-ticks m n)),
)

pub halt-left-idle : (m : Model) → is_sound m ≡ true → NotBusy (run_model m 10)
halt-left-idle m s = subst NotBusy (halt-left m [] [] s) (halt-ends m [] [] s).1

reset-not-busy : is_busy reset_model ≡ false
unfolding is_busy kind_busy is_awaited in_event reset_model fresh_with no_flight no_temperature no_schedule
reset-not-busy = refl

pub reset-left-idle : (m : Model) → NotBusy (run_model m 4)
reset-left-idle m = subst NotBusy (sym (run-others m).0) (write-idle reset_model reset-sound reset-not-busy)
  where
    reset-sound : is_sound reset_model ≡ true
    reset-sound = unfold reset_model in sound-of (fresh_with no_bits) (fresh-bounds no_bits)
