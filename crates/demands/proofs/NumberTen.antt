-- Number 10 is given for a delivery exactly where its kind is not awaited, whatever words it brings.
use Prim.Native.Nat.{ℕ}
use native.Mathlib.Omega.{arith}
use mathlib.Core.Bool.{true, false≢true}
use mathlib.Core.List.{[], ◌∷◌}
use mathlib.Core.Logic.{◌↔◌}
use mathlib.Core.Path.{◌≡◌, refl, ap, sym, ◌∙◌}
use lib.ListN.{length}
use lib.Dec.{eqb}
use Rattle.unit.specs.Choice.{pick, negate}
use Rattle.unit.proofs.Cases.{by-test}
use Rattle.setup.specs.Setup.{hit_count}
use Rattle.device.specs.declared.Model.{Model}
use Rattle.device.specs.Event.{is_awaited}
use Rattle.device.specs.Model.{is_sound}
use Rattle.device.specs.Delivery.{flight_miscounted}
use Rattle.device.specs.Call.{Call, transaction, tick, flight, temperature, stretch, no_frame, not_carried, wrong_length, past_registers, short_output}
use Rattle.device.specs.Call.{while_busy, supply_off, unreachable, unerased, bad_calendar, not_initialised, bad_setup, not_awaited, miscounted, too_long}
use Rattle.device.specs.Call.{table, first_of, accepted, refused, verdict}
use Rattle.device.specs.Reply.{number_in, reply}
use Rattle.device.specs.History.{Kind, differences, temperatures, by_kind}
use Rattle.demands.specs.EventHistory.{is_delivery}
use Rattle.demands.specs.Claim.{awaited_now}
use Rattle.device.proofs.Table.{number-refused, number-accepted}
use Rattle.device.proofs.Stretch.{schedule_of}
use Rattle.refusal.specs.declared.Refusal.{Refusal}

verdict-of :
    (k : Kind) (m : Model) (c : Call) →
    is_sound m ≡ true →
    is_delivery k c ≡ true →
    verdict m c ≡ pick (is_awaited (schedule_of k m)) (pick (miscounted m c) (refused Refusal.WordCount) accepted) (refused Refusal.NotAwaited)
unfolding is_delivery verdict table first_of no_frame not_carried wrong_length past_registers short_output while_busy supply_off unreachable unerased bad_calendar not_initialised bad_setup not_awaited miscounted too_long
verdict-of k m (transaction f o x) s e = cc
verdict-of k m tick s e = cc
verdict-of differences m (flight u d) s e =
    rw s
    (by-test (is_awaited m.flight.schedule)
    (λ a. by-test (flight_miscounted m.flight (hit_count m.setup) (length u) (length d)) (λ c. rw (a, c)) (λ c. rw (a, c)))
    (λ a. rw a))
verdict-of temperatures m (flight u d) s e = cc
verdict-of differences m (temperature w) s e = cc
verdict-of temperatures m (temperature w) s e =
    rw s
    (by-test (is_awaited m.temperature.schedule)
    (λ a. by-test (eqb (length w) 4) (λ c. rw (a, c)) (λ c. rw (a, c)))
    (λ a. rw a))
verdict-of k m (stretch n) s e = cc

number_of :
    (k : Kind) (m : Model) (c : Call) →
    is_sound m ≡ true →
    is_delivery k c ≡ true →
    number_in (reply m c).answer ≡ pick (is_awaited (schedule_of k m)) (pick (miscounted m c) (11 ∷ []) []) (10 ∷ [])
number_of k m c s d =
    let v = verdict-of k m c s d in
    by-test (is_awaited (schedule_of k m))
    (λ a. by-test (miscounted m c) (λ b. rw (a, b) (number-refused m c Refusal.WordCount (rw (a, b) at v)))
    (λ b. rw (a, b) (number-accepted m c (rw (a, b) at v))))
    (λ a. rw a (number-refused m c Refusal.NotAwaited (rw a at v)))

-- so of the delivery that the claim asks with,
pub now-means : (k : Kind) (m : Model) → is_sound m ≡ true → awaited_now k m ≡ pick (negate (is_awaited (schedule_of k m))) 0 1
unfolding awaited_now is_delivery
now-means k m s =
    let c : Call = by_kind k (flight [] []) (temperature []) in
    rw (number_of k m c s (asked k))
    (by-test (is_awaited (schedule_of k m))
    (λ a. rw a (by-test (miscounted m c) (λ b. rw b) (λ b. rw b)))
    (λ a. rw a))
  where
    asked : (k : Kind) → is_delivery k (by_kind k (flight [] []) (temperature [])) ≡ true
    asked differences = refl
    asked temperatures = refl

-- and of any other
pub number-ten :
    (k : Kind) (m : Model) (c : Call) →
    is_sound m ≡ true →
    is_delivery k c ≡ true →
    (number_in (reply m c).answer ≡ 10 ∷ []) ↔ (negate (is_awaited (schedule_of k m)) ≡ true)
number-ten k m c s d =
    rw (number_of k m c s d)
    (by-test (is_awaited (schedule_of k m))
    (λ a. rw a
    (by-test (miscounted m c)
    (λ b. rw b (λ e. let z : ◌≡◌ {A = ℕ} 10 11 = cc in absurd (omega arith), λ e. absurd (false≢true e)))
    (λ b. rw b (λ e. let z : ◌≡◌ {A = ℕ} 0 1 = cc in absurd (omega arith), λ e. absurd (false≢true e)))))
    (λ a. rw a (λ e. refl, λ z. refl)))

pub now-any :
    (k : Kind) (m : Model) →
    is_sound m ≡ true →
    (c : Call) →
    is_delivery k c ≡ true →
    (number_in (reply m c).answer ≡ 10 ∷ []) ↔ (awaited_now k m ≡ 0)
now-any k m s c d =
    let (f, g) = number-ten k m c s d in
    rw (now-means k m s)
    (by-test (is_awaited (schedule_of k m)) (λ a. rw a (λ e. absurd (false≢true (ap negate (sym a) ∙ f e)), λ e. absurd (omega arith)))
    (λ a. rw a (λ e. refl, λ e. g (ap negate a))))
