-- When a tick rings the alarm, mode by mode: the clock's numbers before and after it, and the bits of 35h.
use Prim.Native.Nat.{ℕ}
use mathlib.Core.Bool.{true, false}
use mathlib.Core.Logic.{◌↔◌}
use mathlib.Core.Path.{◌≡◌, refl, sym, ◌∙◌}
use borrow.Author.Tests.{eq-eqb}
use Rattle.calendar.specs.declared.Clock.{Clock}
use Rattle.calendar.specs.Words.{minute_in, hour_in}
use Rattle.calendar.specs.Alarm.{reaches, alarm_rings}
use Rattle.calendar.specs.Valid.{AlarmTime}
use Rattle.unit.proofs.Cases.{by_eqb}
use Rattle.calendar.proofs.Facts.{minutes-ring, hours-ring, both-ring}
use Rattle.calendar.proofs.Hours.{by_form, half-form, full-form}

-- Every word means one.
pub alarm-time : (w : ℕ) → AlarmTime w (minute_in w) (hour_in w)
unfolding minute_in
alarm-time w =
    record { minutes = refl; half-day = λ e. (half-form w e).2; full-day = λ e. (full-form w e).2 }

same-minute : {w minute hour : ℕ} → AlarmTime w minute hour → minute_in w ≡ minute
unfolding minute_in
same-minute t = sym t.minutes

same-hour : {w minute hour : ℕ} → AlarmTime w minute hour → hour_in w ≡ hour
same-hour {w} t =
    by_form w (λ e. (half-form w e).2 ∙ sym (t.half-day e)) (λ e. (full-form w e).2 ∙ sym (t.full-day e))

-- AM 00b is none of "01b .., 10b .., 11b": it never rings
pub mode-00 : (b a : Clock) (w : ℕ) → alarm_rings b a w 0 ≡ false
unfolding alarm_rings
mode-00 b a w = refl

module _ (b a : Clock) (w minute hour : ℕ) (t : AlarmTime w minute hour) where
  -- "01b sets AF in a tick where minutes change to the alarm's"
  pub mode-01 : alarm_rings b a w 1 ≡ true ↔ (¬ (b.minute ≡ a.minute)) × (a.minute ≡ minute)
  mode-01 = rw (same-minute t) at (minutes-ring b a w)

  -- "10b where hours change to the alarm's"
  pub mode-10 : alarm_rings b a w 2 ≡ true ↔ (¬ (b.hour ≡ a.hour)) × (a.hour ≡ hour)
  mode-10 = rw (same-hour t) at (hours-ring b a w)

  -- "11b where minutes change and both match"
  pub mode-11 :
      alarm_rings b a w 3 ≡ true
      ↔ (¬ (b.minute ≡ a.minute)) × (a.minute ≡ minute) × (a.hour ≡ hour)
  mode-11 =
      let (f, g) = rw (same-minute t, same-hour t) at (both-ring b a w) in
      (λ e. let (h, (n, m)) = f e in (n, m, h), λ (n, m, h). g (h, (n, m)))

-- "in a tick where": one that changes neither minutes nor hours rings in no mode
pub same-time :
    (b a : Clock) (w mode : ℕ) → b.minute ≡ a.minute → b.hour ≡ a.hour → alarm_rings b a w mode ≡ false
unfolding alarm_rings reaches
same-time b a w mode m h =
    rw (eq-eqb b.minute a.minute m, eq-eqb b.hour a.hour h)
    (by_eqb mode 1 (λ i e. rw e)
    (λ i e. by_eqb mode 2 (λ j f. rw (e, f))
    (λ j f. by_eqb mode 3
    (λ k g. rw (e, f, g) (by_eqb a.hour (hour_in w) (λ n t. rw t) (λ n t. rw t)))
    (λ k g. rw (e, f, g)))))
