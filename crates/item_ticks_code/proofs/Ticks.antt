-- Single ticks, some of them and then others, and those in which nothing happens. Assumes nothing.
use Prim.Native.Nat.{ℕ, zero, suc, ◌+◌, ◌-◌, ◌≤◌, ◌<◌}
use mathlib.Core.Bool.{true, false}
use mathlib.Core.List.{[], append-nil, append_assoc}
use mathlib.Core.Path.{◌≡◌, refl, sym, ap, ◌∙◌}
use native.Mathlib.Nat.{zero-add, add-zero}
use native.Mathlib.Numerals.{add-one}
use native.Mathlib.Omega.{arith}
use Rattle.unit.specs.declared.Ticks.{Ticks}
use Rattle.device.specs.declared.Model.{Model}
use Rattle.device.specs.declared.Reply.{Reply}
use Rattle.device.specs.declared.Report.{Report}
use Rattle.device.specs.Model.{is_sound}
use Rattle.device.specs.Call.{Call}
use Rattle.device.specs.Reply.{reply}
use Rattle.device.specs.Tick.{tick_model, report_of}
use Rattle.device.specs.Stretch.{model_ticked}
use Rattle.device.specs.StretchSteps.{quiet_for}
use Rattle.device.proofs.Replies.{reply-tick}
use Rattle.device.proofs.Sound.{bounds_of, sound-of, ticked-bounds, keeps-sound}
use Rattle.ticking.proofs.Quiet.{next-flight, next-temperature}
use Rattle.text.specs.Text.{Text, text_where}
use Rattle.item_answer.specs.Words.{report, reports, reports_at}
use Rattle.item_answer.specs.Answer.{Run, reported_before, ticked}
use Rattle.item_words_code.specs.OwnReports.{reports_in}
use Rattle.item_ticks_code.specs.declared.Moved.{Moved}
use Rattle.item_ticks_code.specs.OwnMoved.{MovedOn}

-- Some ticks, and others after them.
pub ticked-then : (a b i : ℕ) (m : Model)
    → ticked (a + b) i m ≡ reported_before (ticked a i m).reports (ticked b (i + a) (ticked a i m).model)
unfolding ticked
ticked-then zero b i m = rw (zero-add b, add-zero i)
ticked-then (suc a) b i m =
    let r : Reply = reply m Call.tick in
    let more : suc a + b ≡ suc (a + b) = omega arith in
    let on : i + 1 + a ≡ i + suc a = omega arith in
    let here : Text = reports_at i r.answer in
    let some : Run = ticked a (i + 1) r.model in
    rw more
    (ap (reported_before here) (rw on at (ticked-then a b (i + 1) r.model))
    ∙ ap (λ (t : Text). record { model = (ticked b (i + suc a) some.model).model; reports = t })
    (sym (append_assoc here some.reports (ticked b (i + suc a) some.model).reports)))

-- They keep a model sound.
pub ticked-sound : (n i : ℕ) (m : Model) → is_sound m ≡ true → is_sound (ticked n i m).model ≡ true
unfolding ticked
ticked-sound zero i m sound = sound
ticked-sound (suc n) i m sound = ticked-sound n (i + 1) (reply m Call.tick).model (keeps-sound m Call.tick sound)

-- One tick.
ticked-one : (i : ℕ) (m : Model) → is_sound m ≡ true
    → ticked 1 i m
    ≡ record { model = tick_model m; reports = reports_in (report_of m.flight.schedule) (report_of m.temperature.schedule) i }
unfolding ticked reports_at
ticked-one i m sound = rw (reply-tick m sound, append-nil)

abbrev none : Report
none = record { started = false; failed = false }

none_told : (i : ℕ) → reports_in none none i ≡ []
unfolding reports report text_where
none_told i = refl

sound-later : (n : ℕ) (m : Model) → is_sound m ≡ true → is_sound (model_ticked n m) ≡ true
sound-later n m sound = sound-of (model_ticked n m) (ticked-bounds n m (bounds_of m sound))

-- A tick in which nothing happens, some of them, and others after them.
abbrev quietly : Model → Run
quietly m = record { model = m; reports = [] }

one-quietly : (i : ℕ) (m : Model) → is_sound m ≡ true → report_of m.flight.schedule ≡ none → report_of m.temperature.schedule ≡ none
    → ticked 1 i m ≡ quietly (tick_model m)
one-quietly i m sound f t = ticked-one i m sound ∙ (ap (λ (r : Report). record { model = tick_model m; reports = reports_in r (report_of m.temperature.schedule) i }) f
    ∙ (ap (λ (r : Report). record { model = tick_model m; reports = reports_in none r i }) t ∙ ap (λ (x : Text). record { model = tick_model m; reports = x }) (none_told i)))

then-quietly : (a b i : ℕ) (m k : Model) {l : Model} → ticked a i m ≡ quietly k → ticked b (i + a) k ≡ quietly l → ticked (a + b) i m ≡ quietly l
then-quietly a b i m k e f = ticked-then a b i m ∙ rw (e, f)

ticked-quietly : (n i : ℕ) (m : Model) → is_sound m ≡ true → n ≤ quiet_for m → ticked n i m ≡ quietly (model_ticked n m)
unfolding model_ticked
ticked-quietly zero i m sound few = unfold ticked in refl
ticked-quietly (suc n) i m sound few =
    let last : ticked 1 (i + n) (model_ticked n m) ≡ quietly (tick_model (model_ticked n m))
    = one-quietly (i + n) (model_ticked n m) (sound-later n m sound) (next-flight m n (omega arith)) (next-temperature m n (omega arith)) in
    ap (λ (k : ℕ). ticked k i m) (sym (add-one n)) ∙ then-quietly n 1 i m (model_ticked n m) (ticked-quietly n i m sound (omega arith)) last

module _ (m : Model) (sound : is_sound m ≡ true) (most : ℕ) where
  pub moved-quietly : (n : Ticks) → 0 < n.0 → n.0 ≤ quiet_for m → n.0 ≤ most → {k : Model} → k ≡ model_ticked n.0 m
      → MovedOn m most (record { model = k; ran = n; flight = none; temperature = none })
  moved-quietly n some quiet few {k} e = record {
    some = some;
    few = few;
    run = λ i. rw (e, none_told (i + n.0 - 1)) (ticked-quietly n.0 i m sound quiet);
  }

  pub moved-by-one : 0 < most → {k : Model} {f t : Report} → k ≡ tick_model m → f ≡ report_of m.flight.schedule
      → t ≡ report_of m.temperature.schedule
      → MovedOn m most (record { model = k; ran = record { 0 = 1 }; flight = f; temperature = t })
  moved-by-one some {k} {f} {t} e a b = record {
    some = omega arith;
    few = omega arith;
    run = λ i. let same : i + 1 - 1 ≡ i = omega arith in rw (e, a, b, same) (ticked-one i m sound);
  }

pub moved-sound : {m : Model} {most : ℕ} {r : Moved} → is_sound m ≡ true → MovedOn m most r → is_sound r.model ≡ true
moved-sound {m} {most} {r} sound o = rw (o.run 0) at (ticked-sound r.ran.0 0 m sound)
