-- The ticks of a line, turn by turn. Assumes nothing.
use Prim.Native.Nat.{ℕ, ◌+◌, ◌-◌, ◌≤◌, ◌<◌}
use Prim.Native.String.{String}
use mathlib.Core.Bool.{Bool, true, false}
use mathlib.Core.List.{List, ◌++◌}
use mathlib.Core.Path.{◌≡◌, refl, sym, ap, ◌∙◌}
use native.Mathlib.Nat.{zero-add, add-zero}
use native.Mathlib.Omega.{arith}
use lib.Dec.{ltb, leb}
use lib.ListN.{length, length-append}
use borrow.Author.Tests.{lt-ltb, le-leb, lt-leb, leb-true, leb-false}
use Rattle.unit.specs.Choice.{both}
use Rattle.unit.proofs.Cases.{by-ltb, by-leb}
use Rattle.unit.specs.declared.Ticks.{Ticks}
use Rattle.numeral.specs.Ascii.{ascii}
use Rattle.numeral.specs.Print.{decimal, decimal_width}
use Rattle.numeral.proofs.PrintLaws.{length-decimal, width-most}
use Rattle.device.specs.declared.Model.{Model}
use Rattle.device.specs.Model.{is_sound}
use Rattle.text.specs.Text.{Text, text_where}
use Rattle.text.specs.OwnPut.{Puts}
use Rattle.text.proofs.Putting.{puts_none, puts_then}
use Rattle.item_answer.specs.Words.{report, reports}
use Rattle.item_answer.specs.Answer.{Run, ticked}
use Rattle.item_words_code.specs.OwnReports.{reports_in}
use Rattle.item_ticks_code.specs.declared.Moved.{Moved}
use Rattle.item_ticks_code.specs.declared.RanTicks.{RanTicks}
use Rattle.item_ticks_code.specs.OwnMoved.{MovedOn}
use Rattle.item_ticks_code.specs.OwnRan.{Going, Ran, Turned}
use Rattle.item_ticks_code.proofs.Ticks.{ticked-then, ticked-sound}

-- ---- how long reports are

decimal-short : (i : ℕ) → i < 9223372036854775808 → length (decimal i) ≤ 19
unfolding decimal_width
decimal-short i few = rw (length-decimal i) (width-most 19 18 i (omega arith))

report-short : (happened : Bool) (what : String) (i : ℕ) → i < 9223372036854775808 → length (ascii what) ≤ 19 → length (report happened what i) ≤ 40
unfolding report text_where
report-short true what i few name =
    let blank : length (ascii " ") ≡ 1 = unfold ascii in refl in
    let mark : length (ascii "@") ≡ 1 = unfold ascii in refl in
    rw (length-append, length-append, length-append) (omega (arith, decimal-short i few))
report-short false what i few name = omega arith

-- The reports of one tick.
reports-short : (a b c d : Bool) (i : ℕ) → i < 9223372036854775808 → length (reports a b c d i) ≤ 256
unfolding reports
reports-short a b c d i few =
    rw (length-append, length-append, length-append)
    (omega (
      arith,
      report-short a "failed-flight" i few (unfold ascii in omega arith),
      report-short b "started-flight" i few (unfold ascii in omega arith),
      report-short c "failed-temperature" i few (unfold ascii in omega arith),
      report-short d "started-temperature" i few (unfold ascii in omega arith),
    ))

-- ---- room for them

pub no_room : (at stop : ℕ) → stop < 256 → false ≡ leb (at + 256) stop
no_room at stop h = sym (lt-leb (at + 256) stop (omega arith))

pub some-room : (at stop : ℕ) → 256 ≤ stop → leb at (stop - 256) ≡ leb (at + 256) stop
some-room at stop h =
    by-leb at (stop - 256) (λ l e. e ∙ sym (le-leb (at + 256) stop (omega arith))) (λ l e. e ∙ sym (lt-leb (at + 256) stop (omega arith)))

-- ---- the first turn, and one more

module _ (m : Model) (left first : ℕ) (l : List ℕ) (at stop : ℕ) where
  pub going-none : (n : Ticks) → n.0 ≡ left → is_sound m ≡ true
      → Going m left first l at stop (record { model = m; left = n; next = first; end = at }) l
  unfolding ticked
  going-none n e sound = record {
    ran = 0;
    count = zero-add n.0 ∙ e;
    next = sym (add-zero first);
    model = refl;
    sound = sound;
    reports = puts_none l at;
    room = λ h g. omega arith;
    stays = λ e. refl;
  }

  module _ {r s : RanTicks} {k l' : List ℕ} (g : Going m left first l at stop r k) (open-room : r.end + 256 ≤ stop) (t : Turned r k s l') where
    abbrev all : ℕ
    all = g.ran + t.ran

    -- What was reported before this turn, in it, and up to its end.
    abbrev early : Text
    early = (ticked g.ran first m).reports

    abbrev later : Text
    later = (ticked t.ran r.next r.model).reports

    whole : ticked all first m ≡ record { model = s.model; reports = early ++ later }
    whole =
        ticked-then g.ran t.ran first m
        ∙ (rw (← g.next, ← g.model) (ap (λ (x : Model). record { model = x; reports = early ++ later }) (sym t.model)))

    pub going_on : Going m left first l at stop s l'
    going_on = record {
      ran = all;
      count = omega (arith, g.count, t.count);
      next = t.next ∙ omega (arith, g.next);
      model = sym (ap (λ (x : Run). x.model) whole);
      sound = rw t.model (ticked-sound t.ran r.next r.model g.sound);
      reports = rw whole (puts_then g.reports t.reports);
      room = λ h b.
          let fits = g.room h b in
          let there = g.reports.next (omega arith) in
          rw (whole, length-append) (omega (arith, t.short));
      stays = λ e. absurd (omega (arith, t.some));
    }

-- ---- one turn

pub turned : {r : RanTicks} {v : Moved} → MovedOn r.model r.left.0 v → r.next + r.left.0 < 9223372036854775808
    → {n : Ticks} → n.0 ≡ r.left.0 - v.ran.0 → {next : ℕ} → next ≡ r.next + v.ran.0 → {l l' : List ℕ} {end : ℕ}
    → Puts l r.end (reports_in v.flight v.temperature (next - 1)) end l'
    → Turned r l (record { model = v.model; left = n; next = next; end = end }) l'
turned {r} {v} o few {n} fewer {next} e put =
    let run = o.run r.next in
    let text : (ticked v.ran.0 r.next r.model).reports ≡ reports_in v.flight v.temperature (next - 1) = ap (λ (x : Run). x.reports) run ∙ rw e in
    let short : next - 1 < 9223372036854775808 = omega (arith, o.few, o.some) in
    record {
      ran = v.ran.0;
      some = o.some;
      count = omega (arith, o.few);
      next = e;
      model = sym (ap (λ (x : Run). x.model) run);
      reports = rw text put;
      short = rw text (reports-short v.flight.failed v.flight.started v.temperature.failed v.temperature.started (next - 1) short);
    }

-- ---- whether there is another

pub another : (left end stop : ℕ) → both (ltb 0 left) (leb (end + 256) stop) ≡ true → (0 < left) × (end + 256 ≤ stop)
another left end stop =
    by-ltb 0 left (λ l e. rw e (λ h. (l, leb-true _ _ h))) (λ l e. rw e (λ h. let z : ◌≡◌ {A = ℕ} 0 1 = cc in absurd (omega arith)))

no_other : (left end stop : ℕ) → both (ltb 0 left) (leb (end + 256) stop) ≡ false → 0 < left → stop < end + 256
no_other left end stop e some = leb-false _ _ (rw (lt-ltb 0 left some) at e)

pub ran_out : {m : Model} {left first : ℕ} {l : List ℕ} {at stop : ℕ} {r : RanTicks} {l' : List ℕ} → Going m left first l at stop r l'
    → both (ltb 0 r.left.0) (leb (r.end + 256) stop) ≡ false → Ran m left first l at stop r l'
ran_out {m} {left} {first} {l} {at} {stop} {r} g e =
    let over : 0 < r.left.0 → stop < r.end + 256 = no_other r.left.0 r.end stop e in
    record {
      going = g;
      over = over;
      some = λ n room. by-ltb 0 g.ran (λ h _. h) (λ h _. absurd (omega (arith, over (omega (arith, g.count)), g.stays (omega arith))));
    }
