-- The ticks that a stretch names, found one after the other. Assumes nothing.
use Prim.Native.Nat.{ℕ, zero, suc, ◌+◌, ◌≤◌, ◌<◌}
use mathlib.Core.Bool.{false}
use mathlib.Core.List.{List, [], ◌++◌, append-nil}
use mathlib.Core.Path.{◌≡◌, refl}
use native.Mathlib.Nat.{zero-add}
use native.Mathlib.Omega.{arith}
use lib.Dec.{eqb}
use borrow.Author.Tests.{ne_eqb}
use Rattle.std.specs.Prelude.{Option, None, Some}
use Rattle.unit.proofs.Cases.{by-leb, by_eqb}
use Rattle.device.specs.declared.Report.{Report}
use Rattle.device.specs.declared.StretchReport.{StretchReport}
use Rattle.device.specs.declared.Answer.TheVariants.{Stretched}
use Rattle.text.specs.Text.{text_where}
use Rattle.text.specs.OwnPut.{Puts}
use Rattle.text.proofs.Putting.{puts_then}
use Rattle.item_answer.specs.Words.{report, reports, reports_at, reports_to}
use Rattle.item_words_code.specs.OwnReports.{reports_in, reports_after, sooner, next_named}

-- A tick, where there is one, lies after tick k.
abbrev pub Beyond : ℕ → Option ℕ → Type 0
Beyond k None = 0 ≤ k
Beyond k (Some n) = k < n

beyond-less : (k : ℕ) (o : Option ℕ) → Beyond (suc k) o → Beyond k o
beyond-less k None h = omega arith
beyond-less k (Some n) h = omega arith

-- What is sought lies after the ticks that have passed.
later-one : (named passed : ℕ) (best : Option ℕ) → Beyond passed best → Beyond passed (sooner named passed best)
unfolding sooner
later-one named passed None h = by-leb named passed (λ a e. rw e h) (λ a e. rw e a)
later-one named passed (Some other) h = by-leb named passed (λ a e. rw e h) (λ a e. rw e (omega arith))

-- Nothing is named between.
quiet_one : (named passed : ℕ) (best : Option ℕ) (i : ℕ) → passed < i → Beyond i (sooner named passed best)
    → Beyond i best × (eqb named i ≡ false)
unfolding sooner
quiet_one named passed None i after =
    by-leb named passed (λ a e. rw e (λ before. (omega arith, ne_eqb named i (λ q. omega arith))))
    (λ a e. rw e (λ before. (omega arith, ne_eqb named i (λ q. omega arith))))
quiet_one named passed (Some other) i after =
    by-leb named passed (λ a e. rw e (λ before. (before, ne_eqb named i (λ q. omega arith))))
    (λ a e. rw e (λ before. (omega arith, ne_eqb named i (λ q. omega arith))))

-- Where nothing happened, nothing is reported.
no-reports : (i : ℕ) → reports false false false false i ≡ []
unfolding reports report text_where
no-reports i = refl

-- After no ticks these are the reports of the answer.
pub after_none : (n : ℕ) (f t : StretchReport) → reports_after 0 n f t ≡ reports_to n (Stretched f t)
unfolding reports_after reports_to reports_at
after_none zero f t = refl
after_none (suc n) f t = rw (after_none n f t, zero-add)

module _ (f t : StretchReport) where
  beyond : (passed : ℕ) → Beyond passed (next_named f t passed)
  unfolding next_named
  beyond passed =
      later-one t.started.0 passed _
      (later-one t.failed.0 passed _ (later-one f.started.0 passed _ (later-one f.failed.0 passed None (omega arith))))

  pub later : (passed next : ℕ) → Some next ≡ next_named f t passed → passed < next
  later passed next e = rw (← e) at (beyond passed)

  quiet : (passed i done : ℕ) → passed < i → Beyond i (next_named f t passed)
      → reports (eqb f.failed.0 i) (eqb f.started.0 i) (eqb t.failed.0 i) (eqb t.started.0 i) (done + i) ≡ []
  unfolding next_named
  quiet passed i done after before =
      let (a, d) = quiet_one t.started.0 passed _ i after before in
      let (b, e) = quiet_one t.failed.0 passed _ i after a in
      let (c, g) = quiet_one f.started.0 passed _ i after b in
      let (n, h) = quiet_one f.failed.0 passed _ i after c in
      rw (d, e, g, h) (no-reports (done + i))

  -- Up to before the tick that is named next, nothing comes to the reports.
  pub none_between : (done passed k : ℕ) → passed ≤ k → Beyond k (next_named f t passed) → reports_after done k f t ≡ reports_after done passed f t
  unfolding reports_after
  none_between done passed zero low high = let e : passed ≡ 0 = omega arith in rw e
  none_between done passed (suc k) low high =
      by_eqb passed (suc k) (λ e b. rw e)
      (λ e b. rw (quiet passed (suc k) done (omega arith) high, append-nil)
      (none_between done passed k (omega arith) (beyond-less k _ high)))

  -- With that tick come its reports.
  step : (done passed next : ℕ) → passed < next → Some next ≡ next_named f t passed → (a b : Report)
      → (a.failed ≡ eqb f.failed.0 next) × (a.started ≡ eqb f.started.0 next)
      → (b.failed ≡ eqb t.failed.0 next) × (b.started ≡ eqb t.started.0 next)
      → reports_after done passed f t ++ reports_in a b (done + next) ≡ reports_after done next f t
  unfolding reports_after
  step done passed zero less e a b p q = absurd (omega arith)
  step done passed (suc j) less e a b p q =
      rw (p.0, p.1, q.0, q.1, none_between done passed j (omega arith) (rw (← e) (omega arith)))

  pub turn : (done passed next : ℕ) → Some next ≡ next_named f t passed → (a b : Report)
      → (a.failed ≡ eqb f.failed.0 next) × (a.started ≡ eqb f.started.0 next)
      → (b.failed ≡ eqb t.failed.0 next) × (b.started ≡ eqb t.started.0 next) → {l k l' : List ℕ} {at m r : ℕ}
      → Puts l at (reports_after done passed f t) m k → Puts k m (reports_in a b (done + next)) r l'
      → Puts l at (reports_after done next f t) r l'
  turn done passed next e a b p q {l} {k} {l'} {at} {m} {r} first then =
      rw (step done passed next (later passed next e) e a b p q) at (puts_then first then)

  pub done_all : (done passed last : ℕ) → passed ≤ last → Beyond last (next_named f t passed) → {l l' : List ℕ} {at r : ℕ}
      → Puts l at (reports_after done passed f t) r l' → Puts l at (reports_after done last f t) r l'
  done_all done passed last low high p = rw (none_between done passed last low high) p
