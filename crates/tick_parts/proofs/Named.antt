-- What a stretch tells of the ticks that it names is what it tells of each of its ticks, one after the other. Assumes nothing.
use Prim.Native.Nat.{ℕ, zero, suc, ◌+◌, ◌-◌, ◌≤◌, ◌<◌}
use mathlib.Core.Path.{◌≡◌, sym, ap, ◌∙◌}
use mathlib.Core.Bool.{cond}
use mathlib.Core.List.{[], ◌++◌, append-nil}
use native.Mathlib.Omega.{arith}
use lib.Dec.{leb, eqb}
use borrow.Author.Tests.{ne_eqb, le-leb, lt-leb}
use Rattle.unit.proofs.Cases.{by-ltb, by-leb, by_eqb}
use Rattle.device.specs.declared.StretchReport.{StretchReport}
use Rattle.wording.specs.Wording.{Texts, report_at, tick_reports, no_tick, sooner, next_named, later_named, named}
use Rattle.wording.proofs.Order.{Next, next-named}

-- What a stretch tells of k of its ticks, those behind the j-th, with so many ticks before the stretch.
unfoldable pub each_told : StretchReport → StretchReport → ℕ → ℕ → ℕ → Texts
each_told flight temperature done j zero = []
each_told flight temperature done j (suc k) =
    tick_reports flight temperature (j + 1) done ++ each_told flight temperature done (j + 1) k

-- Each tick that is named is one of the first n.
pub record Within (flight temperature : StretchReport) (n : ℕ) : Type 0 where
  pub failed-flight : flight.failed.0 ≤ n
  pub started-flight : flight.started.0 ≤ n
  pub failed-temperature : temperature.failed.0 ≤ n
  pub started-temperature : temperature.started.0 ≤ n

-- 1 for a named tick that lies behind the j-th, else 0
unfoldable ahead : ℕ → ℕ → ℕ
ahead named j = cond (leb named j) 0 1

module _ (named j : ℕ) where
  ahead_none : named ≤ j → ahead named j ≡ 0
  unfolding ahead
  ahead_none h = rw (le-leb named j h)

  ahead-some : j < named → ahead named j ≡ 1
  unfolding ahead
  ahead-some h = rw (lt-leb named j h)

  ahead-most : ahead named j ≤ 1
  ahead-most = by-leb named j (λ h _. omega (arith, ahead_none h)) (λ h _. omega (arith, ahead-some h))

  none_ahead : ahead named j ≡ 0 → named ≤ j
  none_ahead none = by-leb named j (λ h _. h) (λ h _. absurd (omega (arith, ahead-some h)))

ahead-falls : (named j p : ℕ) → j ≤ p → ahead named p ≤ ahead named j
ahead-falls named j p l =
    by-leb named j (λ h _. omega (arith, ahead_none named p (omega arith))) (λ h _. omega (arith, ahead-some named j h, ahead-most named p))

by-sooner : (P : ℕ → Type 0) (named j best : ℕ) → (j < named → P named) → P best → P (sooner named j best)
unfolding sooner
by-sooner P named j best a b = by-leb named j (λ _ e. rw e b) (λ h e. rw e (by-ltb named best (λ _ q. rw q (a h)) (λ _ q. rw q b)))

module _ (flight temperature : StretchReport) where
  -- the ticks named behind the j-th, counted
  abbrev left : ℕ → ℕ
  left j = ahead flight.failed.0 j + ahead flight.started.0 j + ahead temperature.failed.0 j + ahead temperature.started.0 j

  by_next : (P : ℕ → Type 0) (j : ℕ) → P no_tick → (j < flight.failed.0 → P flight.failed.0) → (j < flight.started.0 → P flight.started.0)
      → (j < temperature.failed.0 → P temperature.failed.0) → (j < temperature.started.0 → P temperature.started.0)
      → P (next_named flight temperature j)
  unfolding next_named
  by_next P j none a b c d =
      by-sooner P temperature.started.0 j _ d
      (by-sooner P temperature.failed.0 j _ c (by-sooner P flight.started.0 j _ b (by-sooner P flight.failed.0 j no_tick a none)))

  none-later : (j : ℕ) → Within flight temperature j → next_named flight temperature j ≡ no_tick
  unfolding next_named sooner
  none-later j w =
      rw (
        le-leb flight.failed.0 j w.failed-flight,
        le-leb flight.started.0 j w.started-flight,
        le-leb temperature.failed.0 j w.failed-temperature,
        le-leb temperature.started.0 j w.started-temperature,
      )

  -- a tick that is not named
  untold : (i done : ℕ) → ¬ (flight.failed.0 ≡ i) → ¬ (flight.started.0 ≡ i) → ¬ (temperature.failed.0 ≡ i) → ¬ (temperature.started.0 ≡ i)
      → tick_reports flight temperature i done ≡ []
  unfolding tick_reports report_at
  untold i done a b c d =
      rw (ne_eqb flight.failed.0 i a, ne_eqb flight.started.0 i b, ne_eqb temperature.failed.0 i c, ne_eqb temperature.started.0 i d)

  -- From the j-th tick to the next one that is named, p, nothing is told.
  to-next : (k j p done : ℕ) → Within flight temperature (j + k) → j < p → Next flight temperature j p
      → each_told flight temperature done j k
      ≡ tick_reports flight temperature p done ++ each_told flight temperature done p (j + k - p)
  unfolding each_told
  to-next zero j p done w l next =
      let none : j + 0 - p ≡ 0 = omega arith in
      let a : flight.failed.0 ≤ j + 0 = w.failed-flight in
      let b : flight.started.0 ≤ j + 0 = w.started-flight in
      let c : temperature.failed.0 ≤ j + 0 = w.failed-temperature in
      let d : temperature.started.0 ≤ j + 0 = w.started-temperature in
      rw (none, untold p done (λ e. omega arith) (λ e. omega arith) (λ e. omega arith) (λ e. omega arith))
  to-next (suc k) j p done w l next =
      by_eqb (j + 1) p
      (λ e _. let rest : j + suc k - p ≡ k = omega arith in rw (rest, e))
      (λ other _.
      let same : j + 1 + k ≡ j + suc k = omega arith in
      let quiet : tick_reports flight temperature (j + 1) done ≡ []
      = untold (j + 1) done (λ e. other (omega (arith, next.failed-flight (omega arith))))
      (λ e. other (omega (arith, next.started-flight (omega arith))))
      (λ e. other (omega (arith, next.failed-temperature (omega arith))))
      (λ e. other (omega (arith, next.started-temperature (omega arith)))) in
      let later : Next flight temperature (j + 1) p = record {
        after = λ _. omega arith;
        failed-flight = λ h. next.failed-flight (omega arith);
        started-flight = λ h. next.started-flight (omega arith);
        failed-temperature = λ h. next.failed-temperature (omega arith);
        started-temperature = λ h. next.started-temperature (omega arith);
      } in
      rw quiet (rw same at (to-next k (j + 1) p done (rw same w) (omega arith) later)))

  module _ (n : ℕ) (w : Within flight temperature n) (few : n < no_tick) where
    beyond : (done : ℕ) → tick_reports flight temperature no_tick done ++ each_told flight temperature done no_tick (n - no_tick) ≡ []
    unfolding each_told
    beyond done =
        let none : n - no_tick ≡ 0 = omega arith in
        let a : flight.failed.0 ≤ n = w.failed-flight in
        let b : flight.started.0 ≤ n = w.started-flight in
        let c : temperature.failed.0 ≤ n = w.failed-temperature in
        let d : temperature.started.0 ≤ n = w.started-temperature in
        rw (none, untold no_tick done (λ e. omega arith) (λ e. omega arith) (λ e. omega arith) (λ e. omega arith))

    abbrev rest : ℕ → ℕ → Texts
    rest done j = each_told flight temperature done j (n - j)

    abbrev from_next : ℕ → ℕ → Texts
    from_next done p = tick_reports flight temperature p done ++ rest done p

    within-later : (j : ℕ) → n ≤ j → Within flight temperature j
    within-later j h = record {
      failed-flight = omega (arith, w.failed-flight);
      started-flight = omega (arith, w.started-flight);
      failed-temperature = omega (arith, w.failed-temperature);
      started-temperature = omega (arith, w.started-temperature);
    }

    -- behind the last tick that is named
    none_left : (done j : ℕ) → Within flight temperature j → from_next done (next_named flight temperature j) ≡ []
    none_left done j h = rw (none-later j h) (beyond done)

    ended : (done j : ℕ) → n ≤ j → rest done j ≡ []
    unfolding each_told
    ended done j h = let none : n - j ≡ 0 = omega arith in rw none

    -- The ticks behind the j-th: the next one that is named, and those behind it.
    next-told : (done j : ℕ) → rest done j ≡ from_next done (next_named flight temperature j)
    next-told done j =
        by-ltb j n
        (λ l _.
        let whole : j + (n - j) ≡ n = omega arith in
        let next : Next flight temperature j (next_named flight temperature j) = next-named flight temperature j in
        rw whole at (to-next (n - j) j (next_named flight temperature j) done (rw whole w) (next.after (omega arith)) next))
        (λ h _. ended done j h ∙ sym (none_left done j (within-later j h)))

    -- There is one less of them behind the next one that is named.
    fewer-left : (j : ℕ) → left (next_named flight temperature j) ≤ left j - 1
    fewer-left j =
        by_next (λ p. left p ≤ left j - 1) j
        (omega (
          arith,
          ahead_none flight.failed.0 no_tick (omega (arith, w.failed-flight)),
          ahead_none flight.started.0 no_tick (omega (arith, w.started-flight)),
          ahead_none temperature.failed.0 no_tick (omega (arith, w.failed-temperature)),
          ahead_none temperature.started.0 no_tick (omega (arith, w.started-temperature)),
        ))
        (λ h.
        let p : ℕ = flight.failed.0 in
        omega (
          arith,
          ahead_none p p (omega arith),
          ahead-some p j h,
          ahead-falls flight.started.0 j p (omega arith),
          ahead-falls temperature.failed.0 j p (omega arith),
          ahead-falls temperature.started.0 j p (omega arith),
        ))
        (λ h.
        let p : ℕ = flight.started.0 in
        omega (
          arith,
          ahead_none p p (omega arith),
          ahead-some p j h,
          ahead-falls flight.failed.0 j p (omega arith),
          ahead-falls temperature.failed.0 j p (omega arith),
          ahead-falls temperature.started.0 j p (omega arith),
        ))
        (λ h.
        let p : ℕ = temperature.failed.0 in
        omega (
          arith,
          ahead_none p p (omega arith),
          ahead-some p j h,
          ahead-falls flight.failed.0 j p (omega arith),
          ahead-falls flight.started.0 j p (omega arith),
          ahead-falls temperature.started.0 j p (omega arith),
        ))
        (λ h.
        let p : ℕ = temperature.started.0 in
        omega (
          arith,
          ahead_none p p (omega arith),
          ahead-some p j h,
          ahead-falls flight.failed.0 j p (omega arith),
          ahead-falls flight.started.0 j p (omega arith),
          ahead-falls temperature.failed.0 j p (omega arith),
        ))

    none-behind : (p : ℕ) → left p ≡ 0 → Within flight temperature p
    none-behind p none = record {
      failed-flight = none_ahead flight.failed.0 p (omega arith);
      started-flight = none_ahead flight.started.0 p (omega arith);
      failed-temperature = none_ahead temperature.failed.0 p (omega arith);
      started-temperature = none_ahead temperature.started.0 p (omega arith);
    }

    most-left : (j : ℕ) → left j ≤ 4
    most-left j =
        omega (
          arith,
          ahead-most flight.failed.0 j,
          ahead-most flight.started.0 j,
          ahead-most temperature.failed.0 j,
          ahead-most temperature.started.0 j,
        )

    -- At most four ticks are named: what is told of the first four is all.
    named-told : (done : ℕ) → rest done 0 ≡ named flight temperature done
    unfolding named later_named
    named-told done =
        let first : ℕ = next_named flight temperature 0 in
        let second : ℕ = next_named flight temperature first in
        let third : ℕ = next_named flight temperature second in
        let last : ℕ = next_named flight temperature third in
        let none : left last ≡ 0
        = omega (arith, most-left 0, fewer-left 0, fewer-left first, fewer-left second, fewer-left third) in
        let end : rest done last ≡ [] = next-told done last ∙ none_left done last (none-behind last none) in
        next-told done 0
        ∙ ap (λ (later : Texts). tick_reports flight temperature first done ++ later)
        (next-told done first
        ∙ ap (λ (later : Texts). tick_reports flight temperature second done ++ later)
        (next-told done second
        ∙ ap (λ (later : Texts). tick_reports flight temperature third done ++ later) (next-told done third ∙ rw (end, append-nil))))

    -- What a stretch of n ticks tells is what it tells of each,
    pub named-each : (done : ℕ) → named flight temperature done ≡ each_told flight temperature done 0 n
    named-each done = let all : n - 0 ≡ n = omega arith in sym (rw all at (named-told done))

    -- and where it names no tick, that is nothing.
    pub stretch-told : (done : ℕ)
        → cond (eqb (next_named flight temperature 0) no_tick) [] (named flight temperature done) ≡ each_told flight temperature done 0 n
    stretch-told done =
        let all : n - 0 ≡ n = omega arith in
        let first : each_told flight temperature done 0 n ≡ from_next done (next_named flight temperature 0) = rw all at (next-told done 0) in
        by_eqb (next_named flight temperature 0) no_tick
        (λ h e. rw e (sym (first ∙ rw h (beyond done))))
        (λ h e. rw e (named-each done))
