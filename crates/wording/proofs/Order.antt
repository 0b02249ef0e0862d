-- The ticks that a stretch names come in order of time. Assumes nothing.
use Prim.Native.Nat.{ℕ, ◌≤◌, ◌<◌}
use native.Mathlib.Decide.{dec_le, dec_lt}
use native.Mathlib.Omega.{arith}
use borrow.Author.Tests.{le-leb, lt-leb, lt-ltb, le-ltb}
use Rattle.device.specs.declared.StretchReport.{StretchReport}
use Rattle.wording.specs.Wording.{sooner, next_named, no_tick}

module _ (named tick best : ℕ) where
  cases : (P : ℕ → Type 0) → (named ≤ tick → P best) → (tick < named → named < best → P named)
      → (tick < named → best ≤ named → P best) → P (sooner named tick best)
  unfolding sooner
  cases P past first later = go (dec_le named tick) (dec_lt named best)
    where
      go : Dec (named ≤ tick) → Dec (named < best) → P (sooner named tick best)
      go (yes p) q = rw (le-leb named tick p) (past p)
      go (no p) (yes q) =
          let h : tick < named = omega arith in
          rw (lt-leb named tick h, lt-ltb named best q) (first h q)
      go (no p) (no q) =
          let h : tick < named = omega arith in
          let k : best ≤ named = omega arith in
          rw (lt-leb named tick h, le-ltb named best k) (later h k)

  sooner-most : sooner named tick best ≤ best
  sooner-most = cases (λ n. n ≤ best) (λ _. omega arith) (λ _ h. omega arith) (λ _ h. omega arith)

  sooner-named : tick < named → sooner named tick best ≤ named
  sooner-named after = cases (λ n. n ≤ named) (λ h. omega arith) (λ _ h. omega arith) (λ _ h. omega arith)

  sooner-after : tick < best → tick < sooner named tick best
  sooner-after after = cases (λ n. tick < n) (λ _. after) (λ h _. h) (λ _ _. after)

-- The next tick named after `tick` lies after it, and no tick that is named after `tick` lies before it.
pub record Next (flight temperature : StretchReport) (tick n : ℕ) : Type 0 where
  pub after : tick < no_tick → tick < n
  pub failed-flight : tick < flight.failed.0 → n ≤ flight.failed.0
  pub started-flight : tick < flight.started.0 → n ≤ flight.started.0
  pub failed-temperature : tick < temperature.failed.0 → n ≤ temperature.failed.0
  pub started-temperature : tick < temperature.started.0 → n ≤ temperature.started.0

pub next-named : (flight temperature : StretchReport) (tick : ℕ) → Next flight temperature tick (next_named flight temperature tick)
unfolding next_named
next-named flight temperature tick =
    let a = sooner flight.failed.0 tick no_tick in
    let b = sooner flight.started.0 tick a in
    let c = sooner temperature.failed.0 tick b in
    let d : sooner temperature.started.0 tick c ≤ c = sooner-most temperature.started.0 tick c in
    let e : c ≤ b = sooner-most temperature.failed.0 tick b in
    let f : b ≤ a = sooner-most flight.started.0 tick a in
    record {
      after = λ h. sooner-after _ tick c (sooner-after _ tick b (sooner-after _ tick a (sooner-after _ tick no_tick h)));
      failed-flight = λ h. omega (arith, sooner-named flight.failed.0 tick no_tick h);
      started-flight = λ h. omega (arith, sooner-named flight.started.0 tick a h);
      failed-temperature = λ h. omega (arith, sooner-named temperature.failed.0 tick b h);
      started-temperature = λ h. sooner-named temperature.started.0 tick c h;
    }
