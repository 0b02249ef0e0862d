-- What the schedule of a kind does, in plain arithmetic: starts, groups, settling, one tick.
use Prim.Native.Nat.{ℕ, ◌+◌, ◌-◌, ◌≤◌, ◌<◌}
use native.Mathlib.Omega.{arith}
use mathlib.Core.Bool.{Bool, true, false}
use mathlib.Core.Logic.{◌↔◌, ◌⊎◌, inl, inr, ⊎_elim}
use mathlib.Core.Path.{◌≡◌, refl}
use lib.Dec.{leb}
use borrow.Author.Tests.{leb-true, leb-false, lt-ltb, le-ltb, le-leb, lt-leb}
use Rattle.unit.specs.Choice.{pick}
use Rattle.unit.proofs.Cases.{by-test, by-ltb, holds, fails}
use Rattle.unit.specs.declared.Ticks.{Ticks}
use Rattle.device.specs.declared.Schedule.{Schedule}
use Rattle.device.specs.Event.{starts_left, begins, begins_group, start_single, start_event, settle}
use Rattle.device.specs.Event.{tick_schedule, left_after, wait_after, started_after, settled_after, good_after}

-- A measurement starts, and an event: "A kind is awaited from its start"; 8,192 ticks are left to it. "Acceptance zeroes cycle
-- counts"
pub start-means :
    (p : Ticks) (n : ℕ) (c : Bool) →
    ((start_event p n c).left.0 ≡ 8192) ×
    ((start_event p n c).wait ≡ p) ×
    ((start_event p n c).period ≡ p) ×
    ((start_event p n c).planned ≡ n) ×
    ((start_event p n c).started ≡ 1) ×
    ((start_event p n c).settled ≡ 0) ×
    ((start_event p n c).continuous ≡ c) ×
    ((start_event p n c).good ≡ 0)
unfolding start_event
start-means p n c = (refl, refl, refl, refl, refl, refl, refl, refl)

pub single-means :
    (k : Schedule) →
    ((start_single k).left.0 ≡ 8192) ×
    ((start_single k).planned ≡ k.planned) ×
    ((start_single k).started ≡ k.started) ×
    ((start_single k).settled ≡ k.settled) ×
    ((start_single k).continuous ≡ k.continuous) ×
    ((start_single k).good ≡ k.good)
unfolding start_single
single-means k = (refl, refl, refl, refl, refl, refl)

-- A start is to come while fewer are started than planned, and in a continuous event always.
pub left-means : (k : Schedule) → (starts_left k ≡ true) ↔ ((k.continuous ≡ true) ⊎ (k.started < k.planned))
unfolding starts_left
left-means k =
    by-test k.continuous
    (λ c. rw c (holds (inl refl)))
    (λ c. by-ltb k.started k.planned
    (λ h e. rw (c, e) (holds (inr h)))
    (λ h e. rw (c, e) (fails false (⊎_elim (λ x. let z : ◌≡◌ {A = ℕ} 0 1 = cc in omega arith) (λ x. omega arith)))))

-- A tick starts one where one is to come and its time has come.
pub begins-means :
    (k : Schedule) → (begins k ≡ true) ↔ (((k.continuous ≡ true) ⊎ (k.started < k.planned)) × (k.wait.0 ≤ 1))
unfolding begins
begins-means k =
    let s = left-means k in
    by-test (starts_left k)
    (λ e. by-test (leb k.wait.0 1)
    (λ f. rw (e, f) (holds (s.0 e, leb-true k.wait.0 1 f)))
    (λ f. let l : 1 < k.wait.0 = leb-false k.wait.0 1 f in rw (e, f) (fails false (λ x. omega arith))))
    (λ e. rw e (fails false (λ x. let y = s.1 x.0 in let z : ◌≡◌ {A = ℕ} 0 1 = cc in omega arith)))

-- "at the first start of a group that kind's sums, count and averages go to 0" (Note 5): the first is the one that finds all N
-- of the group before it started
pub group-means : (k : Schedule) → (begins_group k ≡ true) ↔ ((begins k ≡ true) × (k.planned ≤ k.started))
unfolding begins_group
group-means k =
    by-test (begins k)
    (λ b. by-ltb k.started k.planned
    (λ h e. rw (b, e) (fails false (λ x. omega arith)))
    (λ h e. rw (b, e) (holds (refl, h))))
    (λ b. rw b (fails false (λ x. let z : ◌≡◌ {A = ℕ} 0 1 = cc in omega arith)))

-- "A good measurement of an event adds one to its count, a single one none"; "A measurement is settled when it is good or
-- failed."; "A kind is awaited .. until an accepted delivery"
pub settle-event :
    (k : Schedule) (good : Bool) →
    k.settled < k.planned →
    ((settle k good).left.0 ≡ 0) ×
    ((settle k good).settled ≡ k.settled + 1) ×
    ((settle k good).good ≡ k.good + pick good 1 0)
unfolding settle
settle-event k true h = rw (lt-ltb k.settled k.planned h) (refl, refl, refl)
settle-event k false h = rw (lt-ltb k.settled k.planned h) (refl, refl, omega arith)

pub settle-single :
    (k : Schedule) (good : Bool) →
    k.planned ≤ k.settled →
    ((settle k good).left.0 ≡ 0) × ((settle k good).settled ≡ k.settled) × ((settle k good).good ≡ k.good)
unfolding settle
settle-single k good h = rw (le-ltb k.settled k.planned h) (refl, refl, refl)

-- One tick of a schedule: a start is awaited for 8,192 ticks, else one tick fewer is left; the next start comes one period
-- after the last; the plan stays, and the count of good ones but at the first start of a group.
pub left-started : (k : Schedule) → begins k ≡ true → (tick_schedule k).left.0 ≡ 8192
unfolding tick_schedule left_after
left-started k e = rw e

pub left-fewer : (k : Schedule) → begins k ≡ false → (tick_schedule k).left.0 ≡ k.left.0 - 1
unfolding tick_schedule left_after
left-fewer k e = rw e (by-ltb 0 k.left.0 (λ h f. rw f) (λ h f. rw f (omega arith)))

pub wait-fewer : (k : Schedule) → 1 < k.wait.0 → (tick_schedule k).wait.0 ≡ k.wait.0 - 1
unfolding tick_schedule wait_after
wait-fewer k h = rw (lt-leb k.wait.0 1 h)

pub wait-again : (k : Schedule) → k.wait.0 ≤ 1 → (tick_schedule k).wait.0 ≡ k.period.0
unfolding tick_schedule wait_after
wait-again k h = rw (le-leb k.wait.0 1 h)

pub started-means :
    (k : Schedule) → k.started < k.planned → (tick_schedule k).started ≡ k.started + pick (begins k) 1 0
unfolding tick_schedule started_after
started-means k l =
    rw (lt-ltb k.started k.planned l) (by-test (begins k) (λ e. rw e) (λ e. rw e (omega arith)))

pub group-started :
    (k : Schedule) →
    begins_group k ≡ true →
    ((tick_schedule k).started ≡ 1) × ((tick_schedule k).settled ≡ 0) × ((tick_schedule k).good ≡ 0)
unfolding tick_schedule started_after settled_after good_after
group-started k e =
    let (b, l) = (group-means k).0 e in rw (e, b, le-ltb k.started k.planned l) (refl, refl, refl)

pub tick-keeps :
    (k : Schedule) →
    ((tick_schedule k).period ≡ k.period) ×
    ((tick_schedule k).planned ≡ k.planned) ×
    ((tick_schedule k).continuous ≡ k.continuous) ×
    (begins_group k ≡ false → (tick_schedule k).good ≡ k.good)
unfolding tick_schedule good_after
tick-keeps k = (refl, refl, refl, λ n. rw n)
