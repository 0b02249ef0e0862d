-- How a tick moves the schedule of a kind: whether a start is to come, whether the tick has one, whether it begins a group.
use Prim.Native.Nat.{ℕ, ◌+◌, ◌≤◌, ◌<◌}
use native.Mathlib.Omega.{arith}
use mathlib.Core.Path.{◌≡◌, refl}
use mathlib.Core.Bool.{true, false}
use borrow.Author.Tests.{le-leb, lt-leb}
use Rattle.unit.proofs.Cases.{by-test, by-ltb}
use Rattle.device.specs.declared.Schedule.{Schedule}
use Rattle.device.specs.Event.{starts_left, begins, begins_group, left_after, started_after, tick_schedule}

-- whether a start is to come
pub by_left :
    {G : Type 0} (k : Schedule) →
    (k.continuous ≡ true → starts_left k ≡ true → G) →
    (k.continuous ≡ false → k.started < k.planned → starts_left k ≡ true → G) →
    (k.continuous ≡ false → k.planned ≤ k.started → starts_left k ≡ false → G) →
    G
unfolding starts_left
by_left k f g h =
    by-test k.continuous (λ c. f c (rw c))
    (λ c. by-ltb k.started k.planned (λ l e. g c l (rw (c, e))) (λ l e. h c l (rw (c, e))))

-- how a tick begins a measurement, or not
pub by-begins :
    {G : Type 0} (k : Schedule) →
    (starts_left k ≡ true → k.wait.0 ≤ 1 → begins k ≡ true → G) →
    ((starts_left k ≡ true → 2 ≤ k.wait.0) → begins k ≡ false → G) →
    G
unfolding begins
by-begins k f g =
    by-test (starts_left k)
    (λ l. by-ltb 1 k.wait.0
    (λ w _. g (λ _. w) (rw (l, lt-leb k.wait.0 1 w)))
    (λ w _. f l w (rw (l, le-leb k.wait.0 1 w))))
    (λ l. g (λ u. let z : ◌≡◌ {A = ℕ} 0 1 = cc in absurd (omega arith)) (rw l))

-- whether the measurement that it begins is a group's first
pub by-group :
    {G : Type 0} (k : Schedule) →
    begins k ≡ true →
    (k.started < k.planned → begins_group k ≡ false → started_after k ≡ k.started + 1 → G) →
    (k.continuous ≡ true → k.planned ≤ k.started → begins_group k ≡ true → started_after k ≡ 1 → G) →
    G
unfolding started_after begins_group begins starts_left
by-group k b f g =
    by-ltb k.started k.planned
    (λ l e. f l (rw (b, e)) (rw (b, e)))
    (λ l e. by-test k.continuous (λ c. g c l (rw (b, e)) (rw (b, e)))
    (λ c. let z : ◌≡◌ {A = ℕ} 0 1 = cc (rw (c, e) at b) in absurd (omega arith)))

pub no-group : (k : Schedule) → begins k ≡ false → (begins_group k ≡ false) × (started_after k ≡ k.started)
unfolding started_after begins_group
no-group k b = rw b (refl, refl)

-- a start that is to come after a tick was to come before it
pub left-before : (k : Schedule) → starts_left (tick_schedule k) ≡ true → starts_left k ≡ true
unfolding tick_schedule starts_left
left-before k = by-begins k (λ l w b e. l) (λ f b. rw (no-group k b).1 (λ e. e))

-- one tick less is left, unless it was the last
pub one_less :
    (k : Schedule) →
    ¬ (k.left.0 ≡ 1) →
    begins k ≡ false →
    (0 < left_after k → k.left.0 ≡ left_after k + 1) × (left_after k ≡ 0 → k.left.0 ≡ 0)
unfolding left_after
one_less k n b = rw b (by-ltb 0 k.left.0 (λ l e. rw e (omega arith)) (λ l e. rw e (omega arith)))
