-- The schedule of an event against what the calls told of it so far: one argument for both kinds.
use Prim.Native.Nat.{ℕ, zero, suc, ◌+◌, ◌-◌, ◌*◌, ◌%◌, ◌≤◌, ◌<◌}
use native.Mathlib.Nat.{zero-mul, mul-le-mul_left, mul-le-mul_right, add-mul-mod_self_right, mod-eq_of_lt}
use native.Mathlib.Omega.{arith}
use native.Mathlib.Numerals.{add-one}
use mathlib.Core.Path.{◌≡◌, refl, sym, ◌∙◌}
use mathlib.Core.Bool.{Bool, true, false}
use mathlib.Core.List.{List, [], ◌∷◌, ◌++◌, append-nil}
use lib.ListN.{length, length-append}
use lib.Dec.{eqb}
use borrow.Author.Tests.{lt-ltb, le-leb, lt-leb, eq-eqb, ne_eqb}
use Rattle.unit.specs.Choice.{pick, both, negate}
use Rattle.unit.proofs.Cases.{by-test, by-ltb, by_eqb}
use Rattle.unit.specs.declared.Ticks.{Ticks}
use Rattle.hit.specs.Mean.{All}
use Rattle.device.specs.declared.Schedule.{Schedule}
use Rattle.device.specs.Event.{is_awaited, starts_left, begins, begins_group, fails, start_event, left_after, wait_after, started_after}
use Rattle.device.specs.Event.{settled_after, good_after, tick_schedule, settle}
use Rattle.device.specs.History.{Entry}
use Rattle.demands.specs.EventHistory.{value_at, Plan, History, Expiry, settled_of, opens_group, note_tick, note_delivery, note_read}
use Rattle.demands.specs.Claim.{reached, planned_starts}
use Rattle.device.proofs.TickCases.{by-begins, by-group, no-group, one_less}

-- 0, P, 2 P and so on: n of them
unfoldable pub multiples : ℕ → ℕ → List ℕ
multiples P zero = []
multiples P (suc n) = multiples P n ++ (n * P ∷ [])

abbrev pub Timely : Expiry → Type 0
Timely e = e.at ≡ e.start + 8192

-- The starts told after t ticks, `total` of them, the last of them, and the ticks until the next, where one is to come.
pub record Begun (P : ℕ) (told : List ℕ) (latest t wait total : ℕ) (more : Bool) : Type 0 where
  pub long : 16384 ≤ P
  pub some : 1 ≤ total
  pub starts : told ≡ multiples P total
  pub last : latest + P ≡ total * P
  pub due : total * P ≤ t + P
  pub next : more ≡ true → (total * P ≡ t + wait) × (1 ≤ wait)

-- The place of the last of `total` starts in its group of N, `turns` groups gone before.
pub record Placed (N total started turns : ℕ) (continuous : Bool) : Type 0 where
  pub some : 1 ≤ started
  pub most : started ≤ N
  pub place : total ≡ turns * N + started
  pub alone : continuous ≡ false → turns ≡ 0

-- What was told good and failed, against the numbers settled and good.
pub record Counted (h : History) (settled count : ℕ) : Type 0 where
  pub all : settled ≡ settled_of h
  pub good : count ≡ length h.good
  pub timely : All Timely h.expiries

-- What holds of the schedule `k` of an event of plan p from its start on: `h` is what was told.
pub record Going (p : Plan) (h : History) (k : Schedule) : Type 0 where
  pub period : k.period.0 ≡ p.period
  pub planned : k.planned ≡ p.count
  pub continuous : k.continuous ≡ p.continuous
  pub total : ℕ
  pub turns : ℕ
  pub begun : Begun p.period h.starts h.last h.ticks k.wait.0 total (starts_left k)
  pub placed : Placed p.count total k.started turns p.continuous
  pub told : h.started ≡ k.started
  pub counted : Counted h k.settled k.good
  pub since : 0 < k.left.0 → k.left.0 + h.ticks ≡ h.last + 8192
  pub idle : k.left.0 ≡ 0 → k.started ≡ k.settled
  pub busy : 0 < k.left.0 → k.started ≡ k.settled + 1

-- one more at a list's end
pub all_append : {A : Type 0} (P : A → Type 0) (xs : List A) (x : A) → All P xs → P x → All P (xs ++ (x ∷ []))
all_append P [] x h p = (p, tt)
all_append P (y ∷ xs) x h p = (h.0, all_append P xs x h.1 p)

one-longer : {A : Type 0} (xs : List A) (x : A) → length (xs ++ (x ∷ [])) ≡ length xs + 1
one-longer xs x = length-append xs (x ∷ [])

multiples-next : (P n : ℕ) → multiples P (n + 1) ≡ multiples P n ++ (n * P ∷ [])
unfolding multiples
multiples-next P n = rw (add-one n)

multiples-length : (P n : ℕ) → length (multiples P n) ≡ n
unfolding multiples
multiples-length P zero = refl
multiples-length P (suc n) = omega (arith, one-longer (multiples P n) (n * P), multiples-length P n)

-- the first s of N multiples are those up to t, where t lies from the last of them on and before the next
reached-are :
    (P N s t : ℕ) → 1 ≤ P → s ≤ N → s * P ≤ t + P → (s < N → t < s * P) → reached P N t ≡ multiples P s
unfolding reached multiples
reached-are P zero s t o l d n = let z : s ≡ 0 = omega arith in rw z
reached-are P (suc N) s t o l d n =
    by-ltb N s
    (λ h _.
    let e : s ≡ suc N = omega arith in
    let f : N * P ≤ t = omega (arith, rw e at d) in
    rw (e, le-leb (N * P) t f, reached-are P N N t o (omega arith) (omega arith) (λ u. absurd (omega arith))))
    (λ h _.
    let f : t < N * P = omega (arith, n (omega arith), mul-le-mul_right P h) in
    rw (lt-leb (N * P) t f, append-nil, reached-are P N s t o h d (λ u. n (omega arith))))

both_false : (b : Bool) → both b false ≡ false
both_false true = refl
both_false false = refl

module _ (p : Plan) (h : History) (k : Schedule) (g : Going p h k) where
  -- at a start nothing is awaited, since the period is longer than a measurement may last
  pub none-awaited : starts_left k ≡ true → k.wait.0 ≤ 1 → k.left.0 ≡ 0
  none-awaited l w =
      by-ltb 0 k.left.0
      (λ a _. absurd (omega (arith, g.since a, g.begun.next l)))
      (λ a _. omega arith)

  -- a start opens a group as it is told exactly where it begins one
  opens-none : k.started < k.planned → opens_group p h ≡ false
  unfolding opens_group
  opens-none l = rw (ne_eqb h.started p.count (λ e. omega (arith, g.told, g.planned))) (both_false p.continuous)

  opens_one : k.continuous ≡ true → k.planned ≤ k.started → opens_group p h ≡ true
  unfolding opens_group
  opens_one c l =
      rw (← g.continuous, c, eq-eqb h.started p.count (omega (arith, g.told, g.planned, g.placed.most)))

  pub group-told : both (begins k) (opens_group p h) ≡ begins_group k
  group-told =
      by-begins k
      (λ l w b. by-group k b (λ u n s. rw (b, n) (opens-none u)) (λ c u n s. rw (b, n) (opens_one c u)))
      (λ f b. rw (b, (no-group k b).0))

  -- the next start, after one in this tick
  begun-next :
      starts_left k ≡ true →
      k.wait.0 ≤ 1 →
      (more : Bool) →
      Begun p.period (h.starts ++ ((h.ticks + 1) ∷ [])) (h.ticks + 1) (h.ticks + 1) k.period.0 (g.total + 1) more
  begun-next l w more =
      let n = g.begun.next l in
      let d : g.total * p.period ≡ h.ticks + 1 = omega arith in
      record {
        long = g.begun.long;
        some = omega arith;
        starts = rw (g.begun.starts, multiples-next p.period g.total, d);
        last = omega arith;
        due = omega arith;
        next = λ u. omega (arith, g.period, g.begun.long);
      }

  -- a tick with a start of the group
  going-begins :
      starts_left k ≡ true →
      k.wait.0 ≤ 1 →
      begins k ≡ true →
      k.started < k.planned →
      begins_group k ≡ false →
      started_after k ≡ k.started + 1 →
      Going p (note_tick p (begins k) (fails k) h) (tick_schedule k)
  unfolding note_tick tick_schedule left_after wait_after settled_after good_after fails
  going-begins l w b u n s =
      let z : k.left.0 ≡ 0 = none-awaited l w in
      rw (opens-none u, b, n, s, z, le-leb k.wait.0 1 w)
      (record {
        period = g.period;
        planned = g.planned;
        continuous = g.continuous;
        total = g.total + 1;
        turns = g.turns;
        begun = begun-next l w _;
        placed =
            record {
              some = omega arith;
              most = omega (arith, g.planned);
              place = omega (arith, g.placed.place);
              alone = g.placed.alone;
            };
        told = omega (arith, g.told);
        counted = record { all = g.counted.all; good = g.counted.good; timely = g.counted.timely };
        since = λ u. omega arith;
        idle = λ u. absurd (omega arith);
        busy = λ u. omega (arith, g.idle z);
      })

  -- a tick with the first start of a group
  going-turns :
      starts_left k ≡ true →
      k.wait.0 ≤ 1 →
      begins k ≡ true →
      k.continuous ≡ true →
      k.planned ≤ k.started →
      begins_group k ≡ true →
      started_after k ≡ 1 →
      Going p (note_tick p (begins k) (fails k) h) (tick_schedule k)
  unfolding note_tick tick_schedule left_after wait_after settled_after good_after fails
  going-turns l w b c u n s =
      let z : k.left.0 ≡ 0 = none-awaited l w in
      rw (opens_one c u, b, n, s, z, le-leb k.wait.0 1 w)
      (record {
        period = g.period;
        planned = g.planned;
        continuous = g.continuous;
        total = g.total + 1;
        turns = g.turns + 1;
        begun = begun-next l w _;
        placed =
            record {
              some = omega arith;
              most = omega (arith, g.placed.some, g.placed.most);
              place = omega (arith, g.placed.place, g.placed.most, g.planned);
              alone = λ e. let z : ◌≡◌ {A = ℕ} 0 1 = cc g.continuous in absurd (omega arith);
            };
        told = refl;
        counted = record { all = refl; good = refl; timely = g.counted.timely };
        since = λ u. omega arith;
        idle = λ u. absurd (omega arith);
        busy = λ u. refl;
      })

  -- a tick without a start
  begun-on :
      (starts_left k ≡ true → 2 ≤ k.wait.0) →
      Begun p.period h.starts h.last (h.ticks + 1) (wait_after k) g.total (starts_left k)
  unfolding wait_after
  begun-on f =
      record {
        long = g.begun.long;
        some = g.begun.some;
        starts = g.begun.starts;
        last = g.begun.last;
        due = omega arith;
        next =
            λ u.
            let w : 1 < k.wait.0 = f u in
            rw (lt-leb k.wait.0 1 w) (omega (arith, g.begun.next u));
      }

  going-expires :
      (starts_left k ≡ true → 2 ≤ k.wait.0) →
      begins k ≡ false →
      k.left.0 ≡ 1 →
      Going p (note_tick p (begins k) (fails k) h) (tick_schedule k)
  unfolding note_tick tick_schedule left_after wait_after settled_after good_after fails starts_left
  going-expires f b z =
      let c = g.since (omega arith) in
      let d = g.busy (omega arith) in
      let e : Expiry = record { start = h.last; at = h.ticks + 1 } in
      let (n, s) = no-group k b in
      let u : k.settled < k.planned = omega (arith, g.placed.most, g.planned) in
      rw (b, n, s, z, lt-ltb k.settled k.planned u)
      (record {
        period = g.period;
        planned = g.planned;
        continuous = g.continuous;
        total = g.total;
        turns = g.turns;
        begun = begun-on f;
        placed = g.placed;
        told = g.told;
        counted =
            record {
              all = omega arith;
              good = g.counted.good;
              timely = all_append Timely h.expiries e g.counted.timely (omega arith);
            };
        since = λ u. absurd (omega arith);
        idle = λ u. d;
        busy = λ u. absurd (omega arith);
      })

  going_on :
      (starts_left k ≡ true → 2 ≤ k.wait.0) →
      begins k ≡ false →
      fails k ≡ false →
      (0 < left_after k → k.left.0 ≡ left_after k + 1) →
      (left_after k ≡ 0 → k.left.0 ≡ 0) →
      Going p (note_tick p (begins k) (fails k) h) (tick_schedule k)
  unfolding note_tick tick_schedule settled_after good_after starts_left
  going_on f b e more none =
      let (n, s) = no-group k b in
      rw (b, n, s, e)
      (record {
        period = g.period;
        planned = g.planned;
        continuous = g.continuous;
        total = g.total;
        turns = g.turns;
        begun = begun-on f;
        placed = g.placed;
        told = g.told;
        counted = record { all = g.counted.all; good = g.counted.good; timely = g.counted.timely };
        since = λ u. omega (arith, more u, g.since (omega (arith, more u)));
        idle = λ u. g.idle (none u);
        busy = λ u. g.busy (omega (arith, more u));
      })

  going-rests :
      (starts_left k ≡ true → 2 ≤ k.wait.0) →
      begins k ≡ false →
      Going p (note_tick p (begins k) (fails k) h) (tick_schedule k)
  unfolding fails
  going-rests f b =
      by_eqb k.left.0 1 (λ z _. going-expires f b z)
      (λ n e. let (more, none) = one_less k n b in going_on f b (rw e) more none)

  pub going-tick : Going p (note_tick p (begins k) (fails k) h) (tick_schedule k)
  going-tick = by-begins k (λ l w b. by-group k b (going-begins l w b) (going-turns l w b)) going-rests

  pub unsettled : 0 < k.left.0 → k.settled < k.planned
  unsettled l = omega (arith, g.busy l, g.placed.most, g.planned)

  -- a delivery, good or failed as its answer says
  pub going-settles :
      (e : Entry) → 0 < k.left.0 → Going p (note_delivery p e h) (settle k (eqb (value_at 0 e.answer) 1))
  unfolding note_delivery settle starts_left
  going-settles e l =
      rw (lt-ltb k.settled k.planned (unsettled l))
      (record {
        period = g.period;
        planned = g.planned;
        continuous = g.continuous;
        total = g.total;
        turns = g.turns;
        begun = g.begun;
        placed = g.placed;
        told = g.told;
        counted =
            by-test (eqb (value_at 0 e.answer) 1)
            (λ v. rw v
            (record {
              all = omega (arith, g.counted.all, one-longer h.good e.call);
              good = omega (arith, g.counted.good, one-longer h.good e.call);
              timely = g.counted.timely;
            }))
            (λ v. rw v
            (record { all = omega (arith, g.counted.all); good = g.counted.good; timely = g.counted.timely }));
        since = λ u. absurd (omega arith);
        idle = λ u. g.busy l;
        busy = λ u. absurd (omega arith);
      })

  -- a read tells nothing of it
  pub going-read : (f : List ℕ) → Going p (note_read f h) k
  unfolding note_read
  going-read f =
      record {
        period = g.period;
        planned = g.planned;
        continuous = g.continuous;
        total = g.total;
        turns = g.turns;
        begun = g.begun;
        placed = g.placed;
        told = g.told;
        counted = record { all = g.counted.all; good = g.counted.good; timely = g.counted.timely };
        since = g.since;
        idle = g.idle;
        busy = g.busy;
      }

  -- "exactly at those elapsed ticks j × P, j below N, .. that the list reaches", and "every j" of a continuous event
  total-below : k.continuous ≡ true → g.total ≤ h.ticks + 1
  total-below c =
      by-ltb (h.ticks + 1) g.total
      (λ l _. absurd (omega (arith, g.begun.due, g.begun.long, mul-le-mul_right p.period l, mul-le-mul_left h.ticks g.begun.long)))
      (λ l _. l)

  pub all-reached : h.starts ≡ planned_starts p h.ticks
  unfolding planned_starts starts_left
  all-reached =
      g.begun.starts ∙
      sym
      (by-test k.continuous
      (λ c. rw (← g.continuous, c)
      (reached-are p.period (h.ticks + 1) g.total h.ticks (omega (arith, g.begun.long)) (total-below c) g.begun.due
      (λ u. omega (arith, g.begun.next (rw c)))))
      (λ c. rw (← g.continuous, c)
      (let n = g.placed.alone (sym g.continuous ∙ c) in
      let e : g.total ≡ k.started = omega (arith, g.placed.place, rw n at g.placed.place) in
      reached-are p.period p.count g.total h.ticks (omega (arith, g.begun.long)) (omega (arith, g.placed.most)) g.begun.due
      (λ u. omega (arith, g.begun.next (rw (c, lt-ltb k.started k.planned (omega (arith, g.planned)))))))))

  -- "Each N starts of a kind make a group": the last of them has its place in it
  pub in_group : h.started ≡ (length h.starts - 1) % p.count + 1
  in_group =
      let n : length h.starts - 1 ≡ k.started - 1 + g.turns * p.count =
      rw (g.begun.starts, multiples-length p.period g.total) (omega (arith, g.placed.place, g.placed.some)) in
      rw (n, add-mul-mod_self_right (k.started - 1) g.turns p.count, mod-eq_of_lt {n = k.started - 1} {m = p.count} (omega (arith, g.placed.some, g.placed.most)))
      (omega (arith, g.told, g.placed.some))

  -- "started = good + failed + awaited"
  pub balanced : h.started ≡ settled_of h + pick (negate (is_awaited k)) 0 1
  unfolding is_awaited
  balanced =
      by-ltb 0 k.left.0
      (λ l e. rw e (omega (arith, g.told, g.busy l)))
      (λ l e. rw e (omega (arith, g.told, g.idle (omega arith))))

  -- "awaited only while its last start lies fewer than 8,192 ticks back"
  pub recent : pick {A = ℕ} (negate (is_awaited k)) 0 1 ≡ 1 → h.ticks < h.last + 8192
  unfolding is_awaited
  recent =
      by-ltb 0 k.left.0 (λ l e. rw e (λ u. omega (arith, g.since l))) (λ l e. rw e (λ u. absurd (omega arith)))

-- at acceptance
pub going_start :
    (p : Ticks) (N : ℕ) (c each : Bool) (evtmg own : ℕ) →
    16384 ≤ p.0 →
    1 ≤ N →
    Going (record { period = p.0; count = N; continuous = c; each = each })
    (record { ticks = 0; starts = 0 ∷ []; last = 0; expiries = []; deliveries = []; started = 1; good = []; failed = 0; evtmg = evtmg; own = own })
    (start_event p N c)
unfolding start_event multiples
going_start p N c each evtmg own l o =
    record {
      period = refl;
      planned = refl;
      continuous = refl;
      total = 1;
      turns = 0;
      begun =
          record {
            long = l;
            some = omega arith;
            starts = rw (zero-mul p.0);
            last = omega arith;
            due = omega arith;
            next = λ u. omega arith;
          };
      placed = record { some = omega arith; most = o; place = omega arith; alone = λ e. refl };
      told = refl;
      counted = record { all = refl; good = refl; timely = tt };
      since = λ u. omega arith;
      idle = λ u. absurd (omega arith);
      busy = λ u. refl;
    }
