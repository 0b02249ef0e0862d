-- A single measurement, from its command on, over a list of calls: how long it is awaited, in which tick it fails, what it sets, and that
-- it counts in no mean.
use Prim.Native.Nat.{ℕ, zero, suc, ◌+◌, ◌-◌, ◌≤◌, ◌<◌}
use native.Mathlib.Nat.{zero-add}
use native.Mathlib.Omega.{arith}
use mathlib.Core.Bool.{Bool, true, false}
use mathlib.Core.List.{List, [], ◌∷◌}
use mathlib.Core.Logic.{◌↔◌, ◌⊎◌, inl, inr, ⊎_elim}
use mathlib.Core.Path.{◌≡◌, refl, ap, sym, subst, ◌∙◌}
use borrow.Author.Tests.{le-ltb, leb-true, eqb-true, eq-eqb}
use Rattle.unit.specs.Choice.{pick, both, either, negate}
use Rattle.unit.proofs.Joined.{both_true}
use Rattle.unit.proofs.Cases.{by-test, by-ltb, by_eqb}
use Rattle.frame.specs.Frame.{is_command}
use Rattle.device.specs.declared.Schedule.{Schedule}
use Rattle.device.specs.declared.Model.{Model}
use Rattle.device.specs.declared.Reply.{Reply}
use Rattle.device.specs.Event.{is_awaited, in_event, is_last, fails, left_after, start_single, settle, tick_schedule}
use Rattle.device.specs.Status.{has, sets_own_bit}
use Rattle.device.specs.Model.{is_sound, is_busy}
use Rattle.device.specs.Results.{good_sum, good_sums, good_flight, failed_flight}
use Rattle.device.specs.Stretch.{model_ticked, schedule_ticked, last_tick, stretch_report}
use Rattle.device.specs.StretchSteps.{progress}
use Rattle.device.specs.Delivery.{good_flight_model, failed_flight_model, good_temperature_model, failed_temperature_model}
use Rattle.device.specs.Bus.{must_be_idle, command_busy, is_event, flight_started, single_started, run_model}
use Rattle.device.specs.Call.{Call, stretch, accepted, verdict, while_busy}
use Rattle.device.specs.Reply.{number_in, accepted_model, reply, reply_by, values_in}
use Rattle.device.specs.History.{Kind, differences, temperatures, by_kind, after, log}
use Rattle.demands.specs.EventHistory.{only_reads, is_refusal, is_delivery}
use Rattle.demands.specs.Claim.{ticks_moved, tick_count, command}
use Rattle.demands.specs.Terms.{Accepts, single, undelivered, failed_in, Settles, Set, own_bit, event_bit}
use Rattle.device.specs.Plain.{words_at}
use Rattle.demands.specs.SecondDemand.{SingleClaim}
use Rattle.device.proofs.Table.{none-holds}
use Rattle.device.proofs.Sound.{keeps-sound}
use Rattle.device.proofs.Stretch.{schedule_of}
use Rattle.device.proofs.Replies.{reply-stretch}
use Rattle.demands.proofs.CallSteps.{Step, refusal, reading, ticking, flight-failed, flight-good, ports-failed, ports-good, stretching, stepped}
use Rattle.demands.proofs.NumberTen.{number-ten}
use Rattle.demands.proofs.StartMeaning.{Ended, ended-none, ended-ticked, flight-schedule, temperature-schedule, ended-sum, ended-sums, flight-counts, temperature-counts, ended-flight, ended-temperature}
use Rattle.device.proofs.StatusMeaning.{kept}
use Rattle.demands.proofs.StatusKept.{turned, both-all, both-none, set-means, fails-told, accepted-left, accepted-by, refused-by, settled-bits}
use Rattle.demands.proofs.ThirdDemand.{sound-after}

-- the ticks left of a single one
left-counts : (k : Schedule) → Ended k → (tick_schedule k).left.0 ≡ k.left.0 - 1
unfolding tick_schedule left_after
left-counts k e = rw (ended-none k e) (by-ltb 0 k.left.0 (λ h t. rw t refl) (λ h t. rw t (omega arith)))

left-ticked : (n : ℕ) (k : Schedule) → Ended k → (schedule_ticked n k).left.0 ≡ k.left.0 - n
unfolding schedule_ticked
left-ticked zero k e = omega arith
left-ticked (suc n) k e =
    left-counts (schedule_ticked n k) (ended-ticked n k e) ∙ omega (arith, left-ticked n k e)

-- the tick of a stretch that it fails in
failure-named :
    (j : ℕ) (k : Schedule) (i : ℕ) →
    Ended k →
    0 < i →
    (last_tick fails k j ≡ i) ↔ ((k.left.0 ≡ i) × (i ≤ j))
unfolding last_tick fails
failure-named zero k i e p = (λ z. absurd (omega arith), λ z. absurd (omega arith))
failure-named (suc j) k i e p =
    let l = left-ticked j k e in
    let (f, g) = failure-named j k i e p in
    by_eqb (schedule_ticked j k).left.0 1
    (λ h t. rw t (λ z. (omega arith, omega arith), λ z. omega arith))
    (λ h t. rw t (λ z. let y = f z in (y.0, omega (arith, y.1)), λ z. g (z.0, below l h z.0 z.1)))
  where
    below : {a : ℕ} → a ≡ k.left.0 - j → ¬ (a ≡ 1) → k.left.0 ≡ i → i ≤ suc j → i ≤ j
    below {a} l h z y = by_eqb i (suc j) (λ q _. absurd (h (omega arith))) (λ q _. omega arith)

-- What a count and a mean are of.
abbrev Uncounted : Kind → Model → Model → Type 0
Uncounted differences m n = (n.flight.sum ≡ m.flight.sum) × (n.flight.schedule.good ≡ m.flight.schedule.good)
Uncounted temperatures m n = (n.temperature.sums ≡ m.temperature.sums) × (n.temperature.schedule.good ≡ m.temperature.schedule.good)

-- t ticks after the start, `open` while none is delivered
record Waiting (k : Kind) (m : Model) (undone : Bool) (t : ℕ) (n : Model) : Type 0 where
  ended : Ended (schedule_of k n)
  left : (schedule_of k n).left.0 ≡ pick undone (8192 - t) 0
  counted : Uncounted k m n

both-both : (a b c : Bool) → both (both a b) c ≡ both a (both b c)
both-both true b c = refl
both-both false b c = refl

later-left : (b : Bool) (t j : ℕ) → pick b (8192 - t) 0 - j ≡ pick b (8192 - (t + j)) 0
later-left true t j = omega arith
later-left false t j = omega arith

schedule-ticked : (k : Kind) (j : ℕ) (n : Model) → schedule_of k (model_ticked j n) ≡ schedule_ticked j (schedule_of k n)
schedule-ticked differences j n = flight-schedule j n
schedule-ticked temperatures j n = temperature-schedule j n

uncounted : (k : Kind) (j : ℕ) (m n : Model) → Ended (schedule_of k n) → Uncounted k m n → Uncounted k m (model_ticked j n)
uncounted differences j m n e (s, g) = let (a, b) = ended-sum j n e in (a ∙ s, b ∙ g)
uncounted temperatures j m n e (s, g) = let (a, b) = ended-sums j n e in (a ∙ s, b ∙ g)

module _ (k : Kind) (m : Model) (b : Bool) (t : ℕ) (n : Model) (i : Waiting k m b t n) where
  moved : (j : ℕ) → Waiting k m (both b true) (t + j) (model_ticked j n)
  moved j =
      rw (both-all b)
      (record {
        ended = rw (schedule-ticked k j n) (ended-ticked j (schedule_of k n) i.ended);
        left =
            ap (λ (s : Schedule). s.left.0) (schedule-ticked k j n) ∙ left-ticked j (schedule_of k n) i.ended ∙
            ap (λ x. x - j) i.left ∙ later-left b t j;
        counted = uncounted k j m n i.ended i.counted;
      })

  still : Waiting k m (both b true) (t + 0) n
  still = let z : t + 0 ≡ t = omega arith in rw (both-all b, z) i

settled-schedule :
    (k : Schedule) (g : Bool) → Ended k → Ended (settle k g) × ((settle k g).left.0 ≡ 0) × ((settle k g).good ≡ k.good)
unfolding settle
settled-schedule k g e =
    rw (le-ltb k.settled k.planned e.settled)
    (record { once = e.once; started = e.started; settled = e.settled }, refl, refl)

delivered :
    (k : Kind) (m : Model) (b : Bool) (t : ℕ) (n q : Model) (g : Bool) →
    Waiting k m b t n →
    schedule_of k q ≡ settle (schedule_of k n) g →
    Uncounted k m q →
    Waiting k m (both b false) (t + 0) q
delivered k m b t n q g i s u =
    let (e, l, h) = settled-schedule (schedule_of k n) g i.ended in
    rw (both-none b) (record { ended = rw s e; left = ap (λ (s : Schedule). s.left.0) s ∙ l; counted = u })

-- one call
abbrev noted : Kind → Call → Reply → Bool
noted k c r = either (is_refusal r.answer) (negate (is_delivery k c))

abbrev passed : Call → Reply → ℕ
passed c r = ticks_moved (record { call = c; answer = r.answer })

step :
    (k : Kind) (m : Model) (b : Bool) (t : ℕ) (n : Model) {c : Call} {r : Reply} →
    Step n c r →
    Waiting k m b t n →
    Waiting k m (both b (noted k c r)) (t + passed c r) r.model
unfolding is_refusal number_in is_delivery ticks_moved model_ticked good_flight_model failed_flight_model good_temperature_model failed_temperature_model good_flight failed_flight good_sum good_sums
step k m b t n (refusal c a) i = still k m b t n i
step differences m b t n (reading f o x s e) i =
    let j = still differences m b t n i in record { ended = j.ended; left = j.left; counted = j.counted }
step temperatures m b t n (reading f o x s e) i =
    let j = still temperatures m b t n i in record { ended = j.ended; left = j.left; counted = j.counted }
step k m b t n ticking i = moved k m b t n i 1
step differences m b t n (flight-failed u d a l) i =
    let (e, z, h) = settled-schedule n.flight.schedule false i.ended in
    delivered differences m b t n (failed_flight_model n) false i refl (i.counted.0, h ∙ i.counted.1)
step differences m b t n (flight-good u d a l) i =
    let (e, z, h) = settled-schedule n.flight.schedule true i.ended in
    delivered differences m b t n _ true i refl
    (rw (le-ltb n.flight.schedule.settled n.flight.schedule.planned i.ended.settled) i.counted.0, h ∙ i.counted.1)
step differences m b t n (ports-failed w a l) i =
    let j = still differences m b t n i in record { ended = j.ended; left = j.left; counted = j.counted }
step differences m b t n (ports-good w a l) i =
    let j = still differences m b t n i in record { ended = j.ended; left = j.left; counted = j.counted }
step temperatures m b t n (flight-failed u d a l) i =
    let j = still temperatures m b t n i in record { ended = j.ended; left = j.left; counted = j.counted }
step temperatures m b t n (flight-good u d a l) i =
    let j = still temperatures m b t n i in record { ended = j.ended; left = j.left; counted = j.counted }
step temperatures m b t n (ports-failed w a l) i =
    let (e, z, h) = settled-schedule n.temperature.schedule false i.ended in
    delivered temperatures m b t n _ false i refl (i.counted.0, h ∙ i.counted.1)
step temperatures m b t n (ports-good w a l) i =
    let (e, z, h) = settled-schedule n.temperature.schedule true i.ended in
    delivered temperatures m b t n _ true i refl
    (rw (le-ltb n.temperature.schedule.settled n.temperature.schedule.planned i.ended.settled) i.counted.0, h ∙ i.counted.1)
step k m b t n (stretching j l) i = moved k m b t n i j

all-steps :
    (k : Kind) (m : Model) (cs : List Call) (b : Bool) (t : ℕ) (n : Model) →
    is_sound n ≡ true →
    only_reads (log n cs) ≡ true →
    Waiting k m b t n →
    Waiting k m (both b (undelivered k (log n cs))) (t + tick_count (log n cs)) (after n cs)
unfolding log only_reads undelivered tick_count after
all-steps k m [] b t n v p i = still k m b t n i
all-steps k m (c ∷ cs) b t n v p i =
    let (now, rest) = both_true _ _ p in
    let r : Reply = reply n c in
    let j = all-steps k m cs (both b (noted k c r)) (t + passed c r) r.model (keeps-sound n c v) rest (step k m b t n (stepped n c v now) i) in
    let z : t + passed c r + tick_count (log r.model cs) ≡ t + (passed c r + tick_count (log r.model cs)) = omega arith in
    subst (λ x. Waiting k m (both b (both (noted k c r) (undelivered k (log r.model cs)))) x (after r.model cs)) z
    (subst (λ x. Waiting k m x (t + passed c r + tick_count (log r.model cs)) (after r.model cs))
    (both-both b (noted k c r) (undelivered k (log r.model cs))) j)

-- The start.
by-single : (G : ℕ → Type 0) (k : Kind) (op : ℕ) → single k op ≡ true → (k ≡ differences → G 0 × G 1 × G 2) → (k ≡ temperatures → G 3) → G op
unfolding single
by-single G differences op e f g =
    let (a, b, c) = f refl in
    by_eqb op 0 (λ h _. rw h a)
    (λ n _. by_eqb op 1 (λ h _. rw h b) (λ o _. let z : op ≡ 2 = omega (arith, leb-true op 2 e) in rw z c))
by-single G temperatures op e f g = rw (eqb-true op 3 e) (g refl)

started-left :
    (k : Kind) (m : Model) (op : ℕ) (o x : List ℕ) →
    single k op ≡ true →
    verdict m (command op o x) ≡ accepted →
    (reply m (command op o x)).model ≡ run_model m op
unfolding reply reply_by accepted_model is_command
started-left k m op o x s =
    by-single (λ op. verdict m (command op o x) ≡ accepted → (reply m (command op o x)).model ≡ run_model m op) k op s
    (λ _. (λ v. rw v, λ v. rw v, λ v. rw v)) (λ _ v. rw v)

not-busy :
    (k : Kind) (m : Model) (op : ℕ) (o x : List ℕ) →
    single k op ≡ true →
    verdict m (command op o x) ≡ accepted →
    is_busy m ≡ false
unfolding while_busy command_busy must_be_idle is_command
not-busy k m op o x s v =
    by-single (λ op. while_busy m (command op o x) ≡ false → is_busy m ≡ false) k op s (λ _. (λ e. e, λ e. e, λ e. e)) (λ _ e. e)
    (none-holds m (command op o x) v).row6

idle_ended : (k : Kind) (m : Model) → is_sound m ≡ true → is_busy m ≡ false → Ended (schedule_of k m)
idle_ended differences m s i = ended-flight m s i
idle_ended temperatures m s i = ended-temperature m s i

ended-started : (k : Schedule) → Ended k → Ended (start_single k)
unfolding start_single
ended-started k e = record { once = e.once; started = e.started; settled = e.settled }

flight-waits :
    (m q : Model) →
    Ended m.flight.schedule →
    q.flight.schedule ≡ start_single m.flight.schedule →
    q.flight.sum ≡ m.flight.sum →
    Waiting differences m true 0 q
flight-waits m q e h g =
    record {
      ended = rw h (ended-started m.flight.schedule e);
      left = ap (λ (k : Schedule). k.left.0) h ∙ unfold start_single in refl;
      counted = (g, ap (λ (k : Schedule). k.good) h ∙ unfold start_single in refl);
    }

started-waits : (k : Kind) (m : Model) (op : ℕ) → single k op ≡ true → Ended (schedule_of k m) → Waiting k m true 0 (run_model m op)
unfolding run_model is_event single_started flight_started
started-waits differences m op s e =
    by-single (λ op. Waiting differences m true 0 (run_model m op)) differences op s
    (λ _. (
      flight-waits m (run_model m 0) e refl refl,
      flight-waits m (run_model m 1) e refl refl,
      flight-waits m (run_model m 2) e refl refl,
    ))
    (λ z. absurd (let y : ◌≡◌ {A = ℕ} 0 1 = ap (λ (k : Kind). by_kind k 0 1) z in omega arith))
started-waits temperatures m op s e =
    let z : op ≡ 3 = unfold single in eqb-true op 3 s in
    rw z
    (record {
      ended = ended-started m.temperature.schedule e;
      left = unfold start_single in refl;
      counted = (refl, unfold start_single in refl);
    })

awaited-means : (k : Schedule) → (negate (is_awaited k) ≡ true) ↔ (k.left.0 ≡ 0)
unfolding is_awaited
awaited-means k =
    by-ltb 0 k.left.0 (λ h e. rw e (λ x. absurd (let z : ◌≡◌ {A = ℕ} 0 1 = cc in omega arith), λ x. absurd (omega arith)))
    (λ h e. rw e (λ x. omega arith, λ x. refl))

fails-means : (k : Schedule) → (fails k ≡ true) ↔ (k.left.0 ≡ 1)
unfolding fails
fails-means k = (λ e. eqb-true k.left.0 1 e, λ e. eq-eqb k.left.0 1 e)

named-failure :
    (k : Kind) (m : Model) (j : ℕ) → is_sound m ≡ true → j ≤ 16384 → failed_in k m (stretch j) ≡ last_tick fails (schedule_of k m) j
unfolding values_in progress stretch_report
named-failure differences m j s l = rw (reply-stretch m s j, le-ltb 16384 j l)
named-failure temperatures m j s l = rw (reply-stretch m s j, le-ltb 16384 j l)

counts-read :
    (k : Kind) (m n : Model) →
    Uncounted k m n →
    words_at n (by_kind k 0xE4 0xEF) (by_kind k 3 9) ≡ words_at m (by_kind k 0xE4 0xEF) (by_kind k 3 9)
counts-read differences m n (s, g) = flight-counts m n s g
counts-read temperatures m n (s, g) = temperature-counts m n s g

-- by how many ticks are left
module _ (b : Bool) (t l : ℕ) (e : l ≡ pick b (8192 - t) 0) where
  none_left : (l ≡ 0) ↔ ((b ≡ false) ⊎ (8192 ≤ t))
  none_left =
      by-test b (λ h. (λ z. inr (omega (arith, rw h at e)), ⊎_elim (λ z. absurd (let y : ◌≡◌ {A = ℕ} 0 1 = cc in omega arith)) (λ z. omega (arith, rw h at e))))
      (λ h. (λ z. inl h, λ z. rw h at e))

  some_left : (i : ℕ) → 0 < i → (l ≡ i) ↔ ((b ≡ true) × (t + i ≡ 8192))
  some_left i p =
      by-test b (λ h. (λ z. (h, omega (arith, rw h at e)), λ z. omega (arith, rw h at e, z.1)))
      (λ h. (λ z. absurd (omega (arith, rw h at e)), λ z. absurd (let y : ◌≡◌ {A = ℕ} 0 1 = cc in omega arith)))

single-settles :
    (k : Kind) (m : Model) (c : Call) →
    Ended (schedule_of k m) →
    verdict m c ≡ accepted →
    Settles k m c →
    Set (own_bit k) (reply m c).model × (Set (event_bit k) (reply m c).model → Set (event_bit k) m)
unfolding sets_own_bit in_event is_last
single-settles k m c e v s =
    let n : Model = (reply m c).model in
    let q = settled-bits k m c v s in
    let h = accepted-left m c v in
    let u = le-ltb (schedule_of k m).settled (schedule_of k m).planned e.settled in
    let o : has n.status (own_bit k) ≡ true = rw h (q.own ∙ rw (e.once, u) (turned (has m.status (own_bit k)))) in
    let l : has n.status (event_bit k) ≡ has m.status (event_bit k) = rw h (q.last ∙ rw u (kept (has m.status (event_bit k)))) in
    ((set-means n (own_bit k)).1 o, λ x. (set-means m (event_bit k)).1 (sym l ∙ (set-means n (event_bit k)).0 x))

pub single-claim :
    (k : Kind) (m : Model) (op : ℕ) (o x : List ℕ) (later : List Call) →
    single k op ≡ true →
    Accepts m (command op o x) →
    let n : Model = (reply m (command op o x)).model in
    only_reads (log n later) ≡ true →
    SingleClaim k m (log n later) (after n later)
single-claim k m op o x later s d p =
    let v = accepted-by m (command op o x) d in
    let n : Model = (reply m (command op o x)).model in
    let z : is_sound m ≡ true = (none-holds m (command op o x) v).row0 in
    let y : is_sound n ≡ true = keeps-sound m (command op o x) z in
    let i : Waiting k m true 0 n =
    rw (started-left k m op o x s v) (started-waits k m op s (idle_ended k m z (not-busy k m op o x s v))) in
    let a : Model = after n later in
    let q : is_sound a ≡ true = sound-after later n y in
    let w = all-steps k m later true 0 n y p i in
    let u : Bool = undelivered k (log n later) in
    let t : ℕ = tick_count (log n later) in
    let l : (schedule_of k a).left.0 ≡ pick u (8192 - t) 0 = w.left ∙ ap (λ j. pick u (8192 - j) 0) (zero-add t) in
    record {
      awaited =
          λ c d.
          let (f, g) = number-ten k a c q d in
          let (f1, g1) = awaited-means (schedule_of k a) in
          let (f2, g2) = none_left u t (schedule_of k a).left.0 l in
          (λ e. f2 (f1 (f e)), λ e. g (g1 (g2 e)));
      tick-fails =
          let (f, g) = fails-told k a q in
          let (f1, g1) = fails-means (schedule_of k a) in
          let (f2, g2) = some_left u t (schedule_of k a).left.0 l 1 (omega arith) in
          (λ e. f2 (f1 (f e)), λ e. g (g1 (g2 e)));
      stretch-fails =
          λ j h jl hl.
          let (f, g) = failure-named j (schedule_of k a) h w.ended hl in
          let (f2, g2) = some_left u t (schedule_of k a).left.0 l h hl in
          let r = named-failure k a j q jl in
          (λ e. let (b, c) = f (sym r ∙ e) in let (d, e) = f2 b in (d, e, c), λ (d, e, c). r ∙ g (g2 (d, e), c));
      counts = counts-read k m a w.counted;
      settled = λ c e h. single-settles k a c w.ended (accepted-by a c e) h;
    }
