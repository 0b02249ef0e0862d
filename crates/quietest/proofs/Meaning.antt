-- What the definitions mean: the spread of a run, the quietest run, the number of a refusal, and the part. Assumes nothing.
use Prim.Native.Nat.{ℕ, zero, suc, ◌+◌, ◌-◌, ◌≤◌, ◌<◌}
use native.Mathlib.Nat.{add-zero, zero-add, eq-or-lt_of_le, le_of_suc-le-suc}
use native.Mathlib.Omega.{arith}
use mathlib.Core.Path.{◌≡◌, refl, sym, ap, ◌∙◌}
use mathlib.Core.Bool.{Bool, true, false}
use mathlib.Core.Logic.{◌↔◌, ◌⊎◌, ⊎_elim}
use mathlib.Core.List.{List, [], ◌∷◌}
use lib.IntN.{ℤ, pos, negsuc, nat_abs, ◌-ℤ◌}
use lib.Signed.{lt_z, non_neg, ◌<ℤ◌, ◌≤ℤ◌, clash_ℤ}
use lib.ListN.{length, take, drop, length-take, length-drop}
use lib.Seq.{get_or-take, get_or-drop}
use denote.Ref.{Bor}
use Rattle.unit.proofs.Cases.{by-test, by-ltb}
use Rattle.quietest.specs.Quietest.{value_at, larger, smaller, extreme, largest, smallest, spread, quieter, quietest_place}
use Rattle.quietest.specs.Quietest.{run_spread, number_given, PartOf, Handed}
use Rattle.std.specs.Prelude.{Result, Ok, Err}
use Rattle.refusal.specs.declared.Refusal.{Refusal}
use Rattle.refusal.specs.Number.{number, number_told, values_told, value_told}
use Rattle.quietest.proofs.Order.{ge_trans, not-below-itself, one_way, below-at-most, less, at_most, no_less}
use Rattle.quietest.proofs.Join.{further}
use Rattle.quietest.proofs.Inside.{by_width, not-refused, none, place-within, apart, same_start}

-- ---- an extreme is one of the run's values, and none of them is beyond it

-- k is a place of the run whose value is the extreme x
pub record Reached (values : List ℤ) (from n : ℕ) (x : ℤ) : Type 0 where
  pub place : ℕ
  pub inside : place < n
  pub value : x ≡ value_at values (from + place)

module _ (beyond : ℤ → ℤ → Bool)
    (itself : (a : ℤ) → beyond a a ≡ false)
    (once : (a b : ℤ) → beyond a b ≡ true → beyond b a ≡ false)
    (down : (a b c : ℤ) → beyond a b ≡ false → beyond b c ≡ false → beyond a c ≡ false) where
  over_first : (a b : ℤ) → beyond (further beyond a b) a ≡ false
  over_first a b = by-test (beyond a b) (λ e. rw e (once a b e)) (λ e. rw e (itself a))

  over-second : (a b : ℤ) → beyond (further beyond a b) b ≡ false
  over-second a b = by-test (beyond a b) (λ e. rw e (itself b)) (λ e. rw e e)

  extreme-over : (values : List ℤ) (from n k : ℕ) → k < n → beyond (extreme (further beyond) values from n) (value_at values (from + k)) ≡ false
  unfolding extreme
  extreme-over values from zero k h = absurd (omega arith)
  extreme-over values from (suc n) k h =
      let e = extreme (further beyond) values from n in
      ⊎_elim
      (λ s. rw s (over-second e (value_at values (from + n))))
      (λ l. down _ e _ (over_first e (value_at values (from + n))) (extreme-over values from n k l))
      (eq-or-lt_of_le (le_of_suc-le-suc h))

  extreme-reached : (values : List ℤ) (from n : ℕ) → Reached values from (suc n) (extreme (further beyond) values from (suc n))
  unfolding extreme
  extreme-reached values from zero =
      record { place = 0; inside = omega arith; value = by-test (beyond (value_at values from) (value_at values (from + 0))) (λ e. rw e) (λ e. rw (e, add-zero from)) }
  extreme-reached values from (suc n) =
      let e = extreme (further beyond) values from (suc n) in
      let r = extreme-reached values from n in
      by-test (beyond e (value_at values (from + suc n)))
      (λ t. record { place = suc n; inside = omega arith; value = rw t })
      (λ t. record { place = r.place; inside = omega (arith, r.inside); value = rw t r.value })

-- ---- the spread of a run of at least one value: its largest value less its smallest

pub record LargestLessSmallest (values : List ℤ) (from n : ℕ) (d : ℤ) : Type 0 where
  pub high : Reached values from n (largest values from n)
  pub low : Reached values from n (smallest values from n)
  pub difference : d ≡ value_at values (from + high.place) -ℤ value_at values (from + low.place)
  pub highest : (k : ℕ) → k < n → value_at values (from + k) ≤ℤ value_at values (from + high.place)
  pub lowest : (k : ℕ) → k < n → value_at values (from + low.place) ≤ℤ value_at values (from + k)

largest-reached : (values : List ℤ) (from n : ℕ) → Reached values from (suc n) (largest values from (suc n))
unfolding larger
largest-reached = extreme-reached lt_z not-below-itself one_way ge_trans

smallest-reached : (values : List ℤ) (from n : ℕ) → Reached values from (suc n) (smallest values from (suc n))
unfolding smaller
smallest-reached = extreme-reached (λ a b. lt_z b a) not-below-itself (λ a b. one_way b a) (λ a b c h k. ge_trans c b a k h)

largest-over : (values : List ℤ) (from n k : ℕ) → k < n → lt_z (largest values from n) (value_at values (from + k)) ≡ false
unfolding larger
largest-over = extreme-over lt_z not-below-itself one_way ge_trans

smallest-under : (values : List ℤ) (from n k : ℕ) → k < n → lt_z (value_at values (from + k)) (smallest values from n) ≡ false
unfolding smaller
smallest-under = extreme-over (λ a b. lt_z b a) not-below-itself (λ a b. one_way b a) (λ a b c h k. ge_trans c b a k h)

pub spread-means : (values : List ℤ) (from n : ℕ) → LargestLessSmallest values from (suc n) (spread values from (suc n))
unfolding spread
spread-means values from n =
    let high = largest-reached values from n in
    let low = smallest-reached values from n in
    record {
      high = high;
      low = low;
      difference = ap (λ (x : ℤ). x -ℤ smallest values from (suc n)) high.value ∙ ap (λ (x : ℤ). value_at values (from + high.place) -ℤ x) low.value;
      highest = λ k h. rw (← high.value) (at_most (value_at values (from + k)) (largest values from (suc n)) (largest-over values from (suc n) k h));
      lowest = λ k h. rw (← low.value) (at_most (smallest values from (suc n)) (value_at values (from + k)) (smallest-under values from (suc n) k h));
    }

pub largest-not-less : (values : List ℤ) (from n : ℕ) → 0 < n → lt_z (largest values from n) (smallest values from n) ≡ false
largest-not-less values from n h =
    ge_trans (largest values from n) (value_at values (from + 0)) (smallest values from n) (largest-over values from n 0 h) (smallest-under values from n 0 h)

pub spread-of-none : (run : List ℤ) → length run ≡ 0 → run_spread run ≡ 0
unfolding run_spread spread extreme
spread-of-none [] h = refl
spread-of-none (x ∷ xs) h = absurd (omega arith)

size_of : (z : ℤ) → non_neg z ≡ true → pos (nat_abs z) ≡ z
size_of (pos n) h = refl
size_of (negsuc n) h = let z : ◌≡◌ {A = ℕ} 0 1 = cc in absurd (omega arith)

-- what is printed of a run that was handed back is the spread that it was chosen by
pub same-value : (values : List ℤ) (start w k : ℕ) → k < w → value_at (take w (drop start values)) k ≡ value_at values (start + k)
same-value values start w k h = get_or-take w (drop start values) k (pos 0) h ∙ get_or-drop start values k (pos 0)

same-extreme :
    (f : ℤ → ℤ → ℤ) (values : List ℤ) (start w n : ℕ) →
    0 < w →
    n ≤ w →
    extreme f (take w (drop start values)) 0 n ≡ extreme f values start n
unfolding extreme
same-extreme f values start w zero p h = rw (same-value values start w 0 p, add-zero start)
same-extreme f values start w (suc n) p h =
    rw (same-extreme f values start w n p (omega arith), zero-add n, same-value values start w n (omega arith))

pub printed-spread :
    (values : List ℤ) (start w : ℕ) →
    0 < w →
    start + w ≤ length values →
    pos (run_spread (take w (drop start values))) ≡ spread values start w
unfolding run_spread spread
printed-spread values start w p h =
    let n : length (take w (drop start values)) ≡ w = rw (length-take, length-drop) (omega arith) in
    rw (n, same-extreme larger values start w w p (omega arith), same-extreme smaller values start w w p (omega arith))
    (size_of (spread values start w) (no_less (largest values start w) (smallest values start w) (largest-not-less values start w p)))

-- ---- the quietest run

least-so-far :
    (values : List ℤ) (w n other : ℕ) → other ≤ n → lt_z (spread values other w) (spread values (quieter values w 0 1 n) w) ≡ false
unfolding quieter
least-so-far values w zero other h = let z : other ≡ 0 = omega arith in rw z (not-below-itself (spread values 0 w))
least-so-far values w (suc n) other h =
    let best = quieter values w 0 1 n in
    by-test (lt_z (spread values (1 + n) w) (spread values best w))
    (λ t. rw t (⊎_elim
    (λ e. let s : other ≡ 1 + n = omega arith in rw s (not-below-itself (spread values (1 + n) w)))
    (λ l. one_way (spread values (1 + n) w) (spread values other w)
    (below-at-most (spread values (1 + n) w) (spread values best w) (spread values other w) t (least-so-far values w n other (omega arith))))
    (eq-or-lt_of_le h)))
    (λ t. rw t (⊎_elim
    (λ e. let s : other ≡ 1 + n = omega arith in rw s t)
    (λ l. least-so-far values w n other (omega arith))
    (eq-or-lt_of_le h)))

earliest-so-far :
    (values : List ℤ) (w n other : ℕ) → other < quieter values w 0 1 n
    → lt_z (spread values (quieter values w 0 1 n) w) (spread values other w) ≡ true
unfolding quieter
earliest-so-far values w zero other = λ h. absurd (omega arith)
earliest-so-far values w (suc n) other =
    let best = quieter values w 0 1 n in
    by-test (lt_z (spread values (1 + n) w) (spread values best w))
    (λ t. rw t (λ h. below-at-most (spread values (1 + n) w) (spread values best w) (spread values other w) t (least-so-far values w n other (omega arith))))
    (λ t. rw t (λ h. earliest-so-far values w n other h))

pub record Quietest (values : List ℤ) (w start : ℕ) : Type 0 where
  pub within : start + w ≤ length values
  -- "Every other run of w has at least that spread"
  pub least : (other : ℕ) → other + w ≤ length values → spread values start w ≤ℤ spread values other w
  -- "the earliest among equals"
  pub earliest : (other : ℕ) → other < start → spread values start w <ℤ spread values other w

-- the place that an answer says
at_place : (p : Result ℕ Refusal) {start : ℕ} → value_told p ≡ start ∷ [] → p ≡ Ok start
at_place (Err r) e = none e
at_place (Ok s) e = cc

pub quietest-run : (values : List ℤ) (w start : ℕ) → value_told (quietest_place values w) ≡ start ∷ [] → Quietest values w start
quietest-run values w start p =
    by_width values w (λ o e. apart (sym (at_place _ p) ∙ e)) (λ h k e. run h k e)
  where
    run : 1 ≤ w → w ≤ length values → quietest_place values w ≡ Ok (quieter values w 0 1 (length values - w)) → Quietest values w start
    run h k e =
        let n = length values - w in
        let s : start ≡ quieter values w 0 1 n = same_start (sym (at_place _ p) ∙ e) in
        record {
          within = place-within values w start (at_place _ p);
          least = λ other i. rw s (at_most (spread values (quieter values w 0 1 n) w) (spread values other w) (least-so-far values w n other (omega arith)));
          earliest = λ other i. rw s (less (spread values (quieter values w 0 1 n) w) (spread values other w) (earliest-so-far values w n other (omega arith)));
        }

-- these three facts leave one start
pub quietest-only : (values : List ℤ) (w a b : ℕ) → Quietest values w a → Quietest values w b → a ≡ b
quietest-only values w a b p q =
    by-ltb a b (λ l t. clash_ℤ (q.earliest a l) (p.least b q.within))
    (λ l t. by-ltb b a (λ m u. clash_ℤ (p.earliest b m) (q.least a p.within)) (λ m u. omega arith))

-- ---- number 18, exactly for a width of 0 or above the length

pub number-18 : (values : List ℤ) (w : ℕ) → (number_told (quietest_place values w) ≡ 18 ∷ []) ↔ ((w ≡ 0) ⊎ (length values < w))
number-18 values w =
    by_width values w (λ o e. (λ _. o, λ _. ap number_told e))
    (λ h k e. (λ n. none (sym (ap number_told e) ∙ n), λ o. not-refused h k o))

pub no_number : (values : List ℤ) (w : ℕ) → (number_told (quietest_place values w) ≡ []) ↔ ((1 ≤ w) × (w ≤ length values))
no_number values w =
    by_width values w (λ o e. (λ n. none (sym n ∙ ap number_told e), λ p. not-refused p.0 p.1 o))
    (λ h k e. (λ _. (h, k), λ _. ap number_told e))

pub only-number : (values : List ℤ) (w n : ℕ) → number_told (quietest_place values w) ≡ n ∷ [] → n ≡ 18
only-number values w n p =
    by_width values w (λ o e. same (sym p ∙ ap number_told e)) (λ h k e. none (sym (ap number_told e) ∙ p))
  where
    same : {a b : ℕ} → a ∷ [] ≡ b ∷ [] → a ≡ b
    same f = cc

-- ---- the part and the number that the call hands back: w values, the list's own, and 0; or no value, and 18

module _ (s r : Bor (List ℤ)) (w start : ℕ) (part : PartOf s r start w) where
  pub part-values : (k : ℕ) → k < w → value_at r.now k ≡ value_at s.now (start + k)
  part-values k h = rw (part.elements, get_or-take, get_or-drop)

  pub part_length : start + w ≤ length s.now → length r.now ≡ w
  part_length i = rw part.elements (simp (length-take, length-drop) (omega arith))

module _ (s r : Bor (List ℤ)) (w number : ℕ) (handed : Handed (quietest_place s.now w) w s r)
    (given : number ≡ number_given (quietest_place s.now w)) where
  abbrev Refuses : Type 0
  Refuses = (w ≡ 0) ⊎ (length s.now < w)

  by_number : {G : Type 0}
      → (Refuses → number ≡ 18 → PartOf s r 0 0 → G)
      → (1 ≤ w → w ≤ length s.now → number ≡ 0 → (start : ℕ) → Quietest s.now w start → PartOf s r start w → G)
      → G
  by_number f g =
      by_width s.now w
      (λ o e. f o (given ∙ ap number_given e) (rw e at handed))
      (λ h k e. g h k (given ∙ ap number_given e) _ (quietest-run s.now w _ (ap value_told e)) (rw e at handed))

  pub eighteen-given : (number ≡ 18) ↔ Refuses
  eighteen-given =
      by_number (λ o e p. (λ _. o, λ _. e)) (λ h k e start q p. (λ n. absurd (omega arith), λ o. not-refused h k o))

  pub zero-given : (number ≡ 0) ↔ ((1 ≤ w) × (w ≤ length s.now))
  zero-given =
      by_number (λ o e p. (λ n. absurd (omega arith), λ q. not-refused q.0 q.1 o)) (λ h k e start q p. (λ _. (h, k), λ _. e))

  pub run-handed : number ≡ 0 → (start : ℕ) × Quietest s.now w start × PartOf s r start w
  run-handed z = by_number (λ o e p. absurd (omega arith)) (λ h k e start q p. (start, q, p))

  pub empty-handed : number ≡ 18 → PartOf s r 0 0
  empty-handed n = by_number (λ o e p. p) (λ h k e start q p. absurd (omega arith))

  pub empty-refused : (length r.now ≡ 0) ↔ (number ≡ 18)
  empty-refused =
      by_number (λ o e p. (λ _. e, λ _. rw p.elements))
      (λ h k e start q p. (λ z. absurd (omega (arith, part_length s r w start p q.within)), λ n. absurd (omega arith)))
