-- Runs joined, and starts tried one group after the other. Assumes nothing.
use Prim.Native.Nat.{ℕ, zero, suc, ◌+◌, ◌-◌, ◌≤◌}
use native.Mathlib.Omega.{arith}
use native.Mathlib.Nat.{add-zero, add-suc, add_assoc}
use mathlib.Core.Path.{◌≡◌, refl, sym, ap, ◌∙◌}
use mathlib.Core.Bool.{Bool, true, false}
use mathlib.Core.List.{List}
use lib.IntN.{ℤ}
use lib.Signed.{lt_z}
use Rattle.unit.specs.Choice.{pick}
use Rattle.unit.proofs.Cases.{by-test}
use Rattle.quietest.specs.Quietest.{value_at, larger, smaller, extreme, spread, quieter}
use Rattle.quietest.specs.Search.{extremes_of, joined, spread_of, found, better}
use Rattle.quietest.specs.declared.extremes.Extremes.{Extremes}
use Rattle.quietest.specs.declared.search.Found.{Found}
use Rattle.quietest.proofs.Order.{lt_trans, ge_trans}

-- ---- the further of two values, by a test that says whether the second is further

abbrev pub further : (ℤ → ℤ → Bool) → ℤ → ℤ → ℤ
further beyond a b = pick (beyond a b) b a

abbrev Assoc : (ℤ → ℤ → ℤ) → Type 0
Assoc f = (a b c : ℤ) → f (f a b) c ≡ f a (f b c)

further-assoc :
    (beyond : ℤ → ℤ → Bool)
    → ((a b c : ℤ) → beyond a b ≡ true → beyond b c ≡ true → beyond a c ≡ true)
    → ((a b c : ℤ) → beyond a b ≡ false → beyond b c ≡ false → beyond a c ≡ false)
    → Assoc (further beyond)
further-assoc beyond up down a b c =
    by-test (beyond a b)
    (λ h. by-test (beyond b c) (λ k. rw (h, k, up a b c h k)) (λ k. rw (h, k, h)))
    (λ h. by-test (beyond b c) (λ k. rw (h, k)) (λ k. rw (h, k, h, down a b c h k)))

pub larger-assoc : Assoc larger
unfolding larger
larger-assoc = further-assoc lt_z lt_trans ge_trans

pub smaller-assoc : Assoc smaller
unfolding smaller
smaller-assoc = further-assoc (λ a b. lt_z b a) (λ a b c h k. lt_trans c b a k h) (λ a b c h k. ge_trans c b a k h)

itself : (t : Bool) (a : ℤ) → pick t a a ≡ a
itself true a = refl
itself false a = refl

pub larger-itself : (a : ℤ) → larger a a ≡ a
unfolding larger
larger-itself a = itself (lt_z a a) a

pub smaller-itself : (a : ℤ) → smaller a a ≡ a
unfolding smaller
smaller-itself a = itself (lt_z a a) a

-- ---- the extreme of two neighbouring runs

pub extreme-join :
    (f : ℤ → ℤ → ℤ) → Assoc f → ((a : ℤ) → f a a ≡ a) → (values : List ℤ) (from m n : ℕ)
    → extreme f values from (m + suc n) ≡ f (extreme f values from m) (extreme f values (from + m) (suc n))
unfolding extreme
extreme-join f assoc same values from m zero =
    rw (add-suc m 0, add-zero m, add-zero (from + m), same (value_at values (from + m)))
extreme-join f assoc same values from m (suc n) =
    rw (add-suc m (suc n), extreme-join f assoc same values from m n, ← add_assoc from m (suc n), assoc _ _ (value_at values (from + m + suc n)))

-- ---- starts in two groups

pub quieter-join :
    (values : List ℤ) (w s from m n : ℕ)
    → quieter values w s from (m + n) ≡ quieter values w (quieter values w s from m) (from + m) n
unfolding quieter
quieter-join values w s from m zero = rw (add-zero m)
quieter-join values w s from m (suc n) =
    rw (add-suc m n, quieter-join values w s from m n, ← add_assoc from m n)

-- ---- one more start

pub better-found :
    (values : List ℤ) (w s start : ℕ)
    → better (found values w s) start (spread values start w) ≡ found values w (quieter values w s start 1)
unfolding quieter
better-found values w s start =
    rw (add-zero start)
    (by-test (lt_z (spread values start w) (spread values s w)) (λ e. rw e) (λ e. rw e))

-- ---- the extremes of two neighbouring runs, as the code joins them

by-fields : {r : Extremes} {x y : ℤ} → r.high ≡ x → r.low ≡ y → r ≡ record { high = x; low = y }
by-fields p q = λ i. record { high = p i; low = q i }

pub extremes-join :
    (values : List ℤ) (from m n place total : ℕ) {a b r : Extremes} → place ≡ from + m → total ≡ m + n → 1 ≤ n
    → a ≡ extremes_of values from m → b ≡ extremes_of values place n
    → r ≡ joined a b
    → r ≡ extremes_of values from total
extremes-join values from m zero place total p t h ea eb er = absurd (omega arith)
extremes-join values from m (suc n) place total p t h ea eb er =
    by-fields
    (ap (λ (e : Extremes). e.high) er ∙ rw (ea, eb, p, t) (sym (extreme-join larger larger-assoc larger-itself values from m n)))
    (ap (λ (e : Extremes). e.low) er ∙ rw (ea, eb, p, t) (sym (extreme-join smaller smaller-assoc smaller-itself values from m n)))

-- ---- what the search finds at one start, and at the starts of two halves

pub one-start :
    (values : List ℤ) (w from count : ℕ) {shared : Extremes} {best r : Found} {d : ℤ} → count ≡ 1
    → shared ≡ extremes_of values (from + count - 1) (w + 1 - count) → best ≡ found values w best.start
    → d ≡ spread_of shared → r ≡ better best from d
    → r ≡ found values w (quieter values w best.start from count)
unfolding spread
one-start values w from count {best} one es eb ed er =
    let a : from + count - 1 ≡ from = omega arith in
    let b : w + 1 - count ≡ w = omega arith in
    let d-is : _ ≡ spread values from w = ed ∙ rw (es, a, b) in
    er ∙ rw (d-is, one) (ap (λ (f : Found). better f from (spread values from w)) eb ∙ better-found values w best.start from)

pub two-groups :
    (values : List ℤ) (w s from half count : ℕ) {next r : Found} → half ≤ count
    → next ≡ found values w (quieter values w s from half)
    → r ≡ found values w (quieter values w next.start (from + half) (count - half))
    → r ≡ found values w (quieter values w s from count)
two-groups values w s from half count h en er =
    let a : half + (count - half) ≡ count = omega arith in
    er ∙ rw en (ap (found values w) (sym (quieter-join values w s from half (count - half)) ∙ ap (quieter values w s from) a))

pub found-itself : (values : List ℤ) (w s : ℕ) {r : Found} → r ≡ found values w s → r ≡ found values w r.start
found-itself values w s e = e ∙ ap (λ (f : Found). found values w f.start) (sym e)

-- ---- the whole search: the first start, each group after those before it, and all of them

pub first-start :
    (values : List ℤ) (w : ℕ) {whole : Extremes} {d : ℤ} → whole ≡ extremes_of values 0 w → d ≡ spread_of whole
    → ◌≡◌ {A = Found} (record { start = 0; spread = d }) (found values w (quieter values w 0 1 0))
unfolding quieter spread
first-start values w ew ed = ap (λ (x : ℤ). record { start = 0; spread = x }) (ed ∙ rw ew)

pub next-group :
    (values : List ℤ) (w from count : ℕ) {best r : Found} → 1 ≤ from
    → best ≡ found values w (quieter values w 0 1 (from - 1)) → r ≡ found values w (quieter values w best.start from count)
    → r ≡ found values w (quieter values w 0 1 (from + count - 1))
next-group values w from count {best} h eb er =
    let a : from ≡ 1 + (from - 1) = omega arith in
    let b : count ≡ from + count - 1 - (from - 1) = omega arith in
    two-groups values w 0 1 (from - 1) (from + count - 1) (omega arith) eb
    (er ∙ ap (λ (x : ℕ). found values w (quieter values w best.start x count)) a
    ∙ ap (λ (x : ℕ). found values w (quieter values w best.start (1 + (from - 1)) x)) b)
