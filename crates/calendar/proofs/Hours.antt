-- The hours of 31h and 35h in both forms: a word read is the word written, and each hour has one word in each form.
use Prim.Native.Nat.{ℕ, ◌+◌, ◌*◌, ◌/◌, ◌%◌, ◌≤◌}
use mathlib.Core.Bool.{Bool, true, false}
use mathlib.Core.Path.{◌≡◌, refl}
use native.Mathlib.Omega.{arith}
use lib.Dec.{ltb}
use borrow.Author.Tests.{ltb-false, le-ltb, eq-eqb, ne_eqb}
use Rattle.calendar.specs.Words.{bcd, twelve_hour, hour_digits, twelve_in, hour_named, hour_in, hour_fits}
use Rattle.unit.proofs.Cases.{by-leb, by_eqb}
use Rattle.unit.proofs.Joined.{passed, negated}

pub bcd-digits : (x : ℕ) → x ≤ 99 → bcd x ≡ x / 10 * 16 + x % 10
unfolding bcd
bcd-digits x h = omega arith

pub bcd-byte : (x : ℕ) → bcd x ≤ 159
unfolding bcd
bcd-byte x = omega arith

pub hour-byte : (twelve : Bool) (h : ℕ) → hour_digits twelve h ≤ 255
unfolding hour_digits
hour-byte true h =
    by-leb 12 h (λ k e. rw e (omega (arith, bcd-byte (twelve_hour h))))
    (λ k e. rw e (omega (arith, bcd-byte (twelve_hour h))))
hour-byte false h = omega (arith, bcd-byte h)

-- What a word means, bit by bit: in 12-hour form, and in 24-hour form.
abbrev half_named : ℕ → ℕ
half_named w = w / 16 % 2 * 10 + w % 16

abbrev full_named : ℕ → ℕ
full_named w = w / 16 % 4 * 10 + w % 16

pub half-form : (w : ℕ) →
    w / 64 % 2 ≡ 1 →
    (twelve_in w ≡ true) × (hour_named w ≡ half_named w) × (hour_in w ≡ w / 32 % 2 * 12 + half_named w % 12)
unfolding twelve_in hour_named hour_in
half-form w e =
    rw (eq-eqb (w / 64 % 2) 1 e)
    (by_eqb (w / 32 % 2) 1 (λ p f. rw f (refl, refl, omega arith)) (λ p f. rw f (refl, refl, omega arith)))

pub full-form : (w : ℕ) →
    w / 64 % 2 ≡ 0 →
    (twelve_in w ≡ false) × (hour_named w ≡ full_named w) × (hour_in w ≡ full_named w)
unfolding twelve_in hour_named hour_in
full-form w e = rw (ne_eqb (w / 64 % 2) 1 (omega arith)) (refl, refl, refl)

-- Which hours fit: 1 to 12 in 12-hour form, 0 to 23 in 24-hour form.
pub half-fits : (w : ℕ) → w / 64 % 2 ≡ 1 → 1 ≤ half_named w → half_named w ≤ 12 → hour_fits w ≡ true
unfolding hour_fits
half-fits w e l h =
    let (t, n, _) = half-form w e in
    rw (t, n, le-ltb (half_named w) 1 l, le-ltb 12 (half_named w) h)

pub full-fits : (w : ℕ) → w / 64 % 2 ≡ 0 → full_named w ≤ 23 → hour_fits w ≡ true
unfolding hour_fits
full-fits w e h =
    let (t, n, _) = full-form w e in
    rw (t, n, le-ltb 23 (full_named w) h)

-- The hour that a clock of twelve hours shows.
pub half-hour : (h : ℕ) → (1 ≤ twelve_hour h) × (twelve_hour h ≤ 12) × (twelve_hour h % 12 ≡ h % 12)
unfolding twelve_hour
half-hour h = by_eqb (h % 12) 0 (λ z e. rw e (omega arith)) (λ z e. rw e (omega arith))

-- The digits of an hour: in 12-hour form bit 6, PM from noon on, and two digits; in 24-hour form two digits.
pub half-digits : (h : ℕ) →
    h ≤ 23 →
    hour_digits true h ≡ 64 + h / 12 * 32 + (twelve_hour h / 10 * 16 + twelve_hour h % 10)
unfolding hour_digits
half-digits h b =
    rw (bcd-digits (twelve_hour h) (omega (arith, half-hour h)))
    (by-leb 12 h (λ k e. rw e (omega arith)) (λ k e. rw e (omega arith)))

pub full-digits : (h : ℕ) → h ≤ 23 → hour_digits false h ≡ h / 10 * 16 + h % 10
unfolding hour_digits
full-digits h b = bcd-digits h (omega arith)

-- The bits of a word in 12-hour form.
half-bits : (a p t o : ℕ) →
    p ≤ 1 →
    t ≤ 1 →
    o ≤ 9 →
    let w : ℕ = a * 256 + (64 + p * 32 + (t * 16 + o)) in
    (w / 64 % 2 ≡ 1) × (w / 32 % 2 ≡ p) × (w / 16 % 2 ≡ t) × (w % 16 ≡ o)
half-bits a p t o b c d =
    let w : ℕ = a * 256 + (64 + p * 32 + (t * 16 + o)) in
    let e : w / 64 ≡ a * 4 + 1 = omega arith in
    let f : w / 32 ≡ a * 8 + 2 + p = omega arith in
    let g : w / 16 ≡ a * 16 + 4 + p * 2 + t = omega arith in
    (rw e (omega arith), rw f (omega arith), rw g (omega arith), omega arith)

-- What a word says of the hour.
pub record Hour (w : ℕ) (twelve : Bool) (h : ℕ) : Type 0 where
  pub form : twelve_in w ≡ twelve
  pub hour : hour_in w ≡ h
  pub fits : hour_fits w ≡ true
  pub ones : w % 16 ≤ 9

-- "A clock keeps the form it was last written in": an hour's digits in either form, below any high byte, read as that hour
-- in that form.
pub hour-read : (a : ℕ) (twelve : Bool) (h : ℕ) → h ≤ 23 → Hour (a * 256 + hour_digits twelve h) twelve h
hour-read a true h b =
    rw (half-digits h b)
    (let n : ℕ = twelve_hour h in
    let (l, k, m) = half-hour h in
    let w : ℕ = a * 256 + (64 + h / 12 * 32 + (n / 10 * 16 + n % 10)) in
    let (s, p, t, o) = half-bits a (h / 12) (n / 10) (n % 10) (omega arith) (omega arith) (omega arith) in
    let d : half_named w ≡ n = omega arith in
    let (f, _, i) = half-form w s in
    record {
      form = f;
      hour = rw (i, p, d, m) (omega arith);
      fits = half-fits w s (omega arith) (omega arith);
      ones = omega arith;
    })
hour-read a false h b =
    rw (full-digits h b)
    (let w : ℕ = a * 256 + (h / 10 * 16 + h % 10) in
    let q : w / 64 ≡ a * 4 = omega arith in
    let s : w / 64 % 2 ≡ 0 = rw q (omega arith) in
    let r : w / 16 ≡ a * 16 + h / 10 = omega arith in
    let t : w / 16 % 4 ≡ h / 10 = rw r (omega arith) in
    let o : w % 16 ≡ h % 10 = omega arith in
    let (f, _, i) = full-form w s in
    record { form = f; hour = omega arith; fits = full-fits w s (omega arith); ones = omega arith })

-- What fits, as plain bounds.
pub by_form : {G : Type 0} (w : ℕ) → (w / 64 % 2 ≡ 1 → G) → (w / 64 % 2 ≡ 0 → G) → G
by_form w f g = by_eqb (w / 64 % 2) 1 (λ e _. f e) (λ n _. g (omega arith))

pub half-bounds : (w : ℕ) → w / 64 % 2 ≡ 1 → hour_fits w ≡ true → (1 ≤ half_named w) × (half_named w ≤ 12)
unfolding hour_fits
half-bounds w e f =
    let (t, n, _) = half-form w e in
    let (l, r) = passed (ltb (half_named w) 1) (rw (t, n) at f) in
    let h = negated (ltb 12 (half_named w)) r in
    omega (arith, ltb-false)

pub full-bounds : (w : ℕ) → w / 64 % 2 ≡ 0 → hour_fits w ≡ true → full_named w ≤ 23
unfolding hour_fits
full-bounds w e f =
    let (t, n, _) = full-form w e in
    let h = negated (ltb 23 (full_named w)) (rw (t, n) at f) in
    omega (arith, ltb-false)

-- The hour meant is one of the day's, in either form.
pub hour-below : (w : ℕ) → hour_fits w ≡ true → hour_in w ≤ 23
hour-below w f =
    by_form w (λ e. let (_, _, i) = half-form w e in omega arith)
    (λ e. let (_, _, i) = full-form w e in omega (arith, full-bounds w e f))

eighth : (q o : ℕ) → q / 4 % 2 ≡ 1 → 64 + q / 2 % 2 * 32 + (q % 2 * 16 + o) ≡ q % 8 * 16 + o
eighth q o e =
    let a : q / 4 ≡ q / 2 / 2 = omega arith in
    let b : q / 8 ≡ q / 4 / 2 = omega arith in
    let c : q / 4 ≡ q / 8 * 2 + 1 = rw b (omega arith) in
    let d : q / 2 ≡ q / 4 * 2 + q / 2 % 2 = rw a (omega arith) in
    omega arith

fourth : (q : ℕ) → q / 4 % 2 ≡ 0 → q % 4 ≡ q % 8
fourth q e =
    let b : q / 8 ≡ q / 4 / 2 = omega arith in
    let c : q / 4 ≡ q / 8 * 2 = rw b (omega arith) in
    omega arith

half_back : (w : ℕ) →
    w % 16 ≤ 9 →
    w / 64 % 2 ≡ 1 →
    64 + w / 32 % 2 * 32 + (half_named w / 10 * 16 + half_named w % 10) ≡ w % 128
half_back w o e =
    let t : half_named w / 10 ≡ w / 16 % 2 = omega arith in
    let u : half_named w % 10 ≡ w % 16 = omega arith in
    let q : w / 32 ≡ w / 16 / 2 = omega arith in
    let r : w / 64 ≡ w / 16 / 4 = omega arith in
    let g = rw r at e in
    let b : w % 128 ≡ w / 16 % 8 * 16 + w % 16 = omega arith in
    rw (t, u, q, b) (eighth (w / 16) (w % 16) g)

full_back : (w : ℕ) → w % 16 ≤ 9 → w / 64 % 2 ≡ 0 → full_named w / 10 * 16 + full_named w % 10 ≡ w % 128
full_back w o e =
    let t : full_named w / 10 ≡ w / 16 % 4 = omega arith in
    let u : full_named w % 10 ≡ w % 16 = omega arith in
    let r : w / 64 ≡ w / 16 / 4 = omega arith in
    let g = rw r at e in
    let b : w % 128 ≡ w / 16 % 8 * 16 + w % 16 = omega arith in
    rw (t, u, b) (omega (arith, fourth (w / 16) g))

-- The digits written are read back, with bits 15:7 passed over.
pub hour-back : (w : ℕ) → hour_fits w ≡ true → w % 16 ≤ 9 → hour_digits (twelve_in w) (hour_in w) ≡ w % 128
hour-back w f o = by_form w half full
  where
    half : w / 64 % 2 ≡ 1 → hour_digits (twelve_in w) (hour_in w) ≡ w % 128
    half e =
        let (t, _, i) = half-form w e in
        let (l, h) = half-bounds w e f in
        let (a, b, c) = half-hour (hour_in w) in
        let p : hour_in w / 12 ≡ w / 32 % 2 = omega arith in
        let m : hour_in w % 12 ≡ half_named w % 12 = omega arith in
        let n : twelve_hour (hour_in w) ≡ half_named w = omega arith in
        rw (t, half-digits (hour_in w) (hour-below w f), p, n) (half_back w o e)

    full : w / 64 % 2 ≡ 0 → hour_digits (twelve_in w) (hour_in w) ≡ w % 128
    full e =
        let (t, _, i) = full-form w e in
        rw (t, full-digits (hour_in w) (hour-below w f), i) (full_back w o e)
