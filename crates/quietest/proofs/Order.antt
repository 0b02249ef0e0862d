-- The order of whole numbers by its test. Assumes nothing.
use Prim.Native.Nat.{ℕ, zero, suc}
use native.Mathlib.Omega.{arith}
use mathlib.Core.Path.{◌≡◌, refl, sym, subst}
use mathlib.Core.Bool.{Bool, true, false, not}
use lib.Dec.{T}
use lib.IntN.{ℤ, pos, negsuc, ◌-ℤ◌}
use lib.Signed.{lt_z, non_neg, ◌<ℤ◌, ◌≤ℤ◌, lt_z_yes, lt_z_no}
use borrow.Author.Tests.{lt-ltb, le-ltb, ltb-true, ltb-false}
use Rattle.std.specs.Int.{int_max, int_min}
use Rattle.std.proofs.lemmas.Int.{ints}
use Rattle.unit.proofs.Cases.{by-test}
use Rattle.quietest.specs.Quietest.{larger, smaller}

never : {A : Type 0} → true ≡ false → A
never e = let z : ◌≡◌ {A = ℕ} 0 1 = cc in absurd (omega arith)

pub lt_trans : (a b c : ℤ) → lt_z a b ≡ true → lt_z b c ≡ true → lt_z a c ≡ true
lt_trans (pos a) (pos b) (pos c) h k = lt-ltb a c (omega (arith, ltb-true a b h, ltb-true b c k))
lt_trans (pos a) (pos b) (negsuc c) h k = k
lt_trans (pos a) (negsuc b) (pos c) h k = never (cc)
lt_trans (pos a) (negsuc b) (negsuc c) h k = h
lt_trans (negsuc a) (pos b) (pos c) h k = refl
lt_trans (negsuc a) (pos b) (negsuc c) h k = never (cc)
lt_trans (negsuc a) (negsuc b) (pos c) h k = refl
lt_trans (negsuc a) (negsuc b) (negsuc c) h k = lt-ltb c a (omega (arith, ltb-true b a h, ltb-true c b k))

pub ge_trans : (a b c : ℤ) → lt_z a b ≡ false → lt_z b c ≡ false → lt_z a c ≡ false
ge_trans (pos a) (pos b) (pos c) h k = le-ltb a c (omega (arith, ltb-false a b h, ltb-false b c k))
ge_trans (pos a) (pos b) (negsuc c) h k = refl
ge_trans (pos a) (negsuc b) (pos c) h k = never (cc)
ge_trans (pos a) (negsuc b) (negsuc c) h k = refl
ge_trans (negsuc a) (pos b) (pos c) h k = h
ge_trans (negsuc a) (pos b) (negsuc c) h k = never (cc)
ge_trans (negsuc a) (negsuc b) (pos c) h k = k
ge_trans (negsuc a) (negsuc b) (negsuc c) h k = le-ltb c a (omega (arith, ltb-false b a h, ltb-false c b k))

pub not-below-itself : (a : ℤ) → lt_z a a ≡ false
not-below-itself (pos a) = le-ltb a a (omega arith)
not-below-itself (negsuc a) = le-ltb a a (omega arith)

pub one_way : (a b : ℤ) → lt_z a b ≡ true → lt_z b a ≡ false
one_way (pos a) (pos b) h = le-ltb b a (omega (arith, ltb-true a b h))
one_way (pos a) (negsuc b) h = never (cc)
one_way (negsuc a) (pos b) h = refl
one_way (negsuc a) (negsuc b) h = le-ltb a b (omega (arith, ltb-true b a h))

pub below-at-most : (a b c : ℤ) → lt_z a b ≡ true → lt_z c b ≡ false → lt_z a c ≡ true
below-at-most (pos a) (pos b) (pos c) h k = lt-ltb a c (omega (arith, ltb-true a b h, ltb-false c b k))
below-at-most (pos a) (pos b) (negsuc c) h k = never (cc)
below-at-most (pos a) (negsuc b) c h k = never (cc)
below-at-most (negsuc a) (pos b) (pos c) h k = refl
below-at-most (negsuc a) (pos b) (negsuc c) h k = never (cc)
below-at-most (negsuc a) (negsuc b) (pos c) h k = refl
below-at-most (negsuc a) (negsuc b) (negsuc c) h k = lt-ltb c a (omega (arith, ltb-true b a h, ltb-false b c k))

-- the order as the library states it

pub less : (a b : ℤ) → lt_z a b ≡ true → a <ℤ b
less a b e = lt_z_yes (subst T (sym e) tt)

pub at_most : (a b : ℤ) → lt_z b a ≡ false → a ≤ℤ b
at_most a b e = lt_z_no (subst (λ (t : Bool). T (not t)) (sym e) tt)

-- a number less one that is not larger has no sign
pub no_less : (a b : ℤ) → lt_z a b ≡ false → non_neg (a -ℤ b) ≡ true
no_less (pos a) (pos zero) e = refl
no_less (pos a) (pos (suc b)) e = rw e
no_less (pos a) (negsuc b) e = refl
no_less (negsuc a) (pos zero) e = cc
no_less (negsuc a) (pos (suc b)) e = cc
no_less (negsuc a) (negsuc b) e = rw (le-ltb (suc b) (suc a) (omega (arith, ltb-false b a e)))

level : (a b : ℤ) → lt_z a b ≡ false → lt_z b a ≡ false → b ≡ a
level a b h k = omega (arith, ints)

-- the library's choices between two values
pub larger-max : (a b : ℤ) → int_max a b ≡ larger a b
unfolding larger
larger-max a b =
    by-test (lt_z a b)
    (λ t. rw (t, one_way a b t))
    (λ t. by-test (lt_z b a) (λ u. rw (t, u)) (λ u. rw (t, u) (level a b t u)))

pub smaller-min : (a b : ℤ) → int_min a b ≡ smaller a b
unfolding smaller
smaller-min a b = by-test (lt_z b a) (λ t. rw t) (λ t. rw t)
