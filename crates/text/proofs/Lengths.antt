-- How long texts are. Assumes nothing.
use Prim.Native.Nat.{ℕ, zero, suc, ◌+◌, ◌/◌, ◌≤◌}
use native.Mathlib.Omega.{arith}
use mathlib.Core.Bool.{Bool, true, false}
use mathlib.Core.List.{List, [], ◌∷◌, ◌++◌}
use mathlib.Core.Path.{◌≡◌, refl}
use lib.ListN.{length, length-append}
use Rattle.unit.specs.Choice.{pick}
use Rattle.unit.proofs.Cases.{by-ltb}
use Rattle.numeral.specs.Ascii.{ascii}
use Rattle.numeral.specs.Print.{width_from, decimal_width, decimal}
use Rattle.numeral.proofs.PrintLaws.{length-decimal}
use Rattle.text.specs.Text.{Text, ended, ended_each, spaced_each, spaced, text_where}

width-most : (k v : ℕ) → width_from k v ≤ suc k
unfolding width_from
width-most zero v = omega arith
width-most (suc k) v = by-ltb v 10 (λ h e. rw e (omega arith)) (λ h e. rw e (omega (arith, width-most k (v / 10))))

-- No decimal has more than 20 digits.
pub decimal-most : (v : ℕ) → length (decimal v) ≤ 20
unfolding decimal_width
decimal-most v = rw (length-decimal v) (width-most 19 v)

-- The longer of two.
pub pick-most : (t : Bool) (a b : Text) (n : ℕ) → length a ≤ n → length b ≤ n → length (pick t a b) ≤ n
pick-most true a b n h k = h
pick-most false a b n h k = k

pub where-most : (t : Bool) (a : Text) → length (text_where t a) ≤ length a
unfolding text_where
where-most t a = pick-most t a [] (length a) (omega arith) (omega arith)

-- Texts after blanks, and lines: none, one before others, and some before others.
pub spaced-none : length (spaced_each []) ≡ 0
unfolding spaced_each
spaced-none = refl

pub spaced-first : (t : Text) (ts : List Text) → length (spaced_each (t ∷ ts)) ≡ suc (length t + length (spaced_each ts))
unfolding spaced_each ascii
spaced-first t ts = rw length-append (omega arith)

pub spaced-both : (ts us : List Text) → length (spaced_each (ts ++ us)) ≡ length (spaced_each ts) + length (spaced_each us)
spaced-both [] us = rw spaced-none (omega arith)
spaced-both (t ∷ ts) us = rw (spaced-first t (ts ++ us), spaced-first t ts) (omega (arith, spaced-both ts us))

pub lines_none : length (ended_each []) ≡ 0
unfolding ended_each
lines_none = refl

pub lines-first : (t : Text) (ts : List Text) → length (ended_each (t ∷ ts)) ≡ suc (length t + length (ended_each ts))
unfolding ended_each ended
lines-first t ts = rw (length-append, length-append) (omega arith)

pub lines-both : (ts us : List Text) → length (ended_each (ts ++ us)) ≡ length (ended_each ts) + length (ended_each us)
lines-both [] us = rw lines_none (omega arith)
lines-both (t ∷ ts) us = rw (lines-first t (ts ++ us), lines-first t ts) (omega (arith, lines-both ts us))

-- Words parted by one blank have one blank less.
pub spaced-most : (ts : List Text) → length (spaced ts) ≤ length (spaced_each ts)
unfolding spaced
spaced-most [] = omega arith
spaced-most (t ∷ ts) = rw (length-append, spaced-first) (omega arith)

pub spaced-least : (ts : List Text) → length (spaced_each ts) ≤ suc (length (spaced ts))
unfolding spaced
spaced-least [] = rw spaced-none (omega arith)
spaced-least (t ∷ ts) = rw (length-append, spaced-first) (omega arith)
