-- Texts that are put one after the other. Assumes nothing.
use Prim.Native.Nat.{ℕ, ◌+◌, ◌≤◌}
use mathlib.Core.List.{List, [], ◌++◌}
use mathlib.Core.Path.{◌≡◌, refl, ◌∙◌}
use native.Mathlib.Nat.{add-zero, add_assoc}
use native.Mathlib.Omega.{arith}
use lib.ListN.{length, length-append}
use borrow.Author.Tests.{le-leb}
use Rattle.numeral.specs.Place.{overwrite, next_place, written, Put}
use Rattle.numeral.proofs.PlaceLaws.{overwrite-nil, overwrite-append, length-overwrite}
use Rattle.text.specs.Text.{Text}
use Rattle.text.specs.OwnPut.{Puts}

-- What `numeral` puts.
pub puts : {l l' : List ℕ} {at r : ℕ} {t : Text} → Put l at t r l' → Puts l at t r l'
unfolding next_place written
puts {l} {l'} {at} {r} {t} p = record {
  next = λ h. rw (le-leb _ _ h) at p.next;
  bytes = λ h. rw (le-leb _ _ h) at p.bytes;
}

-- No text.
pub puts_none : (l : List ℕ) (at : ℕ) → Puts l at [] at l
puts_none l at = record { next = λ h. omega arith; bytes = λ h. rw (overwrite-nil l at) }

-- A text, and one after it.
pub puts_then : {l k l' : List ℕ} {at q r : ℕ} {a b : Text} → Puts l at a q k → Puts k q b r l' → Puts l at (a ++ b) r l'
puts_then {l} {k} {l'} {at} {q} {r} {a} {b} p s =
    let room : at + length (a ++ b) ≤ length l → at + length a + length b ≤ length l = λ h. let g : at + (length a + length b) ≤ length l = rw length-append at h in omega arith in
    let first : at + length (a ++ b) ≤ length l → at + length a ≤ length l = λ h. let g = room h in omega arith in
    let left : at + length (a ++ b) ≤ length l → q + length b ≤ length k =
    λ h. let g = room h in rw (p.next (first h), p.bytes (first h), length-overwrite l at a (first h)) g in
    record {
      next = λ h. s.next (left h) ∙ rw (p.next (first h), length-append, add_assoc);
      bytes = λ h. s.bytes (left h) ∙ rw (p.next (first h), p.bytes (first h)) (overwrite-append l at a b (room h));
    }

-- What `numeral` puts, and a text after it.
pub puts_first : {l k l' : List ℕ} {at q r : ℕ} {a b : Text} → Put l at a q k → Puts k q b r l' → Puts l at (a ++ b) r l'
puts_first p s = puts_then (puts p) s

-- A text, and behind it what `numeral` puts.
pub puts-last : {l k l' : List ℕ} {at q r : ℕ} {a b : Text} → Puts l at a q k → Put k q b r l' → Puts l at (a ++ b) r l'
puts-last p s = puts_then p (puts s)
