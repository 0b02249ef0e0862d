-- Texts put one after the other. Assumes nothing.
use Prim.Native.Nat.{ℕ}
use mathlib.Core.List.{List, [], ◌∷◌, ◌++◌}
use mathlib.Core.Path.{◌≡◌, refl, ap}
use Rattle.numeral.specs.Place.{next_place, written, Put, Placed, put_each}
use Rattle.wording.specs.Text.{PutEach}

each_append : (ts us : List (List ℕ)) (l : List ℕ) (at : ℕ)
    → put_each l at (ts ++ us) ≡ put_each (put_each l at ts).bytes (put_each l at ts).next us
unfolding put_each
each_append [] us l at = refl
each_append (t ∷ ts) us l at = each_append ts us (written l at t) (next_place l at t)

-- What is left to put, when some texts were put.
pub each-then : {l l' : List ℕ} {at r : ℕ} {ts : List (List ℕ)} (us : List (List ℕ))
    → PutEach l at ts r l' → put_each l at (ts ++ us) ≡ put_each l' r us
each-then {l} {l'} {at} {r} {ts} us p = rw (each_append ts us l at, ← p.next, ← p.bytes)

-- Nothing is left.
pub each-end : {l l' : List ℕ} {at r : ℕ} {ts : List (List ℕ)} → put_each l' r [] ≡ put_each l at ts → PutEach l at ts r l'
unfolding put_each
each-end e = record { next = ap (λ (p : Placed). p.next) e; bytes = ap (λ (p : Placed). p.bytes) e }

-- No text.
pub put-none : (l : List ℕ) (at : ℕ) → PutEach l at [] at l
unfolding put_each
put-none l at = record { next = refl; bytes = refl }

-- One text.
pub put_one : {l l' t : List ℕ} {at r : ℕ} → Put l at t r l' → PutEach l at (t ∷ []) r l'
unfolding put_each
put_one p = record { next = p.next; bytes = p.bytes }

-- Texts, and those after them.
pub put_then : {l l' l'' : List ℕ} {at r r' : ℕ} {ts us : List (List ℕ)}
    → PutEach l at ts r l' → PutEach l' r us r' l'' → PutEach l at (ts ++ us) r' l''
put_then {l} {l'} {l''} {at} {r} {r'} {ts} {us} p q =
    record {
      next = rw (each_append ts us l at, ← p.next, ← p.bytes) q.next;
      bytes = rw (each_append ts us l at, ← p.next, ← p.bytes) q.bytes;
    }

-- A text, and those after it.
pub put_first : {l l' l'' t : List ℕ} {at r r' : ℕ} {us : List (List ℕ)}
    → Put l at t r l' → PutEach l' r us r' l'' → PutEach l at (t ∷ us) r' l''
unfolding put_each
put_first p q = record { next = rw (p.next, p.bytes) at q.next; bytes = rw (p.next, p.bytes) at q.bytes }
