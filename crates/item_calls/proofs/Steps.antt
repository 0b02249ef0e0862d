-- The frame of a line `set`, word by word, and frames as they stand in their buffer. Assumes nothing.
use Prim.Native.Nat.{ℕ, zero, suc, ◌+◌, ◌*◌, ◌/◌, ◌≤◌, ◌<◌}
use mathlib.Core.Bool.{Bool, true, false}
use mathlib.Core.List.{List, [], ◌∷◌}
use mathlib.Core.Path.{◌≡◌, refl, sym, ap, ◌∙◌}
use native.Mathlib.Nat.{zero-add}
use native.Mathlib.Numerals.{add-one}
use native.Mathlib.Omega.{arith}
use lib.Dec.{eqb, ltb}
use lib.ListN.{length, get_or, take, drop, replicate, drop_of_length-le, length-take}
use lib.Seq.{drop-cons, take-append_seam}
use borrow.Author.Tests.{le-leb}
use Rattle.unit.specs.Choice.{pick}
use Rattle.numeral.specs.Place.{overwrite, next_place, written, Put, Placed, put_each, joined}
use Rattle.numeral.specs.Print.{low_bytes}
use Rattle.numeral.proofs.PlaceLaws.{put-each}
use Rattle.wording.specs.Text.{PutEach}
use Rattle.wording.proofs.Each.{each-then, each-end, put_one}
use Rattle.item_calls.specs.Buffer.{buffer_size}
use Rattle.item_calls.specs.Lines.{word_bytes, write_bytes}

-- A word more is put.
pub bytes_on : (ws : List ℕ) (i : ℕ) → i < length ws → {l l' : List ℕ} {at r : ℕ} {end : Placed}
    → Put l at (low_bytes (get_or ws i 0 / 256 ∷ get_or ws i 0 ∷ [])) r l' → put_each l at (word_bytes (drop i ws)) ≡ end
    → put_each l' r (word_bytes (drop (i + 1) ws)) ≡ end
unfolding word_bytes
bytes_on ws i less {l} {l'} {at} {r} {end} put e =
    let rest = word_bytes (drop (suc i) ws) in
    let whole : put_each l at (low_bytes (get_or ws i 0 / 256 ∷ get_or ws i 0 ∷ []) ∷ rest) ≡ end = rw (drop-cons ws i 0 less) at e in
    rw (add-one i) (sym (each-then rest (put_one put)) ∙ whole)

-- All were put.
pub bytes-end : (ws : List ℕ) (i : ℕ) → length ws ≤ i → {l l' : List ℕ} {at r : ℕ} {ts : List (List ℕ)}
    → put_each l' r (word_bytes (drop i ws)) ≡ put_each l at ts → PutEach l at ts r l'
unfolding word_bytes
bytes-end ws i all e = each-end (rw (drop_of_length-le ws all) at e)

-- Bytes put at a buffer's front are its first ones.
front : (l bs : List ℕ) → take (0 + length bs) (overwrite l 0 bs) ≡ bs
unfolding overwrite
front l bs = rw zero-add (take-append_seam bs (drop (length bs) l))

pub frame-of : {l l' bs : List ℕ} {r : ℕ} → length bs ≤ length l → Put l 0 bs r l' → take r l' ≡ bs
unfolding next_place written
frame-of {l} {l'} {bs} {r} room put = rw (put.next, put.bytes, le-leb (0 + length bs) (length l) (omega arith)) (front l bs)

pub frame-of-parts : {l l' : List ℕ} {ts : List (List ℕ)} {r : ℕ} → length (joined ts) ≤ length l → PutEach l 0 ts r l' → take r l' ≡ joined ts
frame-of-parts {l} {l'} {ts} {r} room put = rw (put.next, put.bytes, put-each ts l 0 (omega arith)) (front l (joined ts))

-- How long they are.
pub length-low : (ws : List ℕ) → length (low_bytes ws) ≡ length ws
unfolding low_bytes
length-low [] = refl
length-low (w ∷ ws) = ap suc (length-low ws)

length-words : (ws : List ℕ) → length (joined (word_bytes ws)) ≡ 2 * length ws
unfolding word_bytes joined low_bytes
length-words [] = refl
length-words (w ∷ ws) = omega (arith, length-words ws)

pub length-write : (a : ℕ) (ws : List ℕ) → length (joined (write_bytes a ws)) ≡ 1 + 2 * length ws
unfolding write_bytes joined low_bytes
length-write a ws = omega (arith, length-words ws)

-- The frames of lines fit their buffers of 200 bytes.
pub bus-fits : (n : ℕ) (ws : List ℕ) → n ≤ 200 → length (low_bytes (take n ws)) ≤ 200
bus-fits n ws h = omega (arith, length-low (take n ws), length-take n ws)

pub set-fits : (a n : ℕ) (ws : List ℕ) → n ≤ 99 → length (joined (write_bytes a (take n ws))) ≤ 200
set-fits a n ws h = omega (arith, length-write a (take n ws), length-take n ws)

-- Places of a buffer that holds one value.
pub take-replicate : (n k v : ℕ) → n ≤ k → take n (replicate k v) ≡ replicate n v
take-replicate zero k v h = refl
take-replicate (suc n) zero v h = absurd (omega arith)
take-replicate (suc n) (suc k) v h = ap (λ (t : List ℕ). v ∷ t) (take-replicate n k v (omega arith))

pick-most : (b : Bool) {x y k : ℕ} → x ≤ k → y ≤ k → pick b x y ≤ k
pick-most true p q = p
pick-most false p q = q

-- And so does the output buffer of a line that does not give it.
pub buffer-fits : (n : ℕ) (ws : List ℕ) → n ≤ 200 → buffer_size (take n ws) ≤ 200
unfolding buffer_size
buffer-fits n ws h =
    let bs = take n ws in
    pick-most (eqb (length bs) 0) (omega arith)
    (pick-most (eqb (get_or bs 0 0) 144) (omega arith)
    (pick-most (ltb (get_or bs 0 0) 176) (omega arith) (omega (arith, length-take n ws))))
