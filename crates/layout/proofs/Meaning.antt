-- Numbers and models survive being stored and loaded, and bytes that load are those that `store` writes.
use Prim.Native.Nat.{ℕ, zero, suc, ◌+◌, ◌-◌, ◌*◌, ◌^◌, ◌/◌, ◌%◌, ◌≤◌, ◌<◌}
use native.Mathlib.Nat.{mul-zero}
use native.Mathlib.Omega.{arith}
use mathlib.Core.List.{List, [], ◌∷◌, ◌++◌, append_assoc}
use mathlib.Core.Path.{◌≡◌, refl, sym, ap, subst, ◌∙◌}
use lib.ListN.{length, get_or, take, drop, length-drop}
use lib.Seq.{take_at, drop_at, take-add, length-take-le}
use mir.Syntax.{Width}
use mir.Val.{Fits, bits}
use Rattle.layout.specs.Number.{bound, bytes_of, value, all_bytes, numbers}
use Rattle.layout.specs.Fits.{Below, none, more}
use Rattle.layout.proofs.Loops.{length-bytes}

-- A number below the bound of its width is read back, ..
value-bytes : (k x : ℕ) → x < bound k → value (bytes_of k x) ≡ x
unfolding bytes_of value bound
value-bytes zero x h = omega arith
value-bytes (suc k) x h =
    let e : value (bytes_of k (x / 256)) ≡ x / 256 = value-bytes k (x / 256) (omega arith) in
    omega arith

-- .. and so are several, one after the other
pub numbers-all :
    (k : ℕ) (xs r : List ℕ) → Below (bound k) xs → numbers k (length xs) (all_bytes k xs ++ r) ≡ xs
unfolding numbers all_bytes
numbers-all k [] r none = refl
numbers-all k (x ∷ xs) r (more h hs) =
    let e : length (bytes_of k x) ≡ k = length-bytes k x in
    let f : bytes_of k x ++ all_bytes k xs ++ r ≡ bytes_of k x ++ (all_bytes k xs ++ r) = append_assoc (bytes_of k x) (all_bytes k xs) r in
    rw (f, take_at (bytes_of k x) (all_bytes k xs ++ r) k e, drop_at (bytes_of k x) (all_bytes k xs ++ r) k e, value-bytes k x h, numbers-all k xs r hs)

-- Bytes are those of their number, ..
bytes-value : (l : List ℕ) → Below 256 l → bytes_of (length l) (value l) ≡ l
unfolding bytes_of value
bytes-value [] none = refl
bytes-value (b ∷ l) (more h hs) =
    let e : (b + 256 * value l) % 256 ≡ b = omega arith in
    let f : (b + 256 * value l) / 256 ≡ value l = omega arith in
    rw (e, f, bytes-value l hs)

below-take : (n k : ℕ) (l : List ℕ) → Below n l → Below n (take k l)
below-take n zero l b = none
below-take n (suc k) [] b = none
below-take n (suc k) (x ∷ l) (more h b) = more h (below-take n k l b)

pub below-drop : (n k : ℕ) (l : List ℕ) → Below n l → Below n (drop k l)
below-drop n zero l b = b
below-drop n (suc k) [] b = none
below-drop n (suc k) (x ∷ l) (more h b) = below-drop n k l b

-- .. and so are several
pub all-numbers :
    (k n : ℕ) (l : List ℕ) → k * n ≤ length l → Below 256 l → all_bytes k (numbers k n l) ≡ take (k * n) l
unfolding all_bytes numbers
all-numbers k zero l h b = rw mul-zero
all-numbers k (suc n) l h b =
    let p : k + k * n ≡ k * suc n = omega arith in
    let e : length (take k l) ≡ k = length-take-le k l (omega arith) in
    let one : bytes_of k (value (take k l)) ≡ take k l = ap (λ (j : ℕ). bytes_of j (value (take k l))) (sym e) ∙ bytes-value (take k l) (below-take 256 k l b) in
    let rest : all_bytes k (numbers k n (drop k l)) ≡ take (k * n) (drop k l) = all-numbers k n (drop k l) (rw length-drop (omega arith)) (below-drop 256 k l b) in
    rw (one, rest) (sym (take-add k (k * n) l) ∙ ap (λ (j : ℕ). take j l) p)

pub length-numbers : (k n : ℕ) (l : List ℕ) → length (numbers k n l) ≡ n
unfolding numbers
length-numbers k zero l = refl
length-numbers k (suc n) l = ap suc (length-numbers k n (drop k l))

-- the elements of an array, each of its type's width
pub below-fit :
    (w : Width) (n : ℕ) (xs : List ℕ) → 2 ^ bits w ≡ n → ((i : ℕ) → Fits w (get_or xs i 0)) → Below n xs
below-fit w n [] e h = none
below-fit w n (x ∷ xs) e h = more {x = x} {xs = xs} (subst (λ (m : ℕ). x < m) e (h 0).fits) (below-fit w n xs e (λ i. h (suc i)))
