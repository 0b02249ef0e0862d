-- What the library says of a number's bytes, of a slice's chunks and of a test of each byte, in the layout's words.
use Prim.Native.Nat.{ℕ, zero, suc, ◌+◌, ◌*◌, ◌/◌, ◌%◌, ◌^◌, ◌-◌, ◌≤◌, ◌<◌}
use native.Mathlib.Nat.{mul-zero}
use native.Mathlib.Numerals.{add-one}
use native.Mathlib.Omega.{arith}
use mathlib.Core.Bool.{Bool, true, false}
use mathlib.Core.List.{List, [], ◌∷◌, ◌++◌, append_assoc}
use mathlib.Core.Path.{◌≡◌, refl, sym, ap, ◌∙◌}
use lib.ListN.{length, get_or, take, drop, length-drop}
use lib.Seq.{sets, sets-eq, drop-drop, length-take-le, take_all, get_or-take, get_or-drop}
use borrow.Rule.Slice.PartMut.{put_mid}
use mir.Syntax.{w16, w32, w64}
use Rattle.std.specs.Int.{byte_at, bytes_low_first, from_le_bytes}
use Rattle.std.specs.Simd.{first_chunks}
use Rattle.std.proofs.Math.Nat.{div-div-eq-div-mul, pow-suc}
use Rattle.layout.specs.Number.{bytes_of, value}
use Rattle.std.specs.List.{AllWithin, HoldsAt}
use Rattle.std.specs.Prelude.{MatchBool}
use Rattle.layout.specs.Layout.{flags_fit}
use Rattle.layout.proofs.Loops.{length-bytes, flag-fits, flag-misfits}

-- ---- the bytes of a number

byte-is : (i x : ℕ) → byte_at i x ≡ x / 256 ^ i % 256
byte-is zero x = omega arith
byte-is (suc i) x = refl

low-first : (i k x : ℕ) → bytes_low_first i k x ≡ bytes_of k (x / 256 ^ i)
unfolding bytes_of
low-first i zero x = refl
low-first i (suc k) x =
    let e : x / 256 ^ suc i ≡ x / 256 ^ i / 256 = ap (λ (n : ℕ). x / n) (pow-suc 256 i) ∙ sym (div-div-eq-div-mul x (256 ^ i) 256) in
    rw (byte-is i x, low-first (suc i) k x, e)

pub written : (k x : ℕ) → bytes_low_first 0 k x ≡ bytes_of k x
written k x = low-first 0 k x ∙ ap (bytes_of k) (omega arith)

-- ---- the number of some bytes

pub value_2 : (bs : List ℕ) → length bs ≡ 2 → from_le_bytes w16 bs ≡ value bs
unfolding value
value_2 [] h = absurd (omega arith)
value_2 (a ∷ []) h = absurd (omega arith)
value_2 (a ∷ b ∷ []) h = omega arith
value_2 (a ∷ b ∷ c ∷ bs) h = absurd (omega arith)

pub value_4 : (bs : List ℕ) → length bs ≡ 4 → from_le_bytes w32 bs ≡ value bs
unfolding value
value_4 [] h = absurd (omega arith)
value_4 (a ∷ []) h = absurd (omega arith)
value_4 (a ∷ b ∷ []) h = absurd (omega arith)
value_4 (a ∷ b ∷ c ∷ []) h = absurd (omega arith)
value_4 (a ∷ b ∷ c ∷ d ∷ []) h = omega arith
value_4 (a ∷ b ∷ c ∷ d ∷ e ∷ bs) h = absurd (omega arith)

pub value_8 : (bs : List ℕ) → length bs ≡ 8 → from_le_bytes w64 bs ≡ value bs
unfolding value
value_8 [] h = absurd (omega arith)
value_8 (a ∷ []) h = absurd (omega arith)
value_8 (a ∷ b ∷ []) h = absurd (omega arith)
value_8 (a ∷ b ∷ c ∷ []) h = absurd (omega arith)
value_8 (a ∷ b ∷ c ∷ d ∷ []) h = absurd (omega arith)
value_8 (a ∷ b ∷ c ∷ d ∷ e ∷ []) h = absurd (omega arith)
value_8 (a ∷ b ∷ c ∷ d ∷ e ∷ f ∷ []) h = absurd (omega arith)
value_8 (a ∷ b ∷ c ∷ d ∷ e ∷ f ∷ g ∷ []) h = absurd (omega arith)
value_8 (a ∷ b ∷ c ∷ d ∷ e ∷ f ∷ g ∷ i ∷ []) h = omega arith
value_8 (a ∷ b ∷ c ∷ d ∷ e ∷ f ∷ g ∷ i ∷ j ∷ bs) h = absurd (omega arith)

-- ---- a chunk of a slice

chunk-at : (k n : ℕ) (l : List ℕ) (i : ℕ) (d : List ℕ) → i < n → get_or (first_chunks k n l) i d ≡ take k (drop (k * i) l)
chunk-at k zero l i d h = absurd (omega arith)
chunk-at k (suc n) l zero d h = rw mul-zero
chunk-at k (suc n) l (suc i) d h =
    let e : k + k * i ≡ k * suc i = omega arith in
    chunk-at k n (drop k l) i d (omega arith) ∙ rw (drop-drop (k * i) k l, e)

-- what is past a place
abbrev pub rest : ℕ → List ℕ → List ℕ
rest at l = take (length l - at) (drop at l)

pub rest-is : (at : ℕ) (l : List ℕ) → rest at l ≡ drop at l
rest-is at l = take_all (length l - at) (drop at l) (omega (arith, length-drop at l))

-- the number that is read from chunk i of what is past a place
pub read-chunk :
    (k at : ℕ) (from : List ℕ → ℕ) (l : List ℕ) (i : ℕ) (d : List ℕ) {chunks : List (List ℕ)} {x : ℕ} →
    ((bs : List ℕ) → length bs ≡ k → from bs ≡ value bs) →
    chunks ≡ first_chunks k (length (rest at l) / k) (rest at l) →
    i < length (rest at l) / k →
    at + k * i + k ≤ length l →
    x ≡ from (get_or chunks i d) →
    x ≡ value (take k (drop (at + k * i) l))
read-chunk k at from l i d same front less room e =
    let c : get_or (first_chunks k (length (rest at l) / k) (rest at l)) i d ≡ take k (drop (at + k * i) l) =
    chunk-at k (length (rest at l) / k) (rest at l) i d less
    ∙ ap (λ (r : List ℕ). take k (drop (k * i) r)) (rest-is at l)
    ∙ ap (take k) (drop-drop (k * i) at l)
    in
    let long : length (take k (drop (at + k * i) l)) ≡ k = length-take-le k (drop (at + k * i) l) (rw length-drop (omega arith)) in
    e ∙ ap (λ (cs : List (List ℕ)). from (get_or cs i d)) front ∙ ap from c ∙ same _ long

-- ---- a number's bytes copied to a place

pub copied :
    (k at x : ℕ) (l : List ℕ) {bs : List ℕ} → at + k ≤ length l → bs ≡ bytes_of k x
    → put_mid at (at + k - at) l bs ≡ sets l at (bytes_of k x)
copied k at x l {bs} room e =
    let n : length (bytes_of k x) ≡ k = length-bytes k x in
    let m : at + k - at ≡ k = omega arith in
    let whole : sets l at (bytes_of k x) ≡ take at l ++ bytes_of k x ++ drop (at + length (bytes_of k x)) l =
    sets-eq (bytes_of k x) l at (omega arith)
    in
    rw (e, m, whole, n, append_assoc, ← drop-drop k at l)

-- ---- the flags, as the library tests them all

abbrev flags : List ℕ → List ℕ
flags l = take 18 (drop 1 l)

flag-is : (l : List ℕ) (k : ℕ) → k < 18 → get_or (flags l) k 0 ≡ get_or l (k + 1) 0
flag-is l k h = get_or-take 18 (drop 1 l) k 0 h ∙ get_or-drop 1 l k 0 ∙ ap (λ (n : ℕ). get_or l n 0) (omega arith)

all-fit : (l : List ℕ) → ((k : ℕ) → k < 18 → get_or l (k + 1) 0 < 2) → (n : ℕ) → n ≤ 18 → flags_fit l n ≡ true
unfolding flags_fit
all-fit l f zero h = refl
all-fit l f (suc n) h = ap (flags_fit l) (sym (add-one n)) ∙ flag-fits l n (all-fit l f n (omega arith)) (f n (omega arith))

pub flags-answered :
    (l : List ℕ) (r : Bool) → length l ≡ 233
    → MatchBool r (AllWithin (λ x. x < 2) (flags l) 0 (length (flags l))) ((k : ℕ) × (k < length (flags l)) × HoldsAt (λ x. 2 ≤ x) (flags l) k)
    → r ≡ flags_fit l 18
flags-answered l true e all =
    let long : length (flags l) ≡ 18 = length-take-le 18 (drop 1 l) (omega (arith, length-drop 1 l)) in
    sym (all-fit l (λ k h. rw (← flag-is l k h) (all k 0 (omega arith) (omega arith))) 18 (omega arith))
flags-answered l false e some =
    let long : length (flags l) ≡ 18 = length-take-le 18 (drop 1 l) (omega (arith, length-drop 1 l)) in
    let k = some.0 in
    let h : k < 18 = omega (arith, some.1) in
    flag-misfits l k 18 h (rw (← flag-is l k h) (some.2 0))
