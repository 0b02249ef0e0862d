-- Lines one after the other. Assumes nothing.
use Prim.Native.Nat.{ℕ, suc, ◌+◌, ◌*◌, ◌≤◌, ◌<◌}
use mathlib.Core.Path.{◌≡◌, refl, ap, ◌∙◌}
use mathlib.Core.List.{List, [], ◌∷◌, ◌++◌, append_assoc, append-nil}
use native.Mathlib.Omega.{arith}
use native.Mathlib.Nat.{add-zero, mul-le-mul_right}
use native.Mathlib.Numerals.{add-one}
use lib.IntN.{ℤ, pos, nat_abs}
use lib.ListN.{length, take, get_or, length-append}
use lib.Seq.{take_all, take-suc, length-take-le}
use Rattle.numeral.specs.Digit.{digits}
use Rattle.numeral.specs.Place.{overwrite, Put, Placed, put_each, joined}
use Rattle.numeral.specs.Print.{nanoseconds}
use Rattle.numeral.proofs.DigitLaws.{length_digits}
use Rattle.numeral.proofs.PlaceLaws.{overwrite-append, put-each, put-each-first}
use Rattle.listing.specs.Listing.{sign, right_justified, line, line_length, lines}
use Rattle.listing.proofs.Time.{time-fits, length-justified}

pub line-length : (d capture : ℕ) (x : ℤ) → nat_abs x ≤ 2147483648 → length (line d capture x) ≡ line_length d
unfolding line line_length
line-length d capture x h =
    let time = right_justified 12 (nanoseconds (nat_abs x)) in
    let twelve : length time ≡ 12 = length-justified 12 (nanoseconds (nat_abs x)) (time-fits (nat_abs x) h) in
    rw (length-append, length_digits, length-append, twelve) (omega arith)

-- the four parts of a line, put one after the other
module _ (l : List ℕ) (at d capture : ℕ) (x : ℤ) where
  parts : List (List ℕ)
  parts = digits 16 d capture ∷ (32 ∷ sign x ∷ []) ∷ right_justified 12 (nanoseconds (nat_abs x)) ∷ (10 ∷ []) ∷ []

  joined-parts : joined parts ≡ line d capture x
  unfolding parts joined line
  joined-parts = refl

  pub put-line : nat_abs x ≤ 2147483648 → at + line_length d ≤ length l → {m r₁ r₂ r₃ r₄ : ℕ} {y : ℤ} {l₁ l₂ l₃ l₄ : List ℕ} → y ≡ x → m ≡ nat_abs y
      → Put l at (digits 16 d capture) r₁ l₁ → Put l₁ r₁ (32 ∷ sign y ∷ []) r₂ l₂ → Put l₂ r₂ (right_justified 12 (nanoseconds m)) r₃ l₃ → Put l₃ r₃ (10 ∷ []) r₄ l₄
      → l₄ ≡ overwrite l at (line d capture x)
  unfolding parts put_each
  put-line few room {m} {r₁} {r₂} {r₃} {r₄} {y} {l₁} {l₂} {l₃} {l₄} read size number signed time end =
      let fits : at + length (joined parts) ≤ length l = rw (joined-parts, line-length d capture x few) room in
      let time' = right_justified 12 (nanoseconds (nat_abs x)) in
      let timed : Put l₂ r₂ (right_justified 12 (nanoseconds (nat_abs x))) r₃ l₃ = rw (size, read) at time in
      let signs : Put l₁ r₁ (32 ∷ sign x ∷ []) r₂ l₂ = rw read at signed in
      ap (λ (p : Placed). p.bytes)
      (put-each-first l₃ r₃ (10 ∷ []) [] end ∙ put-each-first l₂ r₂ time' ((10 ∷ []) ∷ []) timed ∙ put-each-first l₁ r₁ _ (time' ∷ (10 ∷ []) ∷ []) signs ∙ put-each-first l at _ ((32 ∷ sign x ∷ []) ∷ time' ∷ (10 ∷ []) ∷ []) number ∙ put-each parts l at fits)
      ∙ ap (overwrite l at) joined-parts

pub no_lines : (d first : ℕ) → length (lines d first []) ≡ 0
unfolding lines
no_lines d first = refl

lines_snoc : (d first : ℕ) (xs : List ℤ) (x : ℤ) → lines d first (xs ++ (x ∷ [])) ≡ lines d first xs ++ line d (first + length xs) x
unfolding lines
lines_snoc d first [] x = rw (append-nil, add-zero)
lines_snoc d first (y ∷ xs) x =
    let next : first + 1 + length xs ≡ first + suc (length xs) = omega arith in
    rw (lines_snoc d (first + 1) xs x, next, append_assoc)

-- One line more, after the lines of the first i differences.
module _ (d first : ℕ) (ds : List ℤ) (i : ℕ) (less : i < length ds) where
  abbrev x : ℤ
  x = get_or ds i (pos 0)

  next-lines : lines d first (take (i + 1) ds) ≡ lines d first (take i ds) ++ line d (first + i) x
  next-lines = let few : i ≤ length ds = omega arith in rw (add-one, take-suc ds i (pos 0), lines_snoc, length-take-le i ds few)

  module _ (few : nat_abs x ≤ 2147483648) (before : length (lines d first (take i ds)) ≡ i * line_length d) where
    pub next-length : length (lines d first (take (i + 1) ds)) ≡ (i + 1) * line_length d
    next-length = rw (next-lines, length-append, before, line-length d (first + i) x few) (omega arith)

    pub next-bytes : (out₀ : List ℕ) {out l : List ℕ} → i * line_length d + line_length d ≤ length out₀ → out ≡ overwrite out₀ 0 (lines d first (take i ds))
        → {at : ℕ} {y : ℤ} → at ≡ i * line_length d → y ≡ x → l ≡ overwrite out at (line d (first + i) y) → l ≡ overwrite out₀ 0 (lines d first (take (i + 1) ds))
    next-bytes out₀ room e place read f =
        let fits : 0 + length (lines d first (take i ds)) + length (line d (first + i) x) ≤ length out₀ = omega (arith, line-length d (first + i) x few) in
        let start : 0 + length (lines d first (take i ds)) ≡ i * line_length d = omega arith in
        f ∙ rw (place, read, e, next-lines, ← start) (overwrite-append out₀ 0 (lines d first (take i ds)) (line d (first + i) x) fits)

pub all_lines : (d first : ℕ) (ds : List ℤ) {n : ℕ} → length ds ≤ n → lines d first (take n ds) ≡ lines d first ds
all_lines d first ds {n} h = rw (take_all n ds)

-- the last line has room where all have
pub room_for : (size i n m : ℕ) → i < n → n * size ≤ m → i * size + size ≤ m
room_for size i n m h room = let next : i + 1 ≤ n = omega arith in omega (arith, mul-le-mul_right size next)

pub length-is : (d : ℕ) → line_length d ≡ d + 15
unfolding line_length
length-is d = refl
