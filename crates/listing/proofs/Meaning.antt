-- What the definitions mean: a line's parts, the lines of a list, and the two numbers. Assumes nothing.
use Prim.Native.Nat.{ℕ, zero, suc, ◌+◌, ◌-◌, ◌*◌, ◌/◌, ◌%◌, ◌^◌, ◌≤◌, ◌<◌}
use mathlib.Core.Path.{◌≡◌, refl, sym, ap, ◌∙◌}
use mathlib.Core.Bool.{Bool, true, false}
use mathlib.Core.Logic.{◌↔◌, ◌⊎◌, inl, inr}
use mathlib.Core.List.{List, [], ◌∷◌, ◌++◌}
use native.Mathlib.Nat.{zero-mul, zero-add, add-zero}
use native.Mathlib.Omega.{arith}
use lib.IntN.{ℤ, pos, nat_abs}
use lib.Signed.{lt_z}
use lib.ListN.{length, take, drop, get_or, replicate, length-append}
use lib.Seq.{take_at, drop-append-add, take-append_seam, drop-append_seam}
use borrow.Author.Tests.{le-ltb, leb-true, le-leb}
use Rattle.unit.proofs.Cases.{by-test, by-ltb, fails}
use Rattle.numeral.specs.Digit.{are_digits, value_of, glyph, digits}
use Rattle.numeral.specs.Print.{width_from, decimal_width, decimal, ten_thousandths, four_decimals, nanoseconds}
use Rattle.numeral.proofs.DigitLaws.{length_digits, are-digits, value-digits}
use Rattle.numeral.specs.Print.{Nearest}
use Rattle.numeral.proofs.PrintLaws.{rounded, four-decimals-value, decimal-first, length-decimal}
use Rattle.listing.specs.Listing.{sign, right_justified, line, line_length, lines, last_above, Outcome, refused, written, listing}
use Rattle.listing.proofs.Time.{time-fits, length-time}
use Rattle.listing.proofs.Sequence.{line-length}
use Rattle.std.specs.Prelude.{Result, Ok, Err}
use Rattle.refusal.specs.declared.Refusal.{Refusal}
use Rattle.refusal.specs.Number.{number, number_told, values_told, value_told}

-- ---- a line, part by part

pub record Parts : Type 0 where
  pub number : List ℕ
  pub sign : ℕ
  pub blanks : ℕ
  pub whole : List ℕ
  pub decimals : List ℕ

-- "a capture number .., a blank, a minus or a blank, then nanoseconds right-justified .. with four decimals", and the line feed
abbrev pub together : Parts → List ℕ
together p = p.number ++ (32 ∷ p.sign ∷ (replicate p.blanks 32 ++ (p.whole ++ (46 ∷ p.decimals))) ++ (10 ∷ []))

-- the nanoseconds printed, in ten-thousandths
abbrev pub printed : Parts → ℕ
printed p = value_of 10 0 (p.whole ++ p.decimals)

-- The parts of the line of a capture and a difference x, the capture number having d digits.
pub record Says (d capture : ℕ) (x : ℤ) (p : Parts) : Type 0 where
  pub number_length : length p.number ≡ d
  pub number_digits : are_digits 16 p.number ≡ true
  pub number_value : value_of 16 0 p.number ≡ capture
  pub minus : lt_z x (pos 0) ≡ true → p.sign ≡ 45
  pub plus : lt_z x (pos 0) ≡ false → p.sign ≡ 32
  pub twelve : p.blanks + (length p.whole + (1 + length p.decimals)) ≡ 12
  pub four : length p.decimals ≡ 4
  pub time_digits : (are_digits 10 p.whole ≡ true) × (are_digits 10 p.decimals ≡ true)
  -- "rounded to the nearest ten-thousandth, halves away from zero"
  pub nearest : Nearest (nat_abs x) (printed p)
  -- "a single 0 before the point when below 1"
  pub single : printed p < 10000 → p.whole ≡ 48 ∷ []
  -- and no 0 before another digit
  pub leading : 10000 ≤ printed p → 10 ^ (length p.whole - 1) ≤ printed p / 10000

abbrev parts_of : ℕ → ℕ → ℤ → Parts
parts_of d capture x =
    let n = ten_thousandths (nat_abs x) in
    record {
      number = digits 16 d capture;
      sign = sign x;
      blanks = 12 - length (nanoseconds (nat_abs x));
      whole = decimal (n / 10000);
      decimals = digits 10 4 (n % 10000);
    }

pub line-parts : (d capture : ℕ) (x : ℤ) → line d capture x ≡ together (parts_of d capture x)
unfolding line right_justified nanoseconds four_decimals
line-parts d capture x = refl

decimal-digits : (v : ℕ) → are_digits 10 (decimal v) ≡ true
unfolding decimal
decimal-digits v = are-digits 10 (omega arith) (omega arith) (decimal_width v) v

below_one : (v : ℕ) → v ≡ 0 → decimal v ≡ 48 ∷ []
unfolding decimal decimal_width width_from digits glyph
below_one v e = rw e

time-small : (q : ℕ) → q ≤ 2147483648 → ten_thousandths q < 2 ^ 64
unfolding ten_thousandths
time-small q h = omega arith

pub line-says : (d capture : ℕ) (x : ℤ) → capture < 16 ^ d → nat_abs x ≤ 2147483648
    → (p : Parts) × (line d capture x ≡ together p) × Says d capture x p
unfolding sign
line-says d capture x low few =
    let n = ten_thousandths (nat_abs x) in
    let small = time-small (nat_abs x) few in
    let value : value_of 10 0 (decimal (n / 10000) ++ digits 10 4 (n % 10000)) ≡ n = four-decimals-value n small in
    let width = length-decimal (n / 10000) in (
      parts_of d capture x,
      line-parts d capture x,
      record {
        number_length = length_digits 16 d capture;
        number_digits = are-digits 16 (omega arith) (omega arith) d capture;
        number_value = value-digits 16 (omega arith) (omega arith) d 0 capture low ∙ rw (zero-mul, zero-add);
        minus = λ e. rw e;
        plus = λ e. rw e;
        twelve = omega (arith, time-fits (nat_abs x) few, length-time (nat_abs x), width, length_digits 10 4 (n % 10000));
        four = length_digits 10 4 (n % 10000);
        time_digits = (decimal-digits (n / 10000), are-digits 10 (omega arith) (omega arith) 4 (n % 10000));
        nearest = rw value (rounded (nat_abs x));
        single = λ h. below_one (n / 10000) (omega arith);
        leading = λ h. rw (width, value) (decimal-first (n / 10000) (omega arith) (omega arith));
      },
    )

-- ---- the lines of a list

-- each difference is one of 32 bits
abbrev pub Fit : List ℤ → Type 0
Fit ds = (k : ℕ) → k < length ds → nat_abs (get_or ds k (pos 0)) ≤ 2147483648

pub lines-length : (d first : ℕ) (ds : List ℤ) → Fit ds → length (lines d first ds) ≡ length ds * line_length d
unfolding lines
lines-length d first [] fit = omega arith
lines-length d first (x ∷ ds) fit =
    rw (length-append, line-length d first x (fit 0 (omega arith)), lines-length d (first + 1) ds (λ k h. fit (suc k) (omega arith))) (omega arith)

-- the i-th line is that of the i-th difference, and its capture is the first and i
pub line_at : (d first : ℕ) (ds : List ℤ) (i : ℕ) → Fit ds → i < length ds
    → take (line_length d) (drop (i * line_length d) (lines d first ds)) ≡ line d (first + i) (get_or ds i (pos 0))
unfolding lines
line_at d first [] i fit h = absurd (omega arith)
line_at d first (x ∷ ds) zero fit h =
    rw (zero-mul, add-zero) (take_at (line d first x) (lines d (first + 1) ds) (line_length d) (line-length d first x (fit 0 h)))
line_at d first (x ∷ ds) (suc i) fit h =
    let size = line-length d first x (fit 0 (omega arith)) in
    let past : suc i * line_length d ≡ length (line d first x) + i * line_length d = omega arith in
    let next : first + suc i ≡ first + 1 + i = omega arith in
    rw (past, drop-append-add, next) (line_at d (first + 1) ds i (λ k k<. fit (suc k) (omega arith)) (omega arith))

-- ---- the answers

-- "when the last capture is above FF", or above the largest number of d digits
abbrev pub Above : ℕ → ℕ → ℕ → Type 0
Above d first n = (0 < n) × (16 ^ d ≤ first + (n - 1))

above-means : (d first n : ℕ) → (last_above d first n ≡ true) ↔ Above d first n
unfolding last_above
above-means d first zero = fails false (λ a. omega (arith, a.0))
above-means d first (suc n) =
    let one : suc n - 1 ≡ n = omega arith in
    (λ e. (omega arith, rw one (leb-true (16 ^ d) (first + n) e)), λ a. le-leb (16 ^ d) (first + n) (rw one at a.1))

apart : {t : Bool} → t ≡ true → ¬ (t ≡ false)
apart p q = let z : ◌≡◌ {A = ℕ} 0 1 = cc in omega arith

-- what an answer says, of a refusal and of lines written
refused_says : (r : Refusal) (out : List ℕ) {o : Outcome} → o ≡ refused r out → (number_told o.answer ≡ number r ∷ []) × (value_told o.answer ≡ [])
refused_says r out s = (ap (λ (p : Outcome). number_told p.answer) s, ap (λ (p : Outcome). value_told p.answer) s)

written-says : (text out : List ℕ) {o : Outcome} → o ≡ written text out → (number_told o.answer ≡ []) × (value_told o.answer ≡ length text ∷ [])
written-says text out s = (ap (λ (p : Outcome). number_told p.answer) s, ap (λ (p : Outcome). value_told p.answer) s)

says_nothing : {n : ℕ} {G : Type 0} → [] ≡ n ∷ [] → G
says_nothing e = let z : ◌≡◌ {A = ℕ} 0 1 = ap length e in absurd (omega arith)

says_same : {a b : ℕ} → a ∷ [] ≡ b ∷ [] → a ≡ b
says_same e = cc

left : {o p : Outcome} → o ≡ p → o.bytes ≡ p.bytes
left s = ap (λ (o : Outcome). o.bytes) s

module _ (d : ℕ) (ds : List ℤ) (first : ℕ) (out : List ℕ) where
  abbrev done : Outcome
  done = listing d ds first out

  by-outcome : {G : Type 0}
      → (Above d first (length ds) → done ≡ refused Refusal.LastCapture out → G)
      → (¬ Above d first (length ds) → length out < length ds * line_length d → done ≡ refused Refusal.ShortListing out → G)
      → (¬ Above d first (length ds) → length ds * line_length d ≤ length out → done ≡ written (lines d first ds) out → G)
      → G
  unfolding listing
  by-outcome f g h =
      let means = above-means d first (length ds) in
      by-test (last_above d first (length ds)) (λ e. f (means.0 e) (rw e))
      (λ e. let low : ¬ Above d first (length ds) = λ a. apart (means.1 a) e in
      by-ltb (length out) (length ds * line_length d) (λ l t. g low l (rw (e, t))) (λ l t. h low l (rw (e, t))))

  pub twenty-exactly : (number_told done.answer ≡ 20 ∷ []) ↔ Above d first (length ds)
  twenty-exactly = (there, back)
    where
      there : number_told done.answer ≡ 20 ∷ [] → Above d first (length ds)
      there e =
          by-outcome (λ a s. a)
          (λ a l s. let z : ◌≡◌ {A = ℕ} 21 20 = says_same (sym (refused_says Refusal.ShortListing out s).0 ∙ e) in absurd (omega arith))
          (λ a l s. says_nothing (sym (written-says (lines d first ds) out s).0 ∙ e))

      back : Above d first (length ds) → number_told done.answer ≡ 20 ∷ []
      back a = by-outcome (λ b s. (refused_says Refusal.LastCapture out s).0) (λ n l s. absurd (n a)) (λ n l s. absurd (n a))

  -- "then number 21 when the output is shorter than 17 bytes a line"
  pub twenty-one-exactly : (number_told done.answer ≡ 21 ∷ []) ↔ ((¬ Above d first (length ds)) × (length out < length ds * line_length d))
  twenty-one-exactly = (there, back)
    where
      there : number_told done.answer ≡ 21 ∷ [] → (¬ Above d first (length ds)) × (length out < length ds * line_length d)
      there e =
          by-outcome
          (λ a s. let z : ◌≡◌ {A = ℕ} 20 21 = says_same (sym (refused_says Refusal.LastCapture out s).0 ∙ e) in absurd (omega arith))
          (λ n l s. (n, l))
          (λ n l s. says_nothing (sym (written-says (lines d first ds) out s).0 ∙ e))

      back : (¬ Above d first (length ds)) × (length out < length ds * line_length d) → number_told done.answer ≡ 21 ∷ []
      back p = by-outcome (λ a s. absurd (p.0 a)) (λ n l s. (refused_says Refusal.ShortListing out s).0) (λ n l s. absurd (omega (arith, p.1)))

  pub only-numbers : (n : ℕ) → number_told done.answer ≡ n ∷ [] → (n ≡ 20) ⊎ (n ≡ 21)
  only-numbers n e =
      by-outcome (λ a s. inl (says_same (sym e ∙ (refused_says Refusal.LastCapture out s).0))) (λ a l s. inr (says_same (sym e ∙ (refused_says Refusal.ShortListing out s).0)))
      (λ a l s. says_nothing (sym (written-says (lines d first ds) out s).0 ∙ e))

  -- "nothing is written then"
  pub refused-keeps : (n : ℕ) → number_told done.answer ≡ n ∷ [] → done.bytes ≡ out
  refused-keeps n e = by-outcome (λ a s. left s) (λ a l s. left s) (λ a l s. says_nothing (sym (written-says (lines d first ds) out s).0 ∙ e))

  -- the lines from the start on; "Places past the last line keep their values"
  pub written-means : Fit ds → (n : ℕ) → value_told done.answer ≡ n ∷ []
      → (n ≡ length ds * line_length d) × (take n done.bytes ≡ lines d first ds) × (drop n done.bytes ≡ drop n out)
  written-means fit n e =
      by-outcome (λ a s. says_nothing (sym (refused_says Refusal.LastCapture out s).1 ∙ e)) (λ a l s. says_nothing (sym (refused_says Refusal.ShortListing out s).1 ∙ e))
      (λ a l s. let text = lines d first ds in
      let count : n ≡ length text = says_same (sym e ∙ (written-says (lines d first ds) out s).1) in
      (count ∙ lines-length d first ds fit, rw (left s, count) (take-append_seam text (drop (length text) out)), rw (left s, count) (drop-append_seam text (drop (length text) out))))

-- "an empty list writes nothing and is accepted with any first"
pub empty-accepted : (d first : ℕ) (out : List ℕ) → listing d [] first out ≡ record { answer = Ok 0; bytes = out }
unfolding listing last_above lines
empty-accepted d first out = rw (zero-mul, le-ltb (length out) 0 (omega arith))
