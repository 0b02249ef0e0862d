-- Numbers as text. Assumes nothing.
use Rattle.std.specs.Prelude.{ℕ, zero, suc, ◌+◌, ◌-◌, ◌*◌, ◌/◌, ◌%◌, ◌≤◌, ◌<◌, cond, List, [], ◌∷◌, ◌++◌, ltb}
use Rattle.numeral.specs.Digit.{digits}

-- The low byte of each word.
unfoldable pub low_bytes : List ℕ → List ℕ
low_bytes [] = []
low_bytes (w ∷ ws) = w % 256 ∷ low_bytes ws

-- Two hexadecimal digits for each byte.
unfoldable pub hex_bytes : List ℕ → List ℕ
hex_bytes [] = []
hex_bytes (b ∷ bs) = digits 16 2 b ++ hex_bytes bs

-- How many decimal digits v takes without leading zeros, if at most k more than one.
unfoldable pub width_from : ℕ → ℕ → ℕ
width_from zero v = 1
width_from (suc k) v = cond (ltb v 10) 1 (suc (width_from k (v / 10)))

-- How many decimal digits a number below 2^64 takes without leading zeros, at most twenty.
unfoldable pub decimal_width : ℕ → ℕ
decimal_width v = width_from 19 v

-- A number in decimal, without leading zeros.
unfoldable pub decimal : ℕ → List ℕ
decimal v = digits 10 (decimal_width v) v

-- A number of quanta, of 250 / 65,536 nanoseconds each, in ten-thousandths of a nanosecond: rounded to the nearest, halves upward.
unfoldable pub ten_thousandths : ℕ → ℕ
ten_thousandths q = (q * 2500000 + 32768) / 65536

-- Of q quanta, n ten-thousandths of a nanosecond are the nearest number, and the greater one where two are equally near.
-- In parts of 1 / 65,536 ten-thousandth, q quanta are q * 250 * 10,000, n is n * 65,536, and a half is 32,768.
pub record Nearest (q n : ℕ) : Type 0 where
  pub not-above : n * 65536 ≤ q * 250 * 10000 + 32768
  pub not-below : q * 250 * 10000 < n * 65536 + 32768

-- A number, a point, and the last k digits of another.
abbrev pub pointed : ℕ → ℕ → ℕ → List ℕ
pointed whole k rest = decimal whole ++ (46 ∷ digits 10 k rest)

-- A number of ten-thousandths with four decimals after the point.
unfoldable pub four_decimals : ℕ → List ℕ
four_decimals n = pointed (n / 10000) 4 (n % 10000)

-- An unsigned word of quanta in nanoseconds.
unfoldable pub nanoseconds : ℕ → List ℕ
nanoseconds q = four_decimals (ten_thousandths q)

-- A two's complement word of 32 bits of quanta in nanoseconds, a minus before the first digit where it is negative.
unfoldable pub signed_nanoseconds : ℕ → List ℕ
signed_nanoseconds w = cond (ltb w 2147483648) (nanoseconds w) (45 ∷ nanoseconds (4294967296 - w))

-- A two's complement word of 32 bits in decimal, a minus before the first digit where it is negative.
unfoldable pub signed_decimal : ℕ → List ℕ
signed_decimal w = cond (ltb w 2147483648) (decimal w) (45 ∷ decimal (4294967296 - w))

-- A number of thousandths with three decimals after the point.
unfoldable pub thousandths : ℕ → List ℕ
thousandths n = pointed (n / 1000) 3 (n % 1000)
