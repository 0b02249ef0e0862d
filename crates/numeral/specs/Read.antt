-- What is read from the bytes of a word. Assumes nothing.
use Rattle.std.specs.Prelude.{ℕ, ◌-◌, ◌%◌, cond, List, ltb, leb, eqb, length, get_or, drop, Option, Some, None}
use Rattle.numeral.specs.Digit.{are_digits, value_of}

-- The value of digits of base b, where each byte is one and the value is at most limit.
unfoldable pub value_in : ℕ → ℕ → List ℕ → Option ℕ
value_in b limit cs = cond (are_digits b cs) (cond (leb (value_of b 0 cs) limit) (Some (value_of b 0 cs)) None) None

-- A hexadecimal number of least to most digits, at least one and at most eight, of either case.
unfoldable pub read_hex : ℕ → ℕ → List ℕ → Option ℕ
read_hex least most cs =
    cond (ltb (length cs) 1) None
    (cond (ltb (length cs) least) None (cond (ltb most (length cs)) None (cond (ltb 8 (length cs)) None (value_in 16 4294967295 cs))))

-- A decimal of one to ten digits, leading zeros among them, of a value that is at most limit.
unfoldable pub read_decimal : ℕ → List ℕ → Option ℕ
read_decimal limit cs = cond (ltb (length cs) 1) None (cond (ltb 10 (length cs)) None (value_in 10 limit cs))

-- The two's complement word of 32 bits of -n.
unfoldable pub negated : Option ℕ → Option ℕ
negated (Some n) = Some ((4294967296 - n) % 4294967296)
negated None = None

-- A decimal of one to ten digits with or without a minus before them, -2,147,483,648 to 2,147,483,647, as such a word.
unfoldable pub read_signed : List ℕ → Option ℕ
read_signed cs =
    cond (ltb (length cs) 1) None
    (cond (eqb (get_or cs 0 0) 45) (negated (read_decimal 2147483648 (drop 1 cs))) (read_decimal 2147483647 cs))
