-- Digits in a base of at most 16, as ASCII bytes. Assumes nothing.
use Rattle.std.specs.Prelude.{ℕ, zero, suc, ◌+◌, ◌-◌, ◌*◌, ◌/◌, ◌%◌, Bool, true, cond, ◌&&◌, List, [], ◌∷◌, ◌++◌, ltb}

-- The value of a byte as a digit: '0' to '9' are 0 to 9, 'A' to 'F' and 'a' to 'f' are 10 to 15. 16 stands for a byte that is no digit.
unfoldable pub digit_of : ℕ → ℕ
digit_of c =
    cond (ltb c 48) 16
    (cond (ltb c 58) (c - 48) (cond (ltb c 65) 16 (cond (ltb c 71) (c - 55) (cond (ltb c 97) 16 (cond (ltb c 103) (c - 87) 16)))))

-- The byte of a digit: '0' to '9', then capitals.
unfoldable pub glyph : ℕ → ℕ
glyph d = cond (ltb d 10) (48 + d) (55 + d)

-- Each byte is a digit of base b.
unfoldable pub are_digits : ℕ → List ℕ → Bool
are_digits b [] = true
are_digits b (c ∷ cs) = ltb (digit_of c) b && are_digits b cs

-- The value of digits in base b, the most significant first, where n is the value of those before them.
unfoldable pub value_of : ℕ → ℕ → List ℕ → ℕ
value_of b n [] = n
value_of b n (c ∷ cs) = value_of b (n * b + digit_of c) cs

-- The last k digits of v in base b, the most significant first.
unfoldable pub digits : ℕ → ℕ → ℕ → List ℕ
digits b zero v = []
digits b (suc k) v = digits b k (v / b) ++ (glyph (v % b) ∷ [])
