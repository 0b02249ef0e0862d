-- Numbers as bytes, low byte first.
use Rattle.std.specs.Prelude.{ℕ, zero, suc, ◌+◌, ◌*◌, ◌/◌, ◌%◌, List, [], ◌∷◌, ◌++◌, take, drop}

-- numbers of k bytes are below it
unfoldable pub bound : ℕ → ℕ
bound zero = 1
bound (suc k) = 256 * bound k

-- the k bytes of a number
unfoldable pub bytes_of : ℕ → ℕ → List ℕ
bytes_of zero x = []
bytes_of (suc k) x = x % 256 ∷ bytes_of k (x / 256)

-- the number of some bytes
unfoldable pub value : List ℕ → ℕ
value [] = 0
value (b ∷ bs) = b + 256 * value bs

-- numbers of k bytes, one after the other
unfoldable pub all_bytes : ℕ → List ℕ → List ℕ
all_bytes k [] = []
all_bytes k (x ∷ xs) = bytes_of k x ++ all_bytes k xs

-- the first n numbers of k bytes
unfoldable pub numbers : ℕ → ℕ → List ℕ → List ℕ
numbers k zero bs = []
numbers k (suc n) bs = value (take k bs) ∷ numbers k n (drop k bs)
