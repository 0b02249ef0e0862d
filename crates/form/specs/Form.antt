-- A form that is filled in with values, as texts that are put one after the other. Assumes nothing.
use Rattle.std.specs.Prelude.{ℕ, ◌+◌, ◌-◌, ◌*◌, ◌/◌, ◌%◌, cond, List, [], ◌∷◌, ◌++◌, ltb, eqb, get_or, drop}
use Rattle.numeral.specs.Digit.{digits}
use Rattle.numeral.specs.Print.{decimal, nanoseconds}
use Rattle.numeral.specs.Ascii.{ascii}
use Rattle.listing.specs.Listing.{right_justified}
use Rattle.wording.specs.Text.{PutEach}
use Rattle.wording.specs.Wording.{Texts, reported_where}

-- the word of 32 bits of two of 16
unfoldable pub pair_of : ℕ → ℕ → ℕ
pair_of v w = v % 65536 * 65536 + w % 65536

-- both words of a pair, in hexadecimal
unfoldable pub pair_texts : ℕ → Texts
pair_texts q = digits 16 4 (q / 65536) ∷ ascii " " ∷ digits 16 4 (q % 65536) ∷ ascii "  " ∷ []

-- nanoseconds in 14 places
unfoldable pub time_texts : ℕ → Texts
time_texts q = right_justified 14 (nanoseconds q) ∷ ascii " ns" ∷ []

-- what a pair says: FFFFh FFFFh is no time
unfoldable pub result_texts : ℕ → Texts
result_texts q = cond (eqb q 4294967295) (ascii "no time" ∷ []) (time_texts q)

-- of a port, 0000h 0000h is none either
unfoldable pub port_texts : ℕ → Texts
port_texts q = cond (eqb q 0) (ascii "no time: short, or not measured" ∷ []) (result_texts q)

-- a register's word, and what stands before its meaning
unfoldable pub register_texts : ℕ → Texts
register_texts v = digits 16 4 v ∷ ascii "      " ∷ []

-- a number and what it counts: `1 hit`, `2 hits`
unfoldable pub plural_texts : ℕ → List ℕ → Texts
plural_texts n what = decimal n ∷ what ∷ cond (ltb n 2) [] (ascii "s" ∷ [])

-- A piece, by its first byte: the value v, or the pair of v and w
unfoldable pub piece_texts : List ℕ → ℕ → ℕ → Texts
piece_texts p v w =
    cond (eqb (get_or p 0 0) 35) (decimal v ∷ [])
    (cond (eqb (get_or p 0 0) 36) (register_texts v)
    (cond (eqb (get_or p 0 0) 37) (digits 16 2 v ∷ [])
    (cond (eqb (get_or p 0 0) 38) (plural_texts v (drop 1 p))
    (cond (eqb (get_or p 0 0) 63) (reported_where (eqb v (get_or p 1 0 - 48)) (drop 2 p))
    (cond (eqb (get_or p 0 0) 64) (register_texts v)
    (cond (eqb (get_or p 0 0) 60) (pair_texts (pair_of v w))
    (cond (eqb (get_or p 0 0) 61) (pair_texts (pair_of v w) ++ result_texts (pair_of v w))
    (cond (eqb (get_or p 0 0) 62) (pair_texts (pair_of v w) ++ port_texts (pair_of v w))
    (p ∷ [])))))))))

-- how many values it takes, by the same byte
unfoldable pub takes : ℕ → ℕ
takes c = cond (ltb c 35) 0 (cond (ltb c 39) 1 (cond (ltb c 60) 0 (cond (ltb c 63) 2 (cond (eqb c 63) 1 0))))

-- The pieces, of which each ends before a bar; p is what of a piece was read. 0 stands for a value that is missing.
unfoldable pub form_texts : List ℕ → List ℕ → List ℕ → Texts
form_texts p [] vs = []
form_texts p (c ∷ cs) vs =
    cond (eqb c 124) (piece_texts p (get_or vs 0 0) (get_or vs 1 0)) []
    ++ form_texts (cond (eqb c 124) [] (p ++ (c ∷ []))) cs (cond (eqb c 124) (drop (takes (get_or p 0 0)) vs) vs)

-- To put a form that is filled in with values.
pub record PutForm (l : List ℕ) (at : ℕ) (form vs : List ℕ) (r : ℕ) (l' : List ℕ) : Type 0 where
  pub put : PutEach l at (form_texts [] form vs) r l'
