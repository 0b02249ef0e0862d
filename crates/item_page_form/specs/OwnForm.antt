-- A form that is filled in with values, and the text that follows it. Assumes nothing.
use Rattle.std.specs.Prelude.{ℕ, ◌+◌, ◌-◌, ◌*◌, ◌/◌, ◌%◌, List, [], ◌∷◌, ◌++◌, ltb, eqb, get_or, drop}
use Rattle.unit.specs.Choice.{pick}
use Rattle.numeral.specs.Ascii.{ascii}
use Rattle.numeral.specs.Digit.{digits}
use Rattle.numeral.specs.Print.{decimal}
use Rattle.text.specs.Text.{Text, text_where}
use Rattle.text.specs.OwnPut.{Puts}
use Rattle.item_page.specs.Registers.{result_text, port_text}

-- What is put leads on to all that is put after it: f is the text with what follows.
pub record Leads (l : List ℕ) (at : ℕ) (f : Text → Text) (r : ℕ) (l' : List ℕ) : Type 0 where
  pub on : (rest : Text) (s : ℕ) (l'' : List ℕ) → Puts l' r rest s l'' → Puts l at (f rest) s l''

-- the word of 32 bits of two of 16
unfoldable pub pair_of : ℕ → ℕ → ℕ
pair_of v w = v % 65536 * 65536 + w % 65536

-- both words of a pair, and what stands before its meaning
unfoldable pub pair_then : ℕ → Text → Text
pair_then q rest = digits 16 4 (q / 65536) ++ (ascii " " ++ (digits 16 4 (q % 65536) ++ (ascii "  " ++ rest)))

-- a number and what it counts
unfoldable pub plural_then : ℕ → List ℕ → Text → Text
plural_then n what rest = decimal n ++ (what ++ (text_where (ltb 1 n) (ascii "s") ++ rest))

-- A piece, by its first byte: the value v, or the pair of v and w.
unfoldable pub piece_then : List ℕ → ℕ → ℕ → Text → Text
piece_then p v w rest =
    pick (eqb (get_or p 0 0) 35) (decimal v ++ rest)
    (pick (eqb (get_or p 0 0) 36) (digits 16 4 v ++ rest)
    (pick (eqb (get_or p 0 0) 37) (digits 16 2 v ++ rest)
    (pick (eqb (get_or p 0 0) 38) (plural_then v (drop 1 p) rest)
    (pick (eqb (get_or p 0 0) 63) (text_where (eqb v (get_or p 1 0 - 48)) (drop 2 p) ++ rest)
    (pick (eqb (get_or p 0 0) 64) (digits 16 4 v ++ rest)
    (pick (eqb (get_or p 0 0) 60) (pair_then (pair_of v w) rest)
    (pick (eqb (get_or p 0 0) 61) (pair_then (pair_of v w) (result_text (pair_of v w) ++ rest))
    (pick (eqb (get_or p 0 0) 62) (pair_then (pair_of v w) (port_text (pair_of v w) ++ rest)) (p ++ rest)))))))))

-- how many values it takes, by the same byte
unfoldable pub takes : ℕ → ℕ
takes c = pick (ltb c 35) 0 (pick (ltb c 39) 1 (pick (ltb c 60) 0 (pick (ltb c 63) 2 (pick (eqb c 63) 1 0))))

-- The pieces, of which each ends before a bar; p is what of a piece was read, and n the place of the next value. 0 stands for a value that is
-- missing.
unfoldable pub filled : List ℕ → List ℕ → List ℕ → ℕ → Text → Text
filled p [] vs n rest = rest
filled p (c ∷ cs) vs n rest =
    pick (eqb c 124) (piece_then p (get_or vs n 0) (get_or vs (n + 1) 0)) (λ text. text)
    (filled (pick (eqb c 124) [] (p ++ (c ∷ []))) cs vs (pick (eqb c 124) (n + takes (get_or p 0 0)) n) rest)
