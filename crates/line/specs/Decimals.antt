-- Lists of decimals. Assumes nothing.
use Rattle.std.specs.Prelude.{ℕ, ◌+◌, Bool, cond, List, [], ◌∷◌, set, Option, Some, None}
use Rattle.numeral.specs.Read.{read_decimal, read_signed}
use Rattle.line.specs.declared.Tally.{Tally}
use Rattle.line.specs.declared.Tally.TheVariants.{All}
use Rattle.line.specs.Numbers.{Outcome}

-- One of them: with a sign its two's complement word, else 0 to 4,294,967,295.
unfoldable pub decimal_of : Bool → List ℕ → Option ℕ
decimal_of signed w = cond signed (read_signed w) (read_decimal 4294967295 w)

abbrev pub on_number : Option ℕ → (ℕ → Outcome) → Outcome → Outcome
on_number (Some v) f z = f v
on_number None f z = z

-- The rest of a list, after n numbers: it is wrong at the first word that is none.
unfoldable pub listed : Bool → ℕ → List ℕ → List (List ℕ) → Outcome
listed signed n l [] = record { tally = All n 0 0; numbers = l }
listed signed n l (w ∷ ws) =
    on_number (decimal_of signed w) (λ v. listed signed (n + 1) (set l n v) ws) (record { tally = Tally.Wrong; numbers = l })
