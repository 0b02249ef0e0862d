-- A list of words as the numbers that are stored, word by word. Assumes nothing.
use Rattle.std.specs.Prelude.{ℕ, ◌+◌, ◌≤◌, true, false, List, [], ◌∷◌, ◌≡◌, eqb, set, Option, Some, None}
use Rattle.unit.specs.Choice.{pick, both}
use Rattle.numeral.specs.Read.{read_hex, read_decimal, read_signed}
use Rattle.text.specs.Text.{Text, is}
use Rattle.text.specs.OwnPart.{part}
use Rattle.item_line.specs.Reading.{Got, number_of}
use Rattle.item_line_code.specs.declared.Kind.{Kind}
use Rattle.item_line_code.specs.declared.Form.{Form}
use Rattle.item_line_code.specs.declared.ListWord.{ListWord}
use Rattle.item_line_code.specs.declared.Tally.{Tally}

-- The number of a word of a form.
unfoldable pub read_as : Kind → ℕ → ℕ → Text → Option ℕ
read_as Kind.Hex least most w = read_hex least most w
read_as Kind.Count least most w = read_decimal 4294967295 w
read_as Kind.Quanta least most w = read_signed w

unfoldable pub number_in : Form → Text → Option ℕ
number_in f w = read_as f.kind f.least f.most w

unfoldable pub formed : Form → Text → Got ℕ
formed f w = number_of w (number_in f w)

-- One to eight hexadecimal digits; decimals; decimals with or without a sign.
abbrev pub word_form : Form
word_form = record { kind = Kind.Hex; least = 1; most = 8; slash = false }

abbrev pub flight_form : Form
flight_form = record { kind = Kind.Hex; least = 1; most = 8; slash = true }

abbrev pub count_form : Form
count_form = record { kind = Kind.Count; least = 1; most = 8; slash = false }

abbrev pub quanta_form : Form
quanta_form = record { kind = Kind.Quanta; least = 1; most = 8; slash = false }

abbrev pub of_number : Option ℕ → ListWord
of_number (Some v) = ListWord.Word v
of_number None = ListWord.Wrong

-- What a word is; a `/` parts a list that slashes part.
unfoldable pub list_word : Form → Text → ListWord
list_word f w = pick (both f.slash (is "/" w)) ListWord.Slash (of_number (number_in f w))

-- What a list of words comes to: how many numbers, slashes, and numbers before the first of these; or the wrong word.
pub data Tallied : Type 0 where
  all : ℕ → ℕ → ℕ → Tallied
  bad : Text → Tallied

unfoldable pub as_tally : Text → Tally → Tallied
as_tally s (Tally.All n k u) = all n k u
as_tally s (Tally.Wrong word) = bad (part s word)

-- That, and the list in which its numbers were stored.
pub record Outcome : Type 0 where
  pub tally : Tallied
  pub numbers : List ℕ

abbrev pub on_list_word : ListWord → Outcome → (ℕ → Outcome) → Outcome → Outcome
on_list_word ListWord.Slash a f z = a
on_list_word (ListWord.Word v) a f z = f v
on_list_word ListWord.Wrong a f z = z

-- The rest of a list, after n numbers and k slashes, with u numbers before the first.
unfoldable pub tallied : Form → ℕ → ℕ → ℕ → List ℕ → List Text → Outcome
tallied f n k u l [] = record { tally = all n k u; numbers = l }
tallied f n k u l (w ∷ ws) =
    on_list_word (list_word f w) (tallied f n (k + 1) (pick (eqb k 0) n u) l ws) (λ v. tallied f (n + 1) k u (set l n v) ws)
    (record { tally = bad w; numbers = l })

-- What was read of a whole list of words, and the list in which its numbers were stored.
abbrev pub Tallies : Form → Text → List Text → List ℕ → Tally → List ℕ → Type 0
Tallies f s ws l r l' = record { tally = as_tally s r; numbers = l' } ≡ tallied f 0 0 0 l ws

-- A word that is named ends by a place.
unfoldable pub EndsBy : ℕ → Tally → Type 0
EndsBy n (Tally.All c k u) = Unit
EndsBy n (Tally.Wrong word) = word.end ≤ n
