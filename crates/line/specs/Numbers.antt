-- The numbers of a line. Assumes nothing.
use Rattle.std.specs.Prelude.{ℕ, ◌+◌, ◌<◌, ◌≡◌, Bool, false, cond, List, [], ◌∷◌, leb, eqb, length, get_or, set, Option, Some, None}
use Rattle.numeral.specs.Read.{read_hex}
use Rattle.line.specs.declared.Form.{Form}
use Rattle.line.specs.declared.ListWord.{ListWord}
use Rattle.line.specs.declared.ListWord.TheVariants.{Slash, Past, Word, Wrong}
use Rattle.line.specs.declared.Tally.{Tally}
use Rattle.line.specs.declared.Tally.TheVariants.{All}
use Rattle.line.specs.Words.{same_bytes}

-- A word is a `/`, in a list that slashes part.
unfoldable pub is_slash : Bool → List ℕ → Bool
is_slash slash w = cond slash (same_bytes w (47 ∷ [])) false

abbrev pub of_number : Option ℕ → ListWord
of_number (Some v) = Word v
of_number None = Wrong

-- What a word is after n numbers.
unfoldable pub list_word : Form → ℕ → List ℕ → ListWord
list_word f n w = cond (is_slash f.slash w) Slash (cond (leb f.looked n) Past (of_number (read_hex f.least f.most w)))

-- What a list of words comes to, and the buffer that its numbers were stored in.
pub record Outcome : Type 0 where
  pub tally : Tally
  pub numbers : List ℕ

abbrev pub on_list_word : ListWord → Outcome → Outcome → (ℕ → Outcome) → Outcome → Outcome
on_list_word Slash a b f z = a
on_list_word Past a b f z = b
on_list_word (Word v) a b f z = f v
on_list_word Wrong a b f z = z

-- The rest of a list, after n numbers and k slashes, with u numbers before the first: it is wrong at the first word that is wrong.
unfoldable pub tallied : Form → ℕ → ℕ → ℕ → List ℕ → List (List ℕ) → Outcome
tallied f n k u l [] = record { tally = All n k u; numbers = l }
tallied f n k u l (w ∷ ws) =
    on_list_word (list_word f n w) (tallied f n (k + 1) (cond (eqb k 0) n u) l ws) (tallied f (n + 1) k u l ws)
    (λ v. tallied f (n + 1) k u (set l n v) ws)
    (record { tally = Tally.Wrong; numbers = l })

-- From the number n on, c numbers are counted and stored.
pub record Stored (f : Form) (n : ℕ) (l : List ℕ) (ws : List (List ℕ)) (c : ℕ) (l' : List ℕ) : Type 0 where
  pub count : c ≡ n + length ws
  pub value : (i : ℕ) → i < length ws → read_hex f.least f.most (get_or ws i []) ≡ Some (get_or l' (n + i) 0)
  pub before : (i : ℕ) → i < n → get_or l' i 0 ≡ get_or l i 0
