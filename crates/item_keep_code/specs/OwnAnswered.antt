-- What code tells of an answer that leaves its item as it was. Assumes nothing.
use Rattle.std.specs.Prelude.{ℕ, List, ◌≡◌}
use Rattle.text.specs.OwnPut.{Puts}
use Rattle.item_answer.specs.Answer.{Item, Told}
use Rattle.item_keep_code.specs.declared.Answered.{Answered}

-- The first line of an answer is put into l from `at` on, which leaves l'.
pub record Answers (l : List ℕ) (at : ℕ) (t : Told) (i : Item) (r : Answered) (l' : List ℕ) : Type 0 where
  pub line : Puts l at t.line r.end l'
  pub refused : r.refused ≡ t.refused
  pub item : t.item ≡ i

-- So for every item that has what the code was lent.
abbrev pub AnswersFor : (Item → Type 0) → List ℕ → ℕ → (Item → Told) → Answered → List ℕ → Type 0
AnswersFor has l at told r l' = (i : Item) → has i → Answers l at (told i) i r l'

-- And the lines after the first.
abbrev pub FurtherFor : (Item → Type 0) → List ℕ → ℕ → (Item → Told) → ℕ → List ℕ → Type 0
FurtherFor has l at told r l' = (i : Item) → has i → Puts l at (told i).further r l'
