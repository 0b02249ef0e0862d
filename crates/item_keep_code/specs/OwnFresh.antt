-- What code carries of a fresh item. Assumes nothing.
use Rattle.std.specs.Prelude.{ℕ, List, ◌≡◌, ℤ}
use Rattle.item_answer.specs.declared.Carried.{Carried}
use Rattle.item_answer.specs.Answer.{fresh_item}
use Rattle.item_answer.specs.OwnView.{item_of}

-- With this user flash, and whatever the lent record and probe table hold.
abbrev pub Fresh : Carried → List ℕ → Type 0
Fresh c flash = (differences : List ℤ) (entries : List ℕ) → item_of c flash differences entries ≡ fresh_item
