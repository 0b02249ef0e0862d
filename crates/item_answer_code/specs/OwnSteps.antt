-- What one line on an item leaves, and what it asks for. Assumes nothing.
use Rattle.std.specs.Prelude.{ℕ, ◌+◌, ◌≤◌, Bool, true, false, List, ◌∷◌, ◌≡◌, ℤ, length}
use Rattle.device.specs.Model.{is_sound}
use Rattle.numeral.specs.Ascii.{ascii}
use Rattle.text.specs.Text.{Text, ended, spaced}
use Rattle.text.specs.OwnPut.{Puts}
use Rattle.item_line.specs.Line.{Line}
use Rattle.item_line.specs.OwnBounds.{LineBound}
use Rattle.item_answer.specs.declared.Carried.{Carried}
use Rattle.item_answer.specs.declared.Stepped.{Stepped}
use Rattle.item_answer.specs.Answer.{Item, fresh_item}
use Rattle.item_answer.specs.Step.{Step, uncounted}
use Rattle.item_answer.specs.OwnView.{item_of, tally_of}
use Rattle.item_answer.specs.OwnRoom.{is_ticks}

-- The record and the probe table have at most as many places as are lent.
pub record Few (c : Carried) : Type 0 where
  pub recorded : c.recorded ≤ 4096
  pub probes : c.probes ≤ 1024

-- Whether a line is `show`.
unfoldable pub is_show : Line → Bool
is_show Line.silent = false
is_show (Line.bad f) = false
is_show (Line.item name) = false
is_show Line.show = true
is_show (Line.expect a ws) = false
is_show (Line.read a ws) = false
is_show (Line.call c x) = false
is_show (Line.ask a x) = false
is_show (Line.keep k x) = false

-- None of `tick`, `at` and `show`, and a sound item with lists of these lengths.
pub record Ready (line : Line) (c : Carried) (fs : List ℕ) (ds : List ℤ) (es : List ℕ) : Type 0 where
  pub sound : is_sound c.model ≡ true
  pub bound : LineBound line
  pub ticks : is_ticks line ≡ false
  pub page : is_show line ≡ false
  pub flash : length fs ≡ 8192
  pub differences : length ds ≡ 4096
  pub entries : length es ≡ 1024
  pub few : Few c
  pub moment : c.moment + 4294967296 ≤ 18446744073709551615

-- The line's text is put into l from `at` on, which leaves l', and the item and the counts are those of the step; the counts where the text has
-- room, since an answer is judged where it stands.
pub record Steps (s : Step) (l : List ℕ) (at : ℕ) (r : Stepped) (fs : List ℕ) (ds : List ℤ) (es l' : List ℕ) : Type 0 where
  pub text : Puts l at s.text r.end l'
  pub item : item_of r.carried fs ds es ≡ s.item
  pub adds : at + length s.text ≤ length l → tally_of r.adds ≡ s.adds
  pub few : Few r.carried

-- The same of a line that leaves the lent lists as they are, whatever they have.
abbrev pub StepsBeside : (Item → Step) → Carried → List ℕ → ℕ → Stepped → List ℕ → Type 0
StepsBeside step c l at r l' =
    (fs : List ℕ) (ds : List ℤ) (es : List ℕ) → Steps (step (item_of c fs ds es)) l at r fs ds es l'

-- The line `item` with this name, whatever the record and the probe table hold.
abbrev pub Starts : List Text → List ℕ → ℕ → Stepped → List ℕ → List ℕ → Type 0
Starts name l at r fs l' =
    (ds : List ℤ) (es : List ℕ) → Steps (uncounted (ended (spaced (ascii "item" ∷ name))) fresh_item) l at r fs ds es l'
