-- The first line of an answer, and how it is ended. Assumes nothing.
use Rattle.std.specs.Prelude.{ℕ, ◌+◌, ◌≤◌, List, [], Bool, true, false, ◌≡◌, ℤ}
use Rattle.device.specs.Model.{is_sound}
use Rattle.text.specs.OwnPut.{Puts}
use Rattle.item_line.specs.Line.{Fault, Call, Expected}
use Rattle.item_line.specs.OwnBounds.{CallBound}
use Rattle.item_answer.specs.declared.Carried.{Carried}
use Rattle.item_answer.specs.declared.Stepped.{Stepped}
use Rattle.item_answer.specs.Answer.{Item, Told, Result, told, fault, answer, call_result}
use Rattle.item_answer.specs.Step.{bad_step}
use Rattle.item_answer.specs.OwnView.{item_of, tally_of}
use Rattle.item_answer.specs.OwnRoom.{runs_ticks}
use Rattle.item_chip_code.specs.declared.Answered.{Answered}
use Rattle.item_keep_code.specs.declared.Judged.{Judged}
use Rattle.item_keep_code.specs.OwnJudged.{Judges, line_at, tallied}
use Rattle.item_answer_code.specs.OwnSteps.{Few, StepsBeside}

-- The first line of this answer is put into l from `at` on, which leaves l'.
pub record First (t : Told) (l : List ℕ) (at : ℕ) (r : Answered) (fs : List ℕ) (ds : List ℤ) (es l' : List ℕ) : Type 0 where
  pub line : Puts l at t.line r.end l'
  pub item : item_of r.carried fs ds es ≡ t.item
  pub refused : r.refused ≡ t.refused
  pub few : Few r.carried

-- The first line, which was put from the place `start` on, is ended and counted.
pub record Closes (calls : ℕ) (x : Expected) (first : Answered) (start : ℕ) (k : List ℕ) (r : Stepped) (l' : List ℕ) : Type 0 where
  pub judged : Judged
  pub is : Judges k first.end (line_at k start first.end) x judged l'
  pub end : r.end ≡ judged.end
  pub adds : tally_of r.adds ≡ tallied calls first.refused judged
  pub carried : r.carried ≡ first.carried

-- The answer in a result; of a fault it is empty.
unfoldable pub told_in : Item → Result → Told
told_in i (told t) = t
told_in i (fault f) = answer [] [] i

unfoldable pub call_told : Call → Item → Told
call_told call i = told_in i (call_result call i)

-- A call that is neither `tick` nor `at`, on a sound item.
pub record CallReady (call : Call) (c : Carried) : Type 0 where
  pub sound : is_sound c.model ≡ true
  pub bound : CallBound call
  pub ticks : runs_ticks call ≡ false
  pub few : Few c
  pub moment : c.moment + 4294967296 ≤ 18446744073709551615

-- Its first line, and the lines after it, on a buffer.
abbrev pub CallFirst : Call → Carried → List ℕ → List ℤ → List ℕ → List ℕ → ℕ → Answered → List ℕ → List ℕ → Type 0
CallFirst call c fs ds es l at r fs' l' = First (call_told call (item_of c fs ds es)) l at r fs' ds es l'

abbrev pub CallFurther : (List ℕ → Call) → Carried → List ℤ → List ℕ → ℕ → ℕ → List ℕ → Type 0
CallFurther call c ds l at r l' =
    (ns fs es : List ℕ) → Puts l at (call_told (call ns) (item_of c fs ds es)).further r l'

-- The first line of an answer that leaves the lent lists as they are.
abbrev pub FirstBeside : (Item → Told) → Carried → List ℤ → List ℕ → List ℕ → ℕ → Answered → List ℕ → Type 0
FirstBeside telling c ds es l at r l' = (fs : List ℕ) → First (telling (item_of c fs ds es)) l at r fs ds es l'

-- A line that adds, whose first line stands from the place `at` to `end` where there was room for what it adds; else nothing was put.
pub record AddSteps (number : ℕ) (c : Carried) (fits : Bool) (end : ℕ) (x : Expected) (k : List ℕ) (at : ℕ) (r : Stepped) (l' : List ℕ) : Type 0 where
  pub fitting : fits ≡ true → Closes 0 x record { carried = c; end = end; refused = false } at k r l'
  pub full : fits ≡ false → StepsBeside (bad_step number Fault.no_room) c k end r l'
