-- What a line that speaks to the chip leaves. Assumes nothing.
use Rattle.std.specs.Prelude.{ℕ, List, [], ◌++◌, ◌≡◌, ℤ, length}
use Rattle.device.specs.declared.Model.{Model}
use Rattle.device.specs.declared.Answer.{Answer}
use Rattle.device.specs.Call.{Call}
use Rattle.device.specs.Reply.{reply, output}
use Rattle.text.specs.Text.{Text, ended_each}
use Rattle.text.specs.OwnPut.{Puts}
use Rattle.item_line.specs.Line.{Ask}
use Rattle.item_answer.specs.declared.Carried.{Carried}
use Rattle.item_answer.specs.Words.{answer_text, register_line, register_lines}
use Rattle.item_answer.specs.Answer.{Item, Told, is_refusal, transacted, stretch_told, int_text, awaited_text}
use Rattle.item_answer.specs.OwnView.{item_of}
use Rattle.item_chip_code.specs.declared.Answered.{Answered}
use Rattle.item_chip_code.specs.declared.Exchanged.{Exchanged}

-- A line that tells this of its item, which is carried with this user flash, is answered so: whatever the record and the probe table have, the first
-- line of the answer is put from the place `at` on, and the item and the refusal are those told.
pub record Answers (told : Item → Told) (c : Carried) (flash l : List ℕ) (at : ℕ) (r : Answered) (flash' l' : List ℕ) : Type 0 where
  pub line : (ds : List ℤ) (es : List ℕ) → Puts l at (told (item_of c flash ds es)).line r.end l'
  pub item : (ds : List ℤ) (es : List ℕ) → item_of r.carried flash' ds es ≡ (told (item_of c flash ds es)).item
  pub refused : (ds : List ℤ) (es : List ℕ) → r.refused ≡ (told (item_of c flash ds es)).refused

-- The same of a line that does not reach the user flash, whatever that has.
pub record AnswersBeside (told : Item → Told) (c : Carried) (l : List ℕ) (at : ℕ) (r : Answered) (l' : List ℕ) : Type 0 where
  pub any : (flash : List ℕ) → Answers told c flash l at r flash l'

-- A transaction is answered so, and leaves this.
pub record Exchanges (c : Carried) (frame out flash : List ℕ) (r : Exchanged) (out' flash' : List ℕ) : Type 0 where
  pub answer : r.answer ≡ (reply c.model (Call.transaction frame out flash)).answer
  pub output : out' ≡ output c.model (Call.transaction frame out flash)
  pub long : length out' ≡ length out
  pub item : (ds : List ℤ) (es : List ℕ) → item_of r.carried flash' ds es ≡ transacted (item_of c flash ds es) (Call.transaction frame out flash)

-- An answer of the chip is put after the line's first word, with the blank after it; the item is this.
pub record Tells (c : Carried) (answer : Answer) (keyword : Text) (l : List ℕ) (at : ℕ) (r : Answered) (l' : List ℕ) : Type 0 where
  pub line : Puts l at (keyword ++ answer_text answer) r.end l'
  pub carried : r.carried ≡ c
  pub refused : r.refused ≡ is_refusal answer

-- One stretch of n ticks.
unfoldable pub stretch_line : ℕ → Item → Told
stretch_line n i = let r = reply i.model (Call.stretch n) in stretch_told n r.answer r.model i

-- The first line of the answer to a question.
unfoldable pub ask_line : Ask → Model → Text
ask_line Ask.int m = int_text m
ask_line Ask.awaited m = awaited_text m
ask_line Ask.regs m = register_line m 0xB0

-- The lines after it.
unfoldable pub ask_further : Ask → Model → Text
ask_further Ask.int m = []
ask_further Ask.awaited m = []
ask_further Ask.regs m = ended_each (register_lines m 0xB8 9)
