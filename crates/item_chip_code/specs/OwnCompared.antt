-- What lines that compare registers' words leave. Assumes nothing.
use Rattle.std.specs.Prelude.{ℕ, zero, suc, ◌+◌, List, ◌++◌, ◌≡◌, ℤ, length}
use Rattle.unit.specs.Choice.{negate}
use Rattle.numeral.specs.Digit.{digits}
use Rattle.device.specs.Reply.{flag}
use Rattle.text.specs.Text.{Text, ended, is}
use Rattle.text.specs.OwnPut.{Puts}
use Rattle.item_line.specs.Line.{Wanted}
use Rattle.item_answer.specs.declared.Carried.{Carried}
use Rattle.item_answer.specs.declared.Stepped.{Stepped}
use Rattle.item_answer.specs.Words.{difference, differences, joined, verdict}
use Rattle.item_answer.specs.Answer.{Item, read_call, read_words, transacted}
use Rattle.item_answer.specs.Step.{Step, expectations}
use Rattle.item_answer.specs.OwnView.{item_of, tally_of}
use Rattle.item_chip_code.specs.declared.Compared.{Compared}

-- A line that comes to this step of its item, which is carried with this user flash, is answered so, whatever the record and the probe table have.
pub record Steps (step : Item → Step) (c : Carried) (flash l : List ℕ) (at : ℕ) (r : Stepped) (flash' l' : List ℕ) : Type 0 where
  pub text : (ds : List ℤ) (es : List ℕ) → Puts l at (step (item_of c flash ds es)).text r.end l'
  pub item : (ds : List ℤ) (es : List ℕ) → item_of r.carried flash' ds es ≡ (step (item_of c flash ds es)).item
  pub adds : (ds : List ℤ) (es : List ℕ) → tally_of r.adds ≡ (step (item_of c flash ds es)).adds

-- The same of a line that does not reach the user flash, whatever that has.
pub record StepsBeside (step : Item → Step) (c : Carried) (l : List ℕ) (at : ℕ) (r : Stepped) (l' : List ℕ) : Type 0 where
  pub any : (flash : List ℕ) → Steps step c flash l at r flash l'

-- The verdict from here on, where so many words differed before.
unfoldable pub verdict_after : ℕ → List Text → Text
verdict_after zero ds = verdict ds
verdict_after (suc n) ds = joined ds

-- A word is compared: whatever the others come to, what was put comes before it.
pub record Judges (c : Compared) (address has : ℕ) (wanted : Wanted) (l : List ℕ) (r : Compared) (l' : List ℕ) : Type 0 where
  pub put : (others : List Text) (k : List ℕ) (q : ℕ) → Puts l' r.end (verdict_after r.differ others) q k
      → Puts l c.end (verdict_after c.differ (difference address has wanted ++ others)) q k
  pub differ : r.differ ≡ c.differ + length (difference address has wanted)
  pub expected : r.expectations ≡ c.expectations + flag (negate (is "xxxx" wanted))

-- Some words were compared, and these are left: whatever completes the verdict from here on, all of it stands there.
pub record Comparing (l : List ℕ) (at : ℕ) (all : List Text) (total : ℕ) (k : List ℕ) (c : Compared) (address : ℕ) (hs : List ℕ) (ws : List Wanted) : Type 0 where
  pub put : (k' : List ℕ) (q : ℕ) → Puts k c.end (verdict_after c.differ (differences address hs ws)) q k' → Puts l at (verdict all) q k'
  pub differ : c.differ + length (differences address hs ws) ≡ length all
  pub expected : c.expectations + expectations ws ≡ total

-- A whole line of the words that registers have and those wanted, after the keyword and its blank.
pub record Compares (keyword : Text) (calls a : ℕ) (has : List ℕ) (wanted : List Wanted) (c : Carried) (l : List ℕ) (at : ℕ) (r : Stepped) (l' : List ℕ) : Type 0 where
  pub text : Puts l at (ended (keyword ++ digits 16 2 a ++ verdict (differences a has wanted))) r.end l'
  pub carried : r.carried ≡ c
  pub adds : tally_of r.adds ≡ record { calls = calls; refused = 0; unannounced = 0; bad = 0; expectations = expectations wanted; differ = length (differences a has wanted) }

-- A read of n words from the address a on.
pub record ReadsWords (c : Carried) (a n : ℕ) (flash : List ℕ) (r : Carried) (words flash' : List ℕ) : Type 0 where
  pub long : length words ≡ n
  pub words_are : (ds : List ℤ) (es : List ℕ) → words ≡ read_words (item_of c flash ds es) a n
  pub item : (ds : List ℤ) (es : List ℕ) → item_of r flash' ds es ≡ transacted (item_of c flash ds es) (read_call (item_of c flash ds es) a n)
