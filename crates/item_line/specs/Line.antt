-- What a line of an item can say. What stands in quotation marks is that of the description of items. Assumes nothing.
use Rattle.std.specs.Prelude.{ℕ, List, ℤ}
use Rattle.listing.specs.declared.Width.{Width}
use Rattle.text.specs.Text.{Text}

-- "A line that is none of these is no call": the six texts, with the word that is named.
pub data Fault : Type 0 where
  too_long : Fault
  unknown_word : Text → Fault
  bad_number : Text → Fault
  wrong_count : Fault
  past : Fault
  no_room : Fault

-- How long the output buffer of a transaction is: as its frame says, or as `out=N` says.
pub data Output : Type 0 where
  by_frame : Output
  out_of : ℕ → Output

-- The lines that count as calls, except `read`: `bus` with its bytes; `set` with its address and words; `tick`, `at` and `stretch` with their
-- ticks; `flight` with the up words and the down words; `temperature` with its words; `frames`; `degrees` with the probe's word and its
-- reference's; `listing` with the width of its numbers and the first of them; `quietest` with its width.
pub data Call : Type 0 where
  bus : Output → List ℕ → Call
  set : ℕ → List ℕ → Call
  tick : ℕ → Call
  at : ℕ → Call
  stretch : ℕ → Call
  flight : List ℕ → List ℕ → Call
  temperature : List ℕ → Call
  frames : Call
  degrees : ℕ → ℕ → Call
  listing : Width → ℕ → Call
  quietest : ℕ → Call

-- The lines that ask.
pub data Ask : Type 0 where
  int : Ask
  awaited : Ask
  regs : Ask

-- The lines that add to what an item keeps beside its model: entries of `probe`, differences of `record`; of none
-- TOF_DIFF as it stands.
pub data Keep : Type 0 where
  probe : List ℕ → Keep
  differences : List ℤ → Keep

-- What a line expects of its answer: it has no `=>`, or these words behind it.
pub data Expected : Type 0 where
  unmarked : Expected
  marked : List Text → Expected

-- What is wanted of a register's word: four bytes, each a capital hexadecimal digit or a small x.
abbrev pub Wanted : Type 0
Wanted = Text

-- A line: one that is passed over, one that is no call, an item's with the words of its name, `show`, `expect` and `read` with their address
-- and the words wanted, and the lines that may expect an answer.
pub data Line : Type 0 where
  silent : Line
  bad : Fault → Line
  item : List Text → Line
  show : Line
  expect : ℕ → List Wanted → Line
  read : ℕ → List Wanted → Line
  call : Call → Expected → Line
  ask : Ask → Expected → Line
  keep : Keep → Expected → Line
