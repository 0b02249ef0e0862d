-- What a replay keeps from line to line beside the model: its counts, and the answers that are not written yet. Assumes nothing.
use Rattle.std.specs.Prelude.{ℕ, ◌+◌, min, List, length, get_or, set}
use Rattle.numeral.specs.Place.{Placed, put_each}
use Rattle.device.specs.declared.Answer.{Answer}
use Rattle.device.specs.Reply.{number_in}

-- The counts, a number in each of 22 places, and the buffer that answers are put into.
pub record Log : Type 0 where
  pub counts : List ℕ
  pub answers : List ℕ

-- k more in a place, or the largest number that fits
unfoldable pub added : List ℕ → ℕ → ℕ → List ℕ
added counts place k = set counts place (min (get_or counts place 0 + k) 18446744073709551615)

-- where texts put behind the answers so far would end, and what they would leave; the first count is where these end
abbrev pub put : List (List ℕ) → Log → Placed
put texts l = put_each l.answers (get_or l.counts 0 0) texts

-- the texts put behind the answers so far
unfoldable pub said : List (List ℕ) → Log → Log
said texts l = record { counts = set l.counts 0 (put texts l).next; answers = (put texts l).bytes }

-- "C counts the lines .. that were calls, R those of them answered `no`": a call more
unfoldable pub call_counted : ℕ → List ℕ → List ℕ
call_counted refused counts = added (added counts 3 1) 4 refused

-- the same, the answers now ending at `used`
unfoldable pub counted : List ℕ → ℕ → ℕ → List ℕ
counted counts refused used = set (call_counted refused counts) 0 used

-- a call answered with texts
unfoldable pub called : ℕ → List (List ℕ) → Log → Log
called refused texts l = record { counts = counted l.counts refused (put texts l).next; answers = (put texts l).bytes }

-- 1 for an answer `no`, which has a number
unfoldable pub refusals : Answer → ℕ
refusals answer = length (number_in answer)
