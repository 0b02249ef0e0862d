-- What is read on, and what is to be answered next. Assumes nothing.
--
-- How far reading has come: 0 the file may have more bytes, 1 it has none, 2 it can't be read; and with nothing left to answer either,
-- 3 of a file that was read to its end, 4 of one that was not.
use Rattle.std.specs.Prelude.{ℕ, zero, suc, ◌+◌, ◌-◌, ◌≤◌, ◌<◌, min, Bool, true, false, cond, List, [], ◌++◌, ◌≡◌, eqb, ltb, Result, Ok, Err, length, take, drop}
use Rattle.line_buffer.specs.Lines.{has_line}
use Rattle.session.specs.Flush.{line_ending}
use Rattle.session.specs.declared.input.InputState.{InputState}
use Rattle.session.specs.declared.input.InputState.TheVariants.{More, Ended, Unreadable, Done, BrokenOff}

-- The bytes of a buffer that are to be answered: from one place to before another.
abbrev pub to_answer : ℕ → ℕ → List ℕ → List ℕ
to_answer from end part = drop from (take end part)

-- The number of each state of the code.
abbrev pub number_of : InputState → ℕ
number_of More = 0
number_of Ended = 1
number_of Unreadable = 2
number_of Done = 3
number_of BrokenOff = 4

-- ---- reading on

-- The operating system tells how many bytes it put behind those that are held, 0 at the end of the file, or an error where it can't be
-- read: how far reading has come,
unfoldable pub state_after : {E : Type 0} → Result ℕ E → ℕ
state_after (Err e) = 2
state_after (Ok zero) = 1
state_after (Ok (suc n)) = 0

-- and what is to be answered: those that are held and those behind them; the last line, which gets a line feed; nothing.
unfoldable pub bytes_after : {E : Type 0} → Result ℕ E → ℕ → List ℕ → List ℕ
bytes_after (Err e) held part = []
bytes_after (Ok zero) held part = line_ending (take held part)
bytes_after (Ok (suc n)) held part = take (held + min (suc n) (length part - held)) part

-- Behind bytes that are held others are read, one at least, which the operating system puts there; at the end of the file none are, and bytes that are
-- held get a line feed; of a file that can't be read nothing is left.
pub record ReadOn (held : List ℕ) (state : ℕ) (bytes : List ℕ) : Type 0 where
  pub known : state ≤ 2
  pub more : state ≡ 0 → bytes ≡ held ++ drop (length held) bytes
  pub some : state ≡ 0 → length held < length bytes
  pub ended : state ≡ 1 → bytes ≡ line_ending held
  pub failed : state ≡ 2 → bytes ≡ []

-- ---- between two turns

-- There is something to answer or to read.
unfoldable pub goes_on : ℕ → Bool
goes_on state = ltb state 3

-- The file was read to its end, and all of it is answered.
unfoldable pub was_whole : ℕ → Bool
was_whole state = eqb state 3

-- Nothing is left to answer: the replay is over, or breaks off.
unfoldable pub over_from : ℕ → ℕ
over_from state = cond (eqb state 2) 4 3

-- Of the bytes that are left a line is answered next; where they have none and the file has no more, the replay is over; else of the
-- start of a line 1,002 bytes at most are held, and the file is read on.
pub record WentOn (left : List ℕ) (state next : ℕ) (bytes : List ℕ) : Type 0 where
  pub line : has_line left ≡ true → (next ≡ state) × (bytes ≡ left)
  pub over : has_line left ≡ false → ¬ (state ≡ 0) → (next ≡ over_from state) × (bytes ≡ [])
  pub read : has_line left ≡ false → state ≡ 0 → ReadOn (take 1002 left) next bytes
