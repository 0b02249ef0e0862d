-- A run on one user flash: each transaction is lent the memory that the one before it left. Quotations are from Note 8 of the
-- change requests.
use Rattle.std.specs.Prelude.{ℕ, ◌%◌, List, [], ◌∷◌, ◌++◌, ◌≡◌, length, drop, eqb}
use Rattle.device.specs.Base.{pick, flash_word, Operation, write, erase}
use Rattle.device.specs.Base.{last_word}
use Rattle.device.specs.declared.Model.{Model}
use Rattle.device.specs.Model.{fresh_model}
use Rattle.device.specs.FlashFrame.{flash_address, flash_data}
use Rattle.device.specs.Call.{Call, transaction, tick, flight, temperature, stretch, opcode, by_sort}
use Rattle.device.specs.Reply.{reply, memory}
use Rattle.demands.specs.EventHistory.{is_refusal}

-- A call, lent the memory x in place of its own.
unfoldable pub lent : List ℕ → Call → Call
lent x (transaction f o y) = transaction f o x
lent x tick = tick
lent x (flight u d) = flight u d
lent x (temperature w) = temperature w
lent x (stretch n) = stretch n

-- The memory that a call leaves. A call that is no transaction is lent none.
unfoldable pub memory_left : Model → List ℕ → Call → List ℕ
memory_left m x (transaction f o y) = memory m (transaction f o x)
memory_left m x tick = x
memory_left m x (flight u d) = x
memory_left m x (temperature w) = x
memory_left m x (stretch n) = x

unfoldable pub memory_through : Model → List ℕ → List Call → List ℕ
memory_through m x [] = x
memory_through m x (c ∷ cs) = memory_through (reply m (lent x c)).model (memory_left m x c) cs

-- The write or erase that an accepted call is: "write (10h) and block erase (13h)".
unfoldable pub flash_operation : ℕ → List ℕ → List Operation
flash_operation op b =
    pick (eqb op 0x10) (write (flash_address b) (flash_data b % 65536) ∷ [])
    (pick (eqb op 0x13) (erase (flash_address b) ∷ []) [])

unfoldable pub operation_of : Call → List Operation
operation_of (transaction f o x) = by_sort f [] [] (flash_operation (opcode f) (drop 1 f)) []
operation_of tick = []
operation_of (flight u d) = []
operation_of (temperature w) = []
operation_of (stretch n) = []

-- The writes and erases that a list of calls made, in order of time, told by the answers.
unfoldable pub operations : Model → List ℕ → List Call → List Operation
operations m x [] = []
operations m x (c ∷ cs) =
    pick (is_refusal (reply m (lent x c)).answer) [] (operation_of c) ++
    operations (reply m (lent x c)).model (memory_left m x c) cs

-- What a run on one memory of 8,192 bytes holds at an even address is the word last written there, FFFFh where its block was
-- erased since, and what it held at the start where neither happened.
abbrev pub FlashClaim : Type 0
FlashClaim =
    (cs : List Call) (x : List ℕ) (a : ℕ) →
    length x ≡ 8192 →
    a % 2 ≡ 0 →
    flash_word (memory_through fresh_model x cs) a ≡ last_word a (operations fresh_model x cs) (flash_word x a)
