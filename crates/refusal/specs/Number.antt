-- The number of each refusal, and what an answer says that may be one.
use Rattle.std.specs.Prelude.{ℕ, List, [], ◌∷◌, Result, Ok, Err}
use Rattle.refusal.specs.declared.Refusal.{Refusal}
use Rattle.refusal.specs.declared.Refusal.TheVariants.{NotSound, NoFrame, Opcode, FrameLength, Address, ShortOutput, Busy, Calendar, NotInitialised, SetUp, NotAwaited, WordCount, Span, OffTable, BadTable, SupplyOff, FlashAddress, NotErased, Width, ShortBuffer, LastCapture, ShortListing}

-- 01's table, and 02's numbers after it
abbrev pub number : Refusal → ℕ
number NotSound = 0
number NoFrame = 1
number Opcode = 2
number FrameLength = 3
number Address = 4
number ShortOutput = 5
number Busy = 6
number Calendar = 7
number NotInitialised = 8
number SetUp = 9
number NotAwaited = 10
number WordCount = 11
number Span = 12
number OffTable = 13
number BadTable = 14
number SupplyOff = 15
number FlashAddress = 16
number NotErased = 17
number Width = 18
number ShortBuffer = 19
number LastCapture = 20
number ShortListing = 21

-- What a question or an analysis answers: its number where it is a refusal, else its values.
abbrev pub number_told : {A : Type 0} → Result A Refusal → List ℕ
number_told (Ok a) = []
number_told (Err r) = number r ∷ []

abbrev pub values_told : {A V : Type 0} → (A → List V) → Result A Refusal → List V
values_told values (Ok a) = values a
values_told values (Err r) = []

-- of an answer of one value
abbrev pub value_told : {A : Type 0} → Result A Refusal → List A
value_told = values_told (λ a. a ∷ [])
