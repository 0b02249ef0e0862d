-- The first demand, as one statement about any machine: 01's table in plain bytes, words and fields, and what an accepted and a refused
-- call leave. Quotations are from 01, but for those that name a note of the change requests and those beside the claims, which are the
-- demand's own words.
use Rattle.std.specs.Prelude.{ℕ, ◌+◌, ◌-◌, ◌*◌, ◌/◌, ◌%◌, ◌≤◌, ◌<◌, min, true, false, List, [], ◌∷◌, ◌↔◌, ◌⊎◌, ◌≡◌, length, get_or, drop}
use Rattle.device.specs.Base.{pick, CalendarValid, AlarmValid, word_of}
use Rattle.device.specs.declared.Model.{Model}
use Rattle.device.specs.declared.Reply.{Reply}
use Rattle.device.specs.Model.{is_sound}
use Rattle.device.specs.Registers.{register_word}
use Rattle.device.specs.Write.{written, setup_after}
use Rattle.device.specs.Call.{Call, transaction, tick, flight, temperature, stretch, opcode, further, words}
use Rattle.device.specs.Reply.{accepted_answer, accepted_model, accepted_output, accepted_memory, reply, number_in, values_in, buffer_of, output, memory_of, memory}
use Rattle.device.specs.Plain.{Command, Write, Read, Flash, Running}
use Rattle.demands.specs.Terms.{hits_of}

-- A machine: what it replies to every call on every model, and the output buffer and user flash that it leaves.
pub record Machine : Type 0 where
  pub reply : Model → Call → Reply
  pub output : Model → Call → List ℕ
  pub memory : Model → Call → List ℕ

-- the one that the contracts of the calls name
abbrev pub ours : Machine
ours = record { reply = reply; output = output; memory = memory }

-- The conditions of the table for frames: `f` is the frame, `o` the output buffer, `x` the user flash.

-- 2 "first byte not carried"
abbrev pub NotCarried : List ℕ → Type 0
NotCarried f = ¬ (Command f ⊎ Write f ⊎ Read f ⊎ Flash f)

-- 3 "a command with more bytes, or a read or write whose further bytes are not n ≥ 1 whole words"; "a length other than five bytes,
-- for erase three" (Note 8)
abbrev pub WholeWords : List ℕ → Type 0
WholeWords f = (n : ℕ) × (1 ≤ n) × (further f ≡ 2 * n)

abbrev pub WrongLength : List ℕ → Type 0
WrongLength f =
    (Command f × (1 < length f)) ⊎ ((Write f ⊎ Read f) × (¬ WholeWords f)) ⊎
    (((opcode f ≡ 0x90) ⊎ (opcode f ≡ 0x10)) × (¬ (length f ≡ 5))) ⊎
    ((opcode f ≡ 0x13) × (¬ (length f ≡ 3)))

-- 4 "a write past 43h or a read past FFh"
abbrev pub last_register : List ℕ → ℕ
last_register f = opcode f + words f - 1

abbrev pub PastRegisters : List ℕ → Type 0
PastRegisters f = (Write f × (0x43 < last_register f)) ⊎ (Read f × (0xFF < last_register f))

-- 5 "a read with an output buffer below 2n bytes"; "a flash read with an output below two bytes" (Note 8)
abbrev pub ShortOutput : List ℕ → List ℕ → Type 0
ShortOutput f o = (Read f × (length o < 2 * words f)) ⊎ ((opcode f ≡ 0x90) × (length o < 2))

-- 6 "a write, or a command but HALT and Reset, while a measurement is awaited or an event runs"; "6 to all five, the flash read
-- too" (Note 8)
abbrev pub Busy : Model → List ℕ → Type 0
Busy m f =
    (Write f ⊎ Flash f ⊎ (Command f × (¬ (opcode f ≡ 0x04)) × (¬ (opcode f ≡ 0x0A)))) ×
    (Running m.flight.schedule ⊎ Running m.temperature.schedule)

-- 15 "supply off when the regulator isn't on" (Note 8)
abbrev pub SupplyOff : Model → List ℕ → Type 0
SupplyOff m f = Flash f × (m.regulator ≡ false)

-- 16 "flash address for a memory of another size, an odd address in a read or write, or one above 1FFFh" (Note 8)
abbrev pub address : List ℕ → ℕ
address f = get_or f 1 0 * 256 + get_or f 2 0

abbrev pub BadAddress : List ℕ → List ℕ → Type 0
BadAddress f x =
    Flash f × ((¬ (length x ≡ 8192)) ⊎ ((¬ (opcode f ≡ 0x13)) × (address f % 2 ≡ 1)) ⊎ (0x1FFF < address f))

-- 17 "not erased for a write on another word" (Note 8) than FFFFh
abbrev pub NotErased : List ℕ → List ℕ → Type 0
NotErased f x = (opcode f ≡ 0x10) × (¬ (get_or x (address f) 0 * 256 + get_or x (address f + 1) 0 ≡ 0xFFFF))

-- 7 "the clock after the write, or the alarm, would be invalid": a register's word after the write is the frame's, or where the write
-- leaves it out the one that it reads; of the alarm the word that the whole write leaves in 35h
abbrev pub word_after : Model → List ℕ → ℕ → ℕ
word_after m f a = written (drop 1 f) (opcode f) (words f) a (register_word m (a + 0x80))

abbrev pub alarm_after : Model → List ℕ → ℕ
alarm_after m f = word_of (setup_after (drop 1 f) (opcode f) m.setup (words f)) 0x35

abbrev pub BadCalendar : Model → List ℕ → Type 0
BadCalendar m f =
    Write f ×
    (¬ (CalendarValid (word_after m f 0x30) (word_after m f 0x31) (word_after m f 0x32) (word_after m f 0x33) ×
    AlarmValid (alarm_after m f)))

-- 8 "00h to 03h, 07h to 09h before Initialize"
abbrev pub Event : List ℕ → Type 0
Event f = (0x07 ≤ opcode f) × (opcode f ≤ 0x09)

abbrev pub NotInitialised : Model → List ℕ → Type 0
NotInitialised m f = ((opcode f ≤ 0x03) ⊎ Event f) × (m.initialised ≡ false)

-- 9 "for flight, PL (15:8 of 38h) or DPL (7:4) zero; for temperature, TP (6:5 of 40h) not 11b"; of an event "also: .. EOSC is 1" (bit
-- 4 of 43h); "only the kinds run are judged for PL, DPL and TP"; "Number 9 no longer occurs for ET_CONT." (Note 5)
abbrev pub NoPulses : Model → Type 0
NoPulses m = (word_of m.setup 0x38 / 256 % 256 ≡ 0) ⊎ (word_of m.setup 0x38 / 16 % 16 ≡ 0)

abbrev pub BadSetup : Model → List ℕ → Type 0
BadSetup m f =
    (((opcode f ≤ 0x02) ⊎ (opcode f ≡ 0x07) ⊎ (opcode f ≡ 0x08)) × NoPulses m) ⊎
    (((opcode f ≡ 0x03) ⊎ (opcode f ≡ 0x07) ⊎ (opcode f ≡ 0x09)) × (¬ (word_of m.setup 0x40 / 32 % 4 ≡ 3))) ⊎
    (Event f × (word_of m.setup 0x43 / 16 % 2 ≡ 1))

-- Those for deliveries. 11 "a delivery with another number of words": "an up list and a down list, each of H words, H = STOP + 1 and
-- at most 6 (STOP is 15:13 of 39h); the unmeasured direction's list is empty"
abbrev pub Miscounted : Model → List ℕ → List ℕ → Type 0
Miscounted m u d =
    ¬ ((length u ≡ pick m.flight.up (hits_of m) 0) × (length d ≡ pick m.flight.down (hits_of m) 0))

-- A number of the table, and when it is given.
pub record Refusal : Type 1 where
  pub number : ℕ
  pub When : Type 0

abbrev pub refusal : ℕ → Type 0 → Refusal
refusal n p = record { number = n; When = p }

-- Conditions of transactions, of deliveries and of stretches; no other call meets them.
abbrev pub OnFrame : Call → (List ℕ → List ℕ → List ℕ → Type 0) → Type 0
OnFrame (transaction f o x) Holds = Holds f o x
OnFrame tick Holds = ⊥
OnFrame (flight u d) Holds = ⊥
OnFrame (temperature w) Holds = ⊥
OnFrame (stretch n) Holds = ⊥

abbrev pub OnDelivery : Call → (List ℕ → List ℕ → Type 0) → (List ℕ → Type 0) → Type 0
OnDelivery (transaction f o x) Flights Temperatures = ⊥
OnDelivery tick Flights Temperatures = ⊥
OnDelivery (flight u d) Flights Temperatures = Flights u d
OnDelivery (temperature w) Flights Temperatures = Temperatures w
OnDelivery (stretch n) Flights Temperatures = ⊥

abbrev pub OnStretch : Call → (ℕ → Type 0) → Type 0
OnStretch (transaction f o x) Holds = ⊥
OnStretch tick Holds = ⊥
OnStretch (flight u d) Holds = ⊥
OnStretch (temperature w) Holds = ⊥
OnStretch (stretch n) Holds = Holds n

-- "Checked in this order"; 15 to 17 "after number 6, in this order" (Note 8); 1 "no bytes"; 10 "a delivery of a kind that is not
-- awaited"; 12 "span, for a larger n" than 16,384 (Note 1)
abbrev pub rows : Model → Call → List Refusal
rows m c =
    refusal 0 (is_sound m ≡ false) ∷
    refusal 1 (OnFrame c (λ f o x. length f ≡ 0)) ∷
    refusal 2 (OnFrame c (λ f o x. NotCarried f)) ∷
    refusal 3 (OnFrame c (λ f o x. WrongLength f)) ∷
    refusal 4 (OnFrame c (λ f o x. PastRegisters f)) ∷
    refusal 5 (OnFrame c (λ f o x. ShortOutput f o)) ∷
    refusal 6 (OnFrame c (λ f o x. Busy m f)) ∷
    refusal 15 (OnFrame c (λ f o x. SupplyOff m f)) ∷
    refusal 16 (OnFrame c (λ f o x. BadAddress f x)) ∷
    refusal 17 (OnFrame c (λ f o x. NotErased f x)) ∷
    refusal 7 (OnFrame c (λ f o x. BadCalendar m f)) ∷
    refusal 8 (OnFrame c (λ f o x. NotInitialised m f)) ∷
    refusal 9 (OnFrame c (λ f o x. BadSetup m f)) ∷
    refusal 10 (OnDelivery c (λ u d. m.flight.schedule.left.0 ≡ 0) (λ w. m.temperature.schedule.left.0 ≡ 0)) ∷
    refusal 11 (OnDelivery c (λ u d. Miscounted m u d) (λ w. ¬ (length w ≡ 4))) ∷
    refusal 12 (OnStretch c (λ n. 16384 < n)) ∷
    []

-- "the first whose condition holds is given"
abbrev pub First : List Refusal → ℕ → Type 0
First [] n = ⊥
First (q ∷ qs) n = (q.When × (q.number ≡ n)) ⊎ ((¬ q.When) × First qs n)

-- "none when none holds"
abbrev pub None : List Refusal → Type 0
None [] = Unit {0}
None (q ∷ qs) = (¬ q.When) × None qs

-- "Every bus transaction, tick and delivery of hit words that the model accepts leaves exactly the registers, clock and output bytes
-- that document 01 gives for it." What these are is said here by the definitions of Reply; the second demand says in plain words what
-- the definitions come to.
pub record AcceptedClaim (M : Machine) (m : Model) (c : Call) : Type 0 where
  pub values : values_in (M.reply m c).answer ≡ values_in (accepted_answer m c)
  pub model : (M.reply m c).model ≡ accepted_model m c
  pub output : M.output m c ≡ accepted_output m c
  pub memory : M.memory m c ≡ accepted_memory c

-- "Every one that it turns down, however malformed or untimely, gets its number from 01 and changes nothing."
pub record RefusedClaim (M : Machine) (m : Model) (c : Call) : Type 0 where
  pub values : values_in (M.reply m c).answer ≡ []
  pub model : (M.reply m c).model ≡ m
  pub output : M.output m c ≡ buffer_of c
  pub memory : M.memory m c ≡ memory_of c

pub record CallClaim (M : Machine) (m : Model) (c : Call) : Type 0 where
  -- a number is given exactly when its condition is the first that holds, and none exactly when none holds
  pub given : (n : ℕ) → (number_in (M.reply m c).answer ≡ n ∷ []) ↔ First (rows m c) n
  pub none : (number_in (M.reply m c).answer ≡ []) ↔ None (rows m c)
  -- an accepted call leaves what the definitions give, and a refused one changes nothing
  pub left : None (rows m c) → AcceptedClaim M m c
  pub kept : (n : ℕ) → First (rows m c) n → RefusedClaim M m c
  -- every call is accepted or refused
  pub decided : None (rows m c) ⊎ ((n : ℕ) × First (rows m c) n)

-- for every model, sound or not, and every call
abbrev pub FirstDemand : Machine → Type 0
FirstDemand M = (m : Model) (c : Call) → CallClaim M m c
