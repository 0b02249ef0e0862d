-- Every call, and its refusals in the order of 01's table.
use Rattle.std.specs.Prelude.{ℕ, ◌-◌, ◌*◌, ◌/◌, Bool, false, List, [], ◌∷◌, length, get_or, drop, ltb, eqb}
use Rattle.device.specs.Base.{pick, both, negate}
use Rattle.device.specs.Base.{hit_count, is_command, is_write, is_read, is_flash, flash_further, not_whole, past_end, Model}
use Rattle.device.specs.Event.{is_awaited}
use Rattle.device.specs.Model.{is_sound, is_busy}
use Rattle.device.specs.Write.{write_invalid}
use Rattle.device.specs.Delivery.{flight_miscounted}
use Rattle.device.specs.FlashFrame.{flash_address, flash_unreachable, flash_unerased}
use Rattle.device.specs.Bus.{command_busy, before_initialize, command_unset}
use Rattle.refusal.specs.declared.Refusal.{Refusal}

-- The calls that a list may hold: a transaction has its frame, and the output buffer and the user flash before it.
pub data Call : Type 0 where
  transaction : List ℕ → List ℕ → List ℕ → Call
  tick : Call
  flight : List ℕ → List ℕ → Call
  temperature : List ℕ → Call
  stretch : ℕ → Call

-- "The opcode is the first byte"; the bytes after it; how many whole words these are
abbrev pub opcode : List ℕ → ℕ
opcode f = get_or f 0 0

abbrev pub further : List ℕ → ℕ
further f = length f - 1

abbrev pub words : List ℕ → ℕ
words f = further f / 2

-- By the opcode's sort: a command, a write, a flash frame, or else a read (number 2 turns away what is none of them).
abbrev pub by_sort : {A : Type 0} → List ℕ → A → A → A → A → A
by_sort f c w u r = pick (is_command (opcode f)) c (pick (is_write (opcode f)) w (pick (is_flash (opcode f)) u r))

-- A condition that frames alone can meet
abbrev pub on_frame : Call → (List ℕ → List ℕ → List ℕ → Bool) → Bool
on_frame (transaction f o x) holds = holds f o x
on_frame tick holds = false
on_frame (flight u d) holds = false
on_frame (temperature w) holds = false
on_frame (stretch n) holds = false

-- What holds of a delivery, of flight words or of temperature words; of another call, the value given first
abbrev pub on_delivery : {A : Type 0} → Call → A → (List ℕ → List ℕ → A) → (List ℕ → A) → A
on_delivery (transaction f o x) other by_flight by_temperature = other
on_delivery tick other by_flight by_temperature = other
on_delivery (flight u d) other by_flight by_temperature = by_flight u d
on_delivery (temperature w) other by_flight by_temperature = by_temperature w
on_delivery (stretch n) other by_flight by_temperature = other

-- What holds of a tick, and of a stretch; of another call, the value given first
abbrev pub on_time : {A : Type 0} → Call → A → A → (ℕ → A) → A
on_time (transaction f o x) other by_tick by_stretch = other
on_time tick other by_tick by_stretch = by_tick
on_time (flight u d) other by_tick by_stretch = other
on_time (temperature w) other by_tick by_stretch = other
on_time (stretch n) other by_tick by_stretch = by_stretch n

-- The conditions of the table, one for each number.

-- 1 "no bytes"
unfoldable pub no_frame : Call → Bool
no_frame c = on_frame c (λ f o x. eqb (length f) 0)

-- 2 "first byte not carried"
unfoldable pub not_carried : Call → Bool
not_carried c = on_frame c (λ f o x. by_sort f false false false (negate (is_read (opcode f))))

-- 3 "a command with more bytes, or a read or write whose further bytes are not n ≥ 1 whole words"; "exactly for a length other than
-- five bytes, for erase three" (Note 8)
unfoldable pub wrong_length : Call → Bool
wrong_length c =
    on_frame c
    (λ f o x.
    by_sort f (negate (eqb (further f) 0)) (not_whole (further f)) (negate (eqb (further f) (flash_further (opcode f))))
    (not_whole (further f)))

-- 4 "a write past 43h or a read past FFh"
unfoldable pub past_registers : Call → Bool
past_registers c =
    on_frame c
    (λ f o x. by_sort f false (past_end (opcode f) (words f) 0x44) false (past_end (opcode f) (words f) 0x100))

-- 5 "a read with an output buffer below 2n bytes"; "a flash read with an output below two bytes" (Note 8)
unfoldable pub short_output : Call → Bool
short_output c =
    on_frame c
    (λ f o x. by_sort f false false (both (eqb (opcode f) 0x90) (ltb (length o) 2)) (ltb (length o) (2 * words f)))

-- 6 "a write, or a command but HALT and Reset, while a measurement is awaited or an event runs"; "6 to all five, the flash read
-- too" (Note 8)
unfoldable pub while_busy : Model → Call → Bool
while_busy m c = on_frame c (λ f o x. by_sort f (command_busy m (opcode f)) (is_busy m) (is_busy m) false)

-- 15 "supply off when the regulator isn't on" (Note 8)
unfoldable pub supply_off : Model → Call → Bool
supply_off m c = on_frame c (λ f o x. by_sort f false false (negate m.regulator) false)

-- 16 "flash address for a memory of another size, an odd address in a read or write, or one above 1FFFh" (Note 8)
unfoldable pub unreachable : Call → Bool
unreachable c =
    on_frame c
    (λ f o x. by_sort f false false (flash_unreachable (opcode f) (length x) (flash_address (drop 1 f))) false)

-- 17 "not erased for a write on another word" (Note 8)
unfoldable pub unerased : Call → Bool
unerased c = on_frame c (λ f o x. by_sort f false false (flash_unerased (opcode f) x (flash_address (drop 1 f))) false)

-- 7 "the clock after the write, or the alarm, would be invalid"
unfoldable pub bad_calendar : Model → Call → Bool
bad_calendar m c = on_frame c (λ f o x. by_sort f false (write_invalid (drop 1 f) (opcode f) (words f) m) false false)

-- 8 "00h to 03h, 07h to 09h before Initialize"
unfoldable pub not_initialised : Model → Call → Bool
not_initialised m c = on_frame c (λ f o x. by_sort f (before_initialize m (opcode f)) false false false)

-- 9 "see each command"
unfoldable pub bad_setup : Model → Call → Bool
bad_setup m c = on_frame c (λ f o x. by_sort f (command_unset m (opcode f)) false false false)

-- 10 "a delivery of a kind that is not awaited"
unfoldable pub not_awaited : Model → Call → Bool
not_awaited m c =
    on_delivery c false (λ u d. negate (is_awaited m.flight.schedule)) (λ w. negate (is_awaited m.temperature.schedule))

-- 11 "a delivery with another number of words"
unfoldable pub miscounted : Model → Call → Bool
miscounted m c =
    on_delivery c false (λ u d. flight_miscounted m.flight (hit_count m.setup) (length u) (length d))
    (λ w. negate (eqb (length w) 4))

-- 12 "span, for a larger n" than 16,384, "after number 0" (Note 1)
unfoldable pub too_long : Call → Bool
too_long c = on_time c false false (λ n. ltb 16384 n)

-- The table: a refusal and whether its condition holds. Numbers 15 to 17 stand "after number 6, in this order" (Note 8).
pub record Row : Type 0 where
  pub refusal : Refusal
  pub holds : Bool

abbrev pub row : Refusal → Bool → Row
row r b = record { refusal = r; holds = b }

unfoldable pub table : Model → Call → List Row
table m c =
    row Refusal.NotSound (negate (is_sound m)) ∷
    row Refusal.NoFrame (no_frame c) ∷
    row Refusal.Opcode (not_carried c) ∷
    row Refusal.FrameLength (wrong_length c) ∷
    row Refusal.Address (past_registers c) ∷
    row Refusal.ShortOutput (short_output c) ∷
    row Refusal.Busy (while_busy m c) ∷
    row Refusal.SupplyOff (supply_off m c) ∷
    row Refusal.FlashAddress (unreachable c) ∷
    row Refusal.NotErased (unerased c) ∷
    row Refusal.Calendar (bad_calendar m c) ∷
    row Refusal.NotInitialised (not_initialised m c) ∷
    row Refusal.SetUp (bad_setup m c) ∷
    row Refusal.NotAwaited (not_awaited m c) ∷
    row Refusal.WordCount (miscounted m c) ∷
    row Refusal.Span (too_long c) ∷
    []

-- "Checked in this order: the first whose condition holds is given, none when none holds."
pub data Verdict : Type 0 where
  accepted : Verdict
  refused : Refusal → Verdict

unfoldable pub first_of : List Row → Verdict
first_of [] = accepted
first_of (r ∷ rs) = pick r.holds (refused r.refusal) (first_of rs)

unfoldable pub verdict : Model → Call → Verdict
verdict m c = first_of (table m c)
