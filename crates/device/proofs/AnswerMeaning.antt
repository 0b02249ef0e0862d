-- What answers say, in 01's numbers and values.
use Prim.Native.Nat.{ℕ, ◌≤◌, ◌<◌}
use native.Mathlib.Omega.{arith}
use mathlib.Core.Bool.{Bool, true, false}
use mathlib.Core.List.{List, [], ◌∷◌}
use mathlib.Core.Logic.{◌⊎◌, ⊎_elim}
use mathlib.Core.Path.{◌≡◌, refl}
use borrow.Author.Tests.{le-ltb, lt-ltb}
use Rattle.unit.specs.Choice.{pick, negate}
use Rattle.unit.proofs.Cases.{by-test}
use Rattle.frame.specs.Frame.{is_command, is_write, is_flash}
use Rattle.device.specs.declared.Schedule.{Schedule}
use Rattle.device.specs.declared.Model.{Model}
use Rattle.device.specs.declared.Answer.TheVariants.{Good, Failed}
use Rattle.device.specs.Event.{is_awaited, begins, fails}
use Rattle.device.specs.Model.{is_sound}
use Rattle.device.specs.Registers.{register_word}
use Rattle.device.specs.Tick.{report_of}
use Rattle.device.specs.Stretch.{stretch_report, last_tick}
use Rattle.device.specs.Bus.{starts_flight, starts_temperature}
use Rattle.device.specs.Call.{transaction, tick, flight, temperature, stretch, opcode, accepted, verdict}
use Rattle.device.specs.Reply.{any_late, port_fault, accepted_answer, reply, reply_by, flag, values_in}
use Rattle.device.specs.Question.{interrupt_pending, awaited_told, regulator_on, peek}
use Rattle.refusal.specs.Number.{number, number_told, value_told}
use Rattle.std.specs.Prelude.{Result, Ok, Err}

-- "An accepted transaction answers the kinds that it started, none for a read, a write or another command."
pub command-says :
    (m : Model) (f o x : List ℕ) →
    is_command (opcode f) ≡ true →
    verdict m (transaction f o x) ≡ accepted →
    values_in (reply m (transaction f o x)).answer ≡ flag (starts_flight (opcode f)) ∷ flag (starts_temperature (opcode f)) ∷ []
unfolding reply reply_by accepted_answer values_in
command-says m f o x c v = rw (v, c)

pub frame-says :
    (m : Model) (f o x : List ℕ) →
    is_command (opcode f) ≡ false →
    verdict m (transaction f o x) ≡ accepted →
    values_in (reply m (transaction f o x)).answer ≡ 0 ∷ 0 ∷ []
unfolding reply reply_by accepted_answer values_in
frame-says m f o x c v =
    rw (v, c)
    (by-test (is_write (opcode f)) (λ w. rw w refl) (λ w. rw w (by-test (is_flash (opcode f)) (λ u. rw u refl) (λ u. rw u refl))))

-- "a tick's answer says for each kind whether one started and whether one failed in it"
pub tick-says :
    (m : Model) →
    verdict m tick ≡ accepted →
    values_in (reply m tick).answer
    ≡ flag (begins m.flight.schedule) ∷
    flag (fails m.flight.schedule) ∷
    flag (begins m.temperature.schedule) ∷
    flag (fails m.temperature.schedule) ∷
    []
unfolding reply reply_by accepted_answer values_in report_of
tick-says m v = rw v

-- a stretch's answer names the ticks (Note 1)
pub stretch-says :
    (m : Model) (n : ℕ) →
    verdict m (stretch n) ≡ accepted →
    values_in (reply m (stretch n)).answer
    ≡ last_tick begins m.flight.schedule n ∷
    last_tick fails m.flight.schedule n ∷
    last_tick begins m.temperature.schedule n ∷
    last_tick fails m.temperature.schedule n ∷
    []
unfolding reply reply_by accepted_answer values_in stretch_report
stretch-says m n v = rw v

delivered : (t : Bool) → values_in (pick t Failed Good) ≡ flag (negate t) ∷ []
unfolding values_in
delivered true = refl
delivered false = refl

-- "A delivery's answer says good or failed"
pub flight-says :
    (m : Model) (u d : List ℕ) →
    verdict m (flight u d) ≡ accepted →
    values_in (reply m (flight u d)).answer ≡ flag (negate (any_late m u d)) ∷ []
unfolding reply reply_by accepted_answer values_in
flight-says m u d v = rw v (delivered (any_late m u d))

pub temperature-says :
    (m : Model) (w : List ℕ) →
    verdict m (temperature w) ≡ accepted →
    values_in (reply m (temperature w)).answer ≡ flag (negate (port_fault m w)) ∷ []
unfolding reply reply_by accepted_answer values_in
temperature-says m w v = rw v (delivered (port_fault m w))

told : (t : Bool) → value_told (pick t (Ok 1) (Ok 0)) ≡ flag t ∷ []
told true = refl
told false = refl

-- A question to a model that is not sound is number 0.
pub unsound-told :
    (m : Model) (k : Schedule) (a : ℕ) →
    is_sound m ≡ false →
    (number_told (interrupt_pending m) ≡ 0 ∷ []) ×
    (number_told (awaited_told m k) ≡ 0 ∷ []) ×
    (number_told (regulator_on m) ≡ 0 ∷ []) ×
    (number_told (peek m a) ≡ 0 ∷ [])
unfolding interrupt_pending awaited_told regulator_on peek
unsound-told m k a s = rw s (refl, refl, refl, refl)

-- of a sound one: whether a kind is awaited, whether the regulator is on,
pub awaited-says : (m : Model) (k : Schedule) → is_sound m ≡ true → value_told (awaited_told m k) ≡ flag (is_awaited k) ∷ []
unfolding awaited_told
awaited-says m k s = rw s (told (is_awaited k))

pub regulator-says : (m : Model) → is_sound m ≡ true → value_told (regulator_on m) ≡ flag m.regulator ∷ []
unfolding regulator_on
regulator-says m s = rw s (told m.regulator)

-- and the word at a read address, B0h to FFh; another one is number 4
pub peek-says : (m : Model) (a : ℕ) → is_sound m ≡ true → 0xB0 ≤ a → a ≤ 0xFF → value_told (peek m a) ≡ register_word m a ∷ []
unfolding peek
peek-says m a s h i = rw (s, le-ltb a 0xB0 h, le-ltb 0xFF a i)

pub peek-refused : (m : Model) (a : ℕ) → is_sound m ≡ true → (a < 0xB0) ⊎ (0xFF < a) → number_told (peek m a) ≡ 4 ∷ []
unfolding peek
peek-refused m a s o =
    ⊎_elim (λ (h : a < 0xB0). rw (s, lt-ltb a 0xB0 h)) (λ (h : 0xFF < a). rw (s, le-ltb a 0xB0 (omega arith), lt-ltb 0xFF a h)) o
